-- `judge_trims`: questions 1 and 2 of the path, and then the trims in turn.
use mathlib.Core.Path.{refl}
use Rattle.path.specs.Records.{lent}
use Rattle.path.proofs.Told.{told-err, told-ok}
use Rattle.path_clear.proofs.Called.{got-first, got-going, some-links}
use Rattle.path_clear.proofs.clear_each.judge_trims.Goals as goal

pub returns-in_err-path_answer : goal.returns-in_err-path_answer
returns-in_err-path_answer c =
    let a = c.args in
    got-first a.xs.now a.p (lent a.cols.now) c.first_finite.ensures _ (told-err c.path_answer.ensures c.in_err-path_answer.was) _ c.from_residual.ensures.1

pub going-requires : goal.going-requires
going-requires c =
    let a = c.args in
    some-links a.xs.now a.p (lent a.cols.now) c.first_finite.ensures (told-ok c.path_answer.ensures c.in_ok-path_answer.was) refl

pub returns : goal.returns
returns c =
    let a = c.args in
    got-going a.xs.now a.p (lent a.cols.now) c.first_finite.ensures (told-ok c.path_answer.ensures c.in_ok-path_answer.was) refl _ c.going.ensures
