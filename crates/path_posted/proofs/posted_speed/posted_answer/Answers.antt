-- `posted_answer`: the questions in their order.
use mathlib.Core.Path.{refl, ◌∙◌}
use Rattle.path.specs.Records.{lent}
use Rattle.path_posted.proofs.Answered.{posted-first, posted-10}
use Rattle.path.proofs.Told.{handed-on, told-err, told-ok, numbered, once}
use Rattle.path_posted.proofs.posted_speed.posted_answer.Goals as goal

pub returns-in_err-path_answer : goal.returns-in_err-path_answer
returns-in_err-path_answer c =
    let a = c.args in
    let l = lent a.cols.now in
    handed-on _ _ c.from_residual.ensures.1 ∙ posted-first a.x.0 a.p l c.is_finite-finite.ensures (told-err c.path_answer.ensures c.in_err-path_answer.was) (numbered _)

pub returns : goal.returns
returns c =
    let a = c.args in
    let l = lent a.cols.now in
    posted-10 a.x.0 a.p l c.is_finite-finite.ensures (told-ok c.path_answer.ensures c.in_ok-path_answer.was) refl c.get.ensures (once _ _ c.ask.ensures)
