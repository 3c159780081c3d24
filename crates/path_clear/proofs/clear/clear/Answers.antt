-- `clear`: refused, and then how many links go, and the path without them.
use mathlib.Core.Path.{refl, ap, ◌∙◌}
use Rattle.path.specs.Records.{held}
use Rattle.path.proofs.Told.{told-err, told-ok, numbered}
use Rattle.path_clear.specs.Clear.{clear_answer}
use Rattle.path_clear.proofs.Trimmed.{handed-trimmed, refused, links-known, known, fewer, trimmed}
use Rattle.path_clear.proofs.clear.clear.Goals as goal

pub returns-in_err-clear_answer-clause-outcome : goal.returns-in_err-clear_answer-clause-outcome
returns-in_err-clear_answer-clause-outcome c =
    let a = c.args in
    let l = held a.cols.now in
    handed-trimmed a.p l _ _ c.from_residual.ensures.1
    ∙ refused a.x.0 a.p l (told-err c.clear_answer.ensures c.in_err-clear_answer.was ∙ ap (clear_answer a.x.0 a.p) c.reading.ensures) (numbered _)

pub drop_from-d-requires : goal.drop_from-d-requires
drop_from-d-requires c =
    let a = c.args in
    links-known a.x.0 a.p (held a.cols.now) (told-ok c.clear_answer.ensures c.in_ok-clear_answer.was ∙ ap (clear_answer a.x.0 a.p) c.reading.ensures) refl

pub cleared-requires-clause-known : goal.cleared-requires-clause-known
cleared-requires-clause-known c =
    let a = c.args in
    known a.x.0 a.p (held a.cols.now) (told-ok c.clear_answer.ensures c.in_ok-clear_answer.was ∙ ap (clear_answer a.x.0 a.p) c.reading.ensures) refl

pub cleared-requires-clause-d_bound : goal.cleared-requires-clause-d_bound
cleared-requires-clause-d_bound c =
    let a = c.args in
    fewer a.x.0 a.p (held a.cols.now) (told-ok c.clear_answer.ensures c.in_ok-clear_answer.was ∙ ap (clear_answer a.x.0 a.p) c.reading.ensures) refl c.reading-2.ensures c.drop_from-d.ensures

pub returns-clause-outcome : goal.returns-clause-outcome
returns-clause-outcome c =
    let a = c.args in
    trimmed a.x.0 a.p (held a.cols.now) (told-ok c.clear_answer.ensures c.in_ok-clear_answer.was ∙ ap (clear_answer a.x.0 a.p) c.reading.ensures) refl c.reading-2.ensures c.drop_from-d.ensures c.cleared.ensures.outcome c.cleared.ensures.counts
