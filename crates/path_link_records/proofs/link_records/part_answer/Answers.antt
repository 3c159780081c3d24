-- `part_answer`: the questions in their order.
use mathlib.Core.Path.{sym, ◌∙◌, refl}
use Rattle.path.specs.Records.{lent}
use Rattle.path_link_records.proofs.LinkParts.{part-first, part-10, some-points}
use Rattle.path.proofs.Told.{handed-on, told-err, told-ok, numbered, once}
use Rattle.path_link_records.proofs.link_records.part_answer.Goals as goal

pub returns-in_err-path_answer : goal.returns-in_err-path_answer
returns-in_err-path_answer c =
    let a = c.args in
    let l = lent a.cols.now in
    handed-on _ _ c.from_residual.ensures.1 ∙ sym (part-first a.k a.p l (told-err c.path_answer.ensures c.in_err-path_answer.was) (numbered _))

pub overflow_sub-p : goal.overflow_sub-p
overflow_sub-p c =
    let a = c.args in
    some-points a.k a.p (lent a.cols.now) (told-ok c.path_answer.ensures c.in_ok-path_answer.was) refl

pub returns : goal.returns
returns c =
    let a = c.args in
    let l = lent a.cols.now in
    once _ _ c.ask.ensures ∙ part-10 a.k a.p l (told-ok c.path_answer.ensures c.in_ok-path_answer.was) refl refl
