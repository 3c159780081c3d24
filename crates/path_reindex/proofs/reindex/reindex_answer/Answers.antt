-- `reindex_answer`: the questions in their order.
use mathlib.Core.Path.{sym, ◌∙◌, refl}
use Rattle.path.specs.Records.{lent}
use Rattle.path_reindex.proofs.Renumbered.{reindex-first, reindex-4, some-points}
use Rattle.path.proofs.Told.{handed-on, told-err, told-ok, numbered, each}
use Rattle.path_reindex.proofs.reindex.reindex_answer.Goals as goal

pub returns-in_err-path_answer : goal.returns-in_err-path_answer
returns-in_err-path_answer c =
    let a = c.args in
    let l = lent a.cols.now in
    handed-on _ _ c.from_residual.ensures.1 ∙ sym (reindex-first a.new.now a.p l (told-err c.path_answer.ensures c.in_err-path_answer.was) (numbered _))

pub overflow_sub-p : goal.overflow_sub-p
overflow_sub-p c =
    let a = c.args in
    let l = lent a.cols.now in
    some-points a.new.now a.p l (told-ok c.path_answer.ensures c.in_ok-path_answer.was) refl

pub returns : goal.returns
returns c =
    let a = c.args in
    let l = lent a.cols.now in
    each _ _ c.ask_each.ensures ∙ sym (reindex-4 a.new.now a.p l (told-ok c.path_answer.ensures c.in_ok-path_answer.was) refl c.renumber_question.ensures)
