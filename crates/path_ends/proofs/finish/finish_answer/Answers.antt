-- `finish_answer`: the questions in their order.
use native.Mathlib.Omega.{arith}
use mathlib.Core.Path.{sym, ap, ap₂, ◌∙◌, refl}
use mathlib.Core.Bool.{◌&&◌}
use Rattle.path.specs.Records.{lent}
use Rattle.path.specs.Answers.{ask}
use Rattle.path_ends.proofs.Closed.{finish-first, finish-3, finish-9, few-records}
use Rattle.path.proofs.Told.{handed-on, told-err, told-ok, numbered, once, said-no, said-yes}
use Rattle.path_ends.proofs.finish.finish_answer.Goals as goal

pub returns-in_err-path_answer : goal.returns-in_err-path_answer
returns-in_err-path_answer c =
    let a = c.args in
    let l = lent a.cols.now in
    handed-on _ _ c.from_residual.ensures.1 ∙ sym (finish-first a.p l (told-err c.path_answer.ensures c.in_err-path_answer.was) (numbered _))

pub returns-in_err-ask : goal.returns-in_err-ask
returns-in_err-ask c =
    let a = c.args in
    let l = lent a.cols.now in
    handed-on _ _ c.from_residual-in_err-ask.ensures.1 ∙ told-err (once _ _ c.ask.ensures) c.in_err-ask.was ∙ ap (ask 3) (said-no _ _ c.ask.ensures c.in_err-ask.was) ∙ sym (finish-3 a.p l (told-ok c.path_answer.ensures c.in_ok-path_answer.was) refl (said-no _ _ c.ask.ensures c.in_err-ask.was))

pub overflow_add-p : goal.overflow_add-p
overflow_add-p c =
    let a = c.args in
    let l = lent a.cols.now in
    record { fits = omega (arith, (few-records a.p l (told-ok c.path_answer.ensures c.in_ok-path_answer.was) refl).0) }

pub overflow_add-p-2 : goal.overflow_add-p-2
overflow_add-p-2 c =
    let a = c.args in
    let l = lent a.cols.now in
    record { fits = omega (arith, (few-records a.p l (told-ok c.path_answer.ensures c.in_ok-path_answer.was) refl).1) }

pub returns : goal.returns
returns c =
    let a = c.args in
    let l = lent a.cols.now in
    once _ _ c.ask-2.ensures ∙ ap (ask 9) (ap₂ ◌&&◌ c.within-slopes.ensures c.within-bends.ensures) ∙ sym (finish-9 a.p l (told-ok c.path_answer.ensures c.in_ok-path_answer.was) refl (said-yes _ _ c.ask.ensures c.in_ok-ask.was))
