-- `clear_answer`: the questions in their order.
use mathlib.Core.Path.{sym, ap, ◌∙◌, refl}
use mathlib.Core.Bool.{Bool}
use Rattle.path.specs.Records.{lent}
use Rattle.path.specs.Answers.{ask}
use Rattle.path.specs.Sound.{path_answer}
use Rattle.path_clear.proofs.Dropping.{clear_first, links-there, clear-10, clear-12}
use Rattle.path.proofs.Told.{handed-on, told-err, told-ok, numbered, once, said-no, said-yes}
use Rattle.path_clear.proofs.clear.clear_answer.Goals as goal

pub returns-in_err-path_answer : goal.returns-in_err-path_answer
returns-in_err-path_answer c =
    let a = c.args in
    let l = lent a.cols.now in
    handed-on _ _ c.from_residual.ensures.1 ∙ sym (clear_first a.x.0 a.p l ((told-err c.path_answer.ensures c.in_err-path_answer.was) ∙ ap (λ (b : Bool). path_answer b a.p l) c.is_finite.ensures) (numbered _))

pub in_range-requires : goal.in_range-requires
in_range-requires c =
    let a = c.args in
    let l = lent a.cols.now in
    links-there a.x.0 a.p l ((told-ok c.path_answer.ensures c.in_ok-path_answer.was) ∙ ap (λ (b : Bool). path_answer b a.p l) c.is_finite.ensures) refl

pub returns-in_err-ask : goal.returns-in_err-ask
returns-in_err-ask c =
    let a = c.args in
    let l = lent a.cols.now in
    handed-on _ _ c.from_residual-in_err-ask.ensures.1 ∙ told-err (once _ _ c.ask.ensures) c.in_err-ask.was ∙ ap (ask 10) (said-no _ _ c.ask.ensures c.in_err-ask.was) ∙ sym (clear-10 a.x.0 a.p l ((told-ok c.path_answer.ensures c.in_ok-path_answer.was) ∙ ap (λ (b : Bool). path_answer b a.p l) c.is_finite.ensures) refl (sym c.in_range.ensures ∙ said-no _ _ c.ask.ensures c.in_err-ask.was))

pub returns : goal.returns
returns c =
    let a = c.args in
    let l = lent a.cols.now in
    once _ _ c.ask-2.ensures ∙ sym (clear-12 a.x.0 a.p l ((told-ok c.path_answer.ensures c.in_ok-path_answer.was) ∙ ap (λ (b : Bool). path_answer b a.p l) c.is_finite.ensures) refl (sym c.in_range.ensures ∙ said-yes _ _ c.ask.ensures c.in_ok-ask.was))
