-- `path_answer`: question 1 and then question 2.
use mathlib.Core.Path.{sym, ap, ◌∙◌}
use Rattle.path.specs.Records.{lent}
use Rattle.path.specs.Answers.{ask}
use Rattle.path.proofs.InTurn.{judged-else, judged-1, judged-2}
use Rattle.path.proofs.Told.{handed-on, told-err, once, said-no, said-yes}
use Rattle.path.proofs.questions.path_answer.Goals as goal

pub returns-in_err-ask : goal.returns-in_err-ask
returns-in_err-ask c =
    let a = c.args in
    let no = said-no _ _ c.ask.ensures c.in_err-ask.was in
    handed-on _ _ c.from_residual.ensures.1 ∙ told-err (once _ _ c.ask.ensures) c.in_err-ask.was ∙ ap (ask 1) no ∙ sym (judged-else a.also a.p (lent a.cols.now) no)

pub returns-in_err-ask-2 : goal.returns-in_err-ask-2
returns-in_err-ask-2 c =
    let a = c.args in
    let no = said-no _ _ c.ask-2.ensures c.in_err-ask-2.was in
    handed-on _ _ c.from_residual-in_err-ask-2.ensures.1 ∙ told-err (once _ _ c.ask-2.ensures) c.in_err-ask-2.was ∙ ap (ask 1) no ∙ sym (judged-1 a.also a.p (lent a.cols.now) (sym c.path_finite.ensures ∙ no))

pub returns : goal.returns
returns c =
    let a = c.args in
    once _ _ c.ask-3.ensures
    ∙ ap (ask 2) c.path_sound.ensures
    ∙ sym (judged-2 a.also a.p (lent a.cols.now) (said-yes _ _ c.ask.ensures c.in_ok-ask.was) (sym c.path_finite.ensures ∙ said-yes _ _ c.ask-2.ensures c.in_ok-ask-2.was))
