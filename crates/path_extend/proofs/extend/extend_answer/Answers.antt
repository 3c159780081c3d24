-- `extend_answer`: the questions in their order.
use Rattle.std.specs.Prelude.{Option}
use Prim.Native.Nat.{ℕ}
use mathlib.Core.Path.{refl, sym, ap, ap₂, ◌∙◌}
use mathlib.Core.Bool.{Bool}
use mathlib.Core.List.{List}
use Rattle.link.specs.Table.{table}
use Rattle.link.proofs.Known.{numbers-plain}
use Rattle.path.specs.Records.{lent}
use Rattle.path.specs.Answers.{ask, links_answer}
use Rattle.path.specs.Sound.{path_answer}
use Rattle.path_speeds.proofs.Few.{all-few}
use Rattle.path.proofs.Told.{handed-on, told-err, told-ok, numbered, once, said-no, said-yes}
use Rattle.path_extend.proofs.Asked.{extend-first, known-sound, extend-3, extend-named, extend-sums, named-formed}
use Rattle.path_extend.proofs.extend.extend_answer.Goals as goal

pub returns-in_err-path_answer : goal.returns-in_err-path_answer
returns-in_err-path_answer c =
    let a = c.args in
    let l = lent a.cols.now in
    let t = table a.network.now in
    let ns = a.list.now in
    handed-on _ _ c.from_residual.ensures.1 ∙ sym (extend-first a.train t ns a.p l (told-err (c.path_answer.ensures ∙ ap (λ (b : Bool). path_answer b a.p l) c.train_finite.ensures) c.in_err-path_answer.was) (numbered _))

pub returns-in_err-ask : goal.returns-in_err-ask
returns-in_err-ask c =
    let a = c.args in
    let l = lent a.cols.now in
    let t = table a.network.now in
    let ns = a.list.now in
    handed-on _ _ c.from_residual-in_err-ask.ensures.1 ∙ told-err (once _ _ c.ask.ensures) c.in_err-ask.was ∙ ap (ask 3) (said-no _ _ c.ask.ensures c.in_err-ask.was) ∙ sym (extend-3 a.train t ns a.p l (told-ok (c.path_answer.ensures ∙ ap (λ (b : Bool). path_answer b a.p l) c.train_finite.ensures) c.in_ok-path_answer.was) refl (said-no _ _ c.ask.ensures c.in_err-ask.was))

pub returns-in_err-links_answer : goal.returns-in_err-links_answer
returns-in_err-links_answer c =
    let a = c.args in
    let l = lent a.cols.now in
    let t = table a.network.now in
    let ns = a.list.now in
    handed-on _ _ c.from_residual-in_err-links_answer.ensures.1 ∙ sym (extend-named a.train t ns a.p l (told-ok (c.path_answer.ensures ∙ ap (λ (b : Bool). path_answer b a.p l) c.train_finite.ensures) c.in_ok-path_answer.was) refl (said-yes _ _ c.ask.ensures c.in_ok-ask.was) (told-err (c.links_answer.ensures ∙ ap₂ (λ (j : Option ℕ) (ms : List ℕ). links_answer t a.train.train_type j ms) c.follow_question-follows.ensures (numbers-plain ns)) c.in_err-links_answer.was) (numbered _))

pub sums_answer-requires : goal.sums_answer-requires
sums_answer-requires c =
    let a = c.args in
    let l = lent a.cols.now in
    let t = table a.network.now in
    let ns = a.list.now in record { sound = known-sound a.train t ns a.p l (told-ok (c.path_answer.ensures ∙ ap (λ (b : Bool). path_answer b a.p l) c.train_finite.ensures) c.in_ok-path_answer.was) refl; list_value = all-few a.train t ns (named-formed a.train t ns a.p l (told-ok (c.path_answer.ensures ∙ ap (λ (b : Bool). path_answer b a.p l) c.train_finite.ensures) c.in_ok-path_answer.was) refl (said-yes _ _ c.ask.ensures c.in_ok-ask.was) (told-ok (c.links_answer.ensures ∙ ap₂ (λ (j : Option ℕ) (ms : List ℕ). links_answer t a.train.train_type j ms) c.follow_question-follows.ensures (numbers-plain ns)) c.in_ok-links_answer.was) refl) }

pub returns : goal.returns
returns c =
    let a = c.args in
    let l = lent a.cols.now in
    let t = table a.network.now in
    let ns = a.list.now in
    c.sums_answer.ensures ∙ sym (extend-sums a.train t ns a.p l (told-ok (c.path_answer.ensures ∙ ap (λ (b : Bool). path_answer b a.p l) c.train_finite.ensures) c.in_ok-path_answer.was) refl (said-yes _ _ c.ask.ensures c.in_ok-ask.was) (told-ok (c.links_answer.ensures ∙ ap₂ (λ (j : Option ℕ) (ms : List ℕ). links_answer t a.train.train_type j ms) c.follow_question-follows.ensures (numbers-plain ns)) c.in_ok-links_answer.was) refl)
