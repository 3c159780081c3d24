-- `new_known`: a single record, question 8, the back, and then the front.
use mathlib.Core.Path.{◌≡◌, refl, sym, ap, ◌∙◌}
use native.Mathlib.Omega.{arith}
use Rattle.std.proofs.Common.{Err}
use Rattle.std.proofs.lemmas.Grind.{common_steps}
use Rattle.lookup.specs.declared.lin_search_hint.Dir.TheVariants.{Fwd}
use Rattle.resistance.specs.Strap.{strap_of, strap_told}
use Rattle.resistance.proofs.ListSteps.{search-of}
use Rattle.resistance.proofs.StrapSteps.{new-single, new-8, new-back, new-front, new-both}
use Rattle.resistance.proofs.Told.{search-no, search-yes, ask-no, ask-yes, not-done}
use Rattle.resistance.proofs.strap.Strap.new_known.Goals as goal

pub returns-then-len-le1 : goal.returns-then-len-le1
returns-then-len-le1 c =
    let a = c.args in new-single a.state a.list.now (omega arith) refl

pub returns-in_err-ask : goal.returns-in_err-ask
returns-in_err-ask c =
    let a = c.args in
    let x = c.in_err-ask.field-0.0 in
    let f : c.from_residual.result ≡ Err x = grind (arith, common_steps) in
    let no = ask-no _ c.ask.ensures c.in_err-ask.was in
    ap (strap_told (strap_of 0 0)) (f ∙ ap Err no.1) ∙ new-8 a.state a.list.now (omega arith) (sym c.is_finite.ensures ∙ no.0) refl

pub returns-in_err-idx_back : goal.returns-in_err-idx_back
returns-in_err-idx_back c =
    let a = c.args in
    let x = c.in_err-idx_back.field-0.0 in
    let f : c.from_residual-in_err-idx_back.result ≡ Err x = grind (arith, common_steps) in
    ap (strap_told (strap_of 0 0)) f ∙ new-back a.state a.list.now (omega arith) (sym c.is_finite.ensures ∙ ask-yes _ c.ask.ensures c.in_ok-ask.was) (search-no (search-of Fwd _ 0 a.list.now c.find.ensures) c.in_err-idx_back.was) (not-done x)

pub returns-in_err-idx_front : goal.returns-in_err-idx_front
returns-in_err-idx_front c =
    let a = c.args in
    let x = c.in_err-idx_front.field-0.0 in
    let f : c.from_residual-in_err-idx_front.result ≡ Err x = grind (arith, common_steps) in
    ap (strap_told (strap_of 0 0)) f ∙ new-front a.state a.list.now (omega arith) (sym c.is_finite.ensures ∙ ask-yes _ c.ask.ensures c.in_ok-ask.was) (search-yes (search-of Fwd _ 0 a.list.now c.find.ensures) c.in_ok-idx_back.was) refl (search-no (search-of Fwd _ _ a.list.now c.find-2.ensures) c.in_err-idx_front.was) (not-done x)

pub returns : goal.returns
returns c =
    let a = c.args in
    new-both a.state a.list.now (omega arith) (sym c.is_finite.ensures ∙ ask-yes _ c.ask.ensures c.in_ok-ask.was) (search-yes (search-of Fwd _ 0 a.list.now c.find.ensures) c.in_ok-idx_back.was) refl (search-yes (search-of Fwd _ _ a.list.now c.find-2.ensures) c.in_ok-idx_front.was) refl
