-- `res_net`: question by question, and then the value.
use mathlib.Core.Path.{◌≡◌, refl, sym, ap, ◌∙◌}
use native.Mathlib.Omega.{arith}
use Rattle.std.proofs.Common.{Err}
use Rattle.std.proofs.lemmas.Grind.{common_steps}
use Rattle.std.proofs.lemmas.Bool.Decides.{nat_tests}
use Prim.Native.Nat.{◌<◌, ◌≤◌}
use mathlib.Core.List.{List}
use Rattle.lookup.specs.declared.path_res_coeff.PathResCoeff.{PathResCoeff}
use Rattle.lookup.specs.Coeff.{coeff_at}
use Rattle.resistance.specs.Listed.{net_told}
use Rattle.resistance.proofs.ListSteps.{list-told, list-is, list-long, net-refused, net-past, net-8, net-found}
use Rattle.resistance.proofs.Told.{no-is, yes-is, ask-no, ask-yes, not-done}
use Rattle.resistance.proofs.listed.res_net.Goals as goal

pub returns-in_err-list : goal.returns-in_err-list
returns-in_err-list c =
    let a = c.args in
    let x = c.in_err-list.field-0.0 in
    let f : c.from_residual.result ≡ Err x = grind (arith, common_steps) in
    ap (net_told) f ∙ net-refused a.idx a.x.0 a.state a.n a.col.now c.state_finite.ensures (no-is (list-told _ a.n a.col.now c.judged.ensures) c.in_err-list.was) (not-done x)

pub returns-in_err-ask : goal.returns-in_err-ask
returns-in_err-ask c =
    let a = c.args in
    let x = c.in_err-ask.field-0.0 in
    let f : c.from_residual-in_err-ask.result ≡ Err x = grind (arith, common_steps) in
    let no = ask-no _ c.ask.ensures c.in_err-ask.was in
    let n = list-long _ a.n a.col.now c.judged.ensures c.in_ok-list.was in
    let h : a.n ≤ a.idx = grind (arith, nat_tests) in
    ap net_told (f ∙ ap Err no.1) ∙ net-past a.idx a.x.0 a.state a.n a.col.now c.state_finite.ensures (yes-is (list-told _ a.n a.col.now c.judged.ensures) c.in_ok-list.was) refl refl h

pub returns-in_err-ask-2 : goal.returns-in_err-ask-2
returns-in_err-ask-2 c =
    let a = c.args in
    let x = c.in_err-ask-2.field-0.0 in
    let f : c.from_residual-in_err-ask-2.result ≡ Err x = grind (arith, common_steps) in
    let no = ask-no _ c.ask-2.ensures c.in_err-ask-2.was in
    let n = list-long _ a.n a.col.now c.judged.ensures c.in_ok-list.was in
    let h : a.idx < a.n = let y = ask-yes _ c.ask.ensures c.in_ok-ask.was in grind (arith, nat_tests) in
    let g = c.at.ensures ∙ ap (λ (rs : List PathResCoeff). coeff_at rs a.idx) (list-is _ a.n a.col.now c.judged.ensures c.in_ok-list.was) in
    ap net_told (f ∙ ap Err no.1)
    ∙ net-8 a.idx a.x.0 a.state a.n a.col.now c.state_finite.ensures (yes-is (list-told _ a.n a.col.now c.judged.ensures) c.in_ok-list.was) refl h g c.calc_res_val-v.ensures (sym c.is_finite.ensures ∙ no.0) refl

pub returns : goal.returns
returns c =
    let a = c.args in
    let n = list-long _ a.n a.col.now c.judged.ensures c.in_ok-list.was in
    let h : a.idx < a.n = let y = ask-yes _ c.ask.ensures c.in_ok-ask.was in grind (arith, nat_tests) in
    let g = c.at.ensures ∙ ap (λ (rs : List PathResCoeff). coeff_at rs a.idx) (list-is _ a.n a.col.now c.judged.ensures c.in_ok-list.was) in
    net-found a.idx a.x.0 a.state a.n a.col.now c.state_finite.ensures (yes-is (list-told _ a.n a.col.now c.judged.ensures) c.in_ok-list.was) refl h g c.calc_res_val-v.ensures (sym c.is_finite.ensures ∙ ask-yes _ c.ask-2.ensures c.in_ok-ask-2.was)
