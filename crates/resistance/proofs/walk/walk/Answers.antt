-- `walk`: behind questions 1 and 2; from each position on the walk ends where the whole walk ends.
use Prim.Native.Nat.{ℕ, ◌+◌, ◌-◌}
use mathlib.Core.Path.{◌≡◌, refl, sym, ap, ap₂, ◌∙◌, subst}
use mathlib.Core.Bool.{◌&&◌}
use native.Mathlib.Omega.{arith}
use Rattle.std.proofs.Common.{Err}
use Rattle.std.proofs.lemmas.Grind.{common_steps}
use lib.Ieee.{of_bits}
use Rattle.resistance.specs.Strap.{res_told, calc_res_known}
use Rattle.resistance.specs.Walk.{walk_of}
use Rattle.resistance.proofs.ListSteps.{list-told, list-is}
use Rattle.resistance.proofs.Told.{no-is, yes-is, ask-no, ask-yes, not-done}
use Rattle.resistance.proofs.WalkSteps.{Walking, walk_refused, walk-passed, walk_none, walking-refused, walking-ends, walking-8, walking_on, walk-begun}
use Rattle.resistance.proofs.walk.walk.Goals as goal

pub returns-in_err-list : goal.returns-in_err-list
returns-in_err-list c =
    let a = c.args in
    let x = c.in_err-list.field-0.0 in
    let f : c.from_residual.result ≡ Err x = grind (arith, common_steps) in
    ap (res_told a.strap) f ∙ walk_refused a.dir a.step.0 a.strap a.state a.n a.col.now c.state_finite.ensures c.is_finite.ensures (no-is (list-told _ a.n a.col.now c.judged.ensures) c.in_err-list.was) a.count (not-done x)

pub returns-then-count-eq0 : goal.returns-then-count-eq0
unfolding of_bits
returns-then-count-eq0 c =
    let a = c.args in walk_none a.dir a.step.0 a.strap a.state a.n a.col.now c.state_finite.ensures c.is_finite.ensures (yes-is (list-told _ a.n a.col.now c.judged.ensures) c.in_ok-list.was) refl a.count c.if-count-eq0.true

pub positions-init : goal.positions-init
positions-init c =
    let a = c.args in
    walk-begun a.dir a.step.0 a.strap a.state a.n a.col.now a.count (omega (arith, c.if-count-eq0.false)) (walk-passed a.dir a.step.0 a.strap a.state a.n a.col.now c.state_finite.ensures c.is_finite.ensures (yes-is (list-told _ a.n a.col.now c.judged.ensures) c.in_ok-list.was) refl)

pub returns-in_err-here : goal.returns-in_err-here
returns-in_err-here c =
    let a = c.args in
    let x = c.in_err-here.field-0.0 in
    let f : c.from_residual-in_err-here.result ≡ Err x = grind (arith, common_steps) in
    let l = c.positions in
    let whole = walk_of a.dir a.step.0 a.count a.strap a.state a.n a.col.now in
    let here = c.calc_res_known.ensures ∙ ap (calc_res_known a.dir l.t l.s) (list-is _ a.n a.col.now c.judged.ensures c.in_ok-list.was) in
    ap (res_told a.strap) f ∙ walking-refused a.dir a.step.0 a.strap a.n a.col.now whole (a.count - l.k) l.t l.s l.invariant (ap (res_told l.t) (sym c.in_err-here.was) ∙ here) (not-done x)

pub returns-in_err-ask : goal.returns-in_err-ask
returns-in_err-ask c =
    let a = c.args in
    let x = c.in_err-ask.field-0.0 in
    let f : c.from_residual-in_err-ask.result ≡ Err x = grind (arith, common_steps) in
    let no = ask-no _ c.ask.ensures c.in_err-ask.was in
    let l = c.positions in
    let whole = walk_of a.dir a.step.0 a.count a.strap a.state a.n a.col.now in
    let here = c.calc_res_known.ensures ∙ ap (calc_res_known a.dir l.t l.s) (list-is _ a.n a.col.now c.judged.ensures c.in_ok-list.was) in
    ap (res_told a.strap) (f ∙ ap Err no.1) ∙ walking-8 a.dir a.step.0 a.strap a.n a.col.now whole (a.count - l.k) l.t l.s l.invariant (ap (res_told l.t) (sym c.in_ok-here.was) ∙ here) refl (omega arith) c.further-s.ensures (ap₂ ◌&&◌ (sym c.is_finite-in-positions.ensures) (sym c.is_finite-in-positions-2.ensures) ∙ no.0) refl

pub positions-preserved : goal.positions-preserved
positions-preserved c =
    let a = c.args in
    let l = c.positions in
    let whole = walk_of a.dir a.step.0 a.count a.strap a.state a.n a.col.now in
    let here = c.calc_res_known.ensures ∙ ap (calc_res_known a.dir l.t l.s) (list-is _ a.n a.col.now c.judged.ensures c.in_ok-list.was) in
    let on = walking_on a.dir a.step.0 a.strap a.n a.col.now whole (a.count - l.k) l.t l.s l.invariant (ap (res_told l.t) (sym c.in_ok-here.was) ∙ here) refl (omega arith) c.further-s.ensures (ap₂ ◌&&◌ (sym c.is_finite-in-positions.ensures) (sym c.is_finite-in-positions-2.ensures) ∙ ask-yes _ c.ask.ensures c.in_ok-ask.was) in
    let e : a.count - l.k - 1 ≡ a.count - (l.k + 1) = omega arith in
    subst (λ (m : ℕ). Walking a.dir a.step.0 a.strap a.n a.col.now whole m c.in_ok-here.here.strap c.further-s.result) e on

pub returns : goal.returns
returns c =
    let a = c.args in
    let l = c.positions in
    let whole = walk_of a.dir a.step.0 a.count a.strap a.state a.n a.col.now in
    let here = c.calc_res_known-2.ensures ∙ ap (calc_res_known a.dir l.t l.s) (list-is _ a.n a.col.now c.judged.ensures c.in_ok-list.was) in
    walking-ends a.dir a.step.0 a.strap a.n a.col.now whole (a.count - l.k) l.t l.s l.invariant (omega arith) c.calc_res_known-2.result here
