-- `forward`: from i on the search ends where it ends from the hint on.
use Prim.Native.Nat.{◌-◌}
use mathlib.Core.Path.{◌≡◌, sym, ap, ◌∙◌}
use native.Mathlib.Omega.{arith}
use lib.Ieee as Ieee
use lib.Ieee.{Float}
use Rattle.lookup.proofs.SearchSteps.{forward-pass, forward-stop, forward-end}
use Rattle.lookup.proofs.coeff_list.CoeffList.forward.Goals as goal

pub returns-then-not-offset_at-x : goal.returns-then-not-offset_at-x
returns-then-not-offset_at-x c =
    let a = c.args in
    let t = ap (λ (y : Float). Ieee.lt y a.x.0) (sym c.offset_at.ensures) ∙ c.if-not-offset_at-x.true in
    sym (forward-stop a.x.0 a.self.now c.loop-i.i (omega arith) t) ∙ c.loop-i.invariant

pub loop-i-preserved : goal.loop-i-preserved
loop-i-preserved c =
    let a = c.args in
    let t = ap (λ (y : Float). Ieee.lt y a.x.0) (sym c.offset_at.ensures) ∙ c.if-not-offset_at-x.false in
    sym (forward-pass a.x.0 a.self.now c.loop-i.i (omega arith) t) ∙ c.loop-i.invariant

pub returns : goal.returns
returns c =
    let a = c.args in
    let last : c.loop-i.i ≡ c.len-last.result - 1 = omega arith in
    cc (forward-end a.x.0 a.self.now c.loop-i.i (omega arith), last)
