-- `posted_at`: the last point at or before x is lo or comes after it, and comes before hi.
use Prim.Native.Nat.{suc, ◌+◌, ◌-◌, ◌/◌}
use native.Mathlib.Omega.{arith}
use mathlib.Core.Path.{◌≡◌, sym, ap, ◌∙◌}
use lib.Ieee as Ieee
use lib.Ieee.{Float}
use Rattle.ieee.specs.Number.{+0}
use Rattle.ieee.proofs.Order.{of-true}
use Rattle.speed.proofs.Reached.{posted-last, reaches-at, reaches_end}
use Rattle.speed.proofs.speed_point.SpeedPoints.posted_at.Goals as goal

pub loop-hi-init : goal.loop-hi-init
loop-hi-init c =
    let a = c.args in
    (omega arith, omega arith, c.requires.x_value, reaches_end a.x.0 a.self.now c.len-hi.result (omega arith))

pub loop-hi-preserved-then-offset_at-x : goal.loop-hi-preserved-then-offset_at-x
loop-hi-preserved-then-offset_at-x c =
    let a = c.args in
    (omega arith, omega arith, ap (λ (o : Float). Ieee.le o a.x.0) (sym c.offset_at.ensures) ∙ c.if-offset_at-x.true, c.loop-hi.invariant.3)

pub loop-hi-preserved : goal.loop-hi-preserved
loop-hi-preserved c =
    let a = c.args in
    let l = c.loop-hi in
    (omega arith, omega arith, l.invariant.2, reaches-at a.x.0 a.self.now (l.lo + (l.hi - l.lo) / 2) (omega arith) ∙ ap (λ (o : Float). Ieee.le o a.x.0) (sym c.offset_at.ensures) ∙ c.if-offset_at-x.false)

pub returns : goal.returns
returns c =
    let a = c.args in
    let next : c.loop-hi.hi ≡ suc c.loop-hi.lo = omega arith in
    c.speed_at.ensures
    ∙ sym (posted-last a.x.0 a.self.now c.loop-hi.lo +0 c.requires.sorted (of-true c.loop-hi.invariant.2) (rw next at c.loop-hi.invariant.3))
