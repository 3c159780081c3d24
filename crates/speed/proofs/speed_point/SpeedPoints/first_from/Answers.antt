-- `first_from`: at each turn the first such point is i after the first of those from i on.
use mathlib.Core.Path.{◌≡◌, sym, ap, ◌∙◌}
use native.Mathlib.Nat.{zero-add}
use lib.Ieee as Ieee
use lib.Ieee.{Float}
use Rattle.speed.specs.Insert.{first_from}
use native.Mathlib.Omega.{arith}
use Rattle.speed.proofs.InsertSteps.{first-pass, first-stop, first-end}
use Rattle.speed.proofs.speed_point.SpeedPoints.first_from.Goals as goal

pub loop-i-init : goal.loop-i-init
loop-i-init c = (omega arith, sym (zero-add (first_from c.args.s.0 c.args.self.now)))

pub loop-i-preserved : goal.loop-i-preserved
loop-i-preserved c = (omega arith, c.loop-i.invariant.1 ∙ first-pass c.args.s.0 c.args.self.now c.loop-i.i (omega arith) (sym (ap (λ (x : Float). Ieee.lt x c.args.s.0) c.offset_at.ensures) ∙ c.if-not-offset_at-s.false))

pub returns-then-not-offset_at-s : goal.returns-then-not-offset_at-s
returns-then-not-offset_at-s c = sym (c.loop-i.invariant.1 ∙ first-stop c.args.s.0 c.args.self.now c.loop-i.i (omega arith) (sym (ap (λ (x : Float). Ieee.lt x c.args.s.0) c.offset_at.ensures) ∙ c.if-not-offset_at-s.true))

pub returns : goal.returns
returns c =
    let i : c.len.result ≡ c.loop-i.i = omega arith in
    i ∙ sym (c.loop-i.invariant.1 ∙ first-end c.args.s.0 c.args.self.now c.loop-i.i (omega arith))
