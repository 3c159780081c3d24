-- `last_from`: at each turn the last such point is the last of those before j, or 0.
use mathlib.Core.Path.{◌≡◌, sym, ap, ◌∙◌}
use Prim.Native.Nat.{ℕ, ◌-◌}
use lib.Ieee as Ieee
use native.Mathlib.Omega.{arith}
use Rattle.speed.specs.Insert.{last_from}
use Rattle.speed.proofs.InsertSteps.{last-pass, last-stop, last_none}
use Rattle.speed.proofs.speed_point.SpeedPoints.last_from.Goals as goal

pub loop-j-init : goal.loop-j-init
loop-j-init c = ap (λ (n : ℕ). last_from c.args.e.0 (n - 1) c.args.self.now) (sym c.len-j.ensures)

pub loop-j-preserved : goal.loop-j-preserved
loop-j-preserved c =
    let e = c.args.e.0 in
    let ps = c.args.self.now in
    let j = c.loop-j.j in
    c.loop-j.invariant ∙ last-pass e (j - 1) ps (omega arith) (sym (ap (Ieee.lt e) c.offset_at.ensures) ∙ c.if-not-offset_at-e.false)

pub returns-then-not-offset_at-e : goal.returns-then-not-offset_at-e
returns-then-not-offset_at-e c =
    let e = c.args.e.0 in
    sym (c.loop-j.invariant ∙ last-stop e (c.loop-j.j - 1) c.args.self.now (sym (ap (Ieee.lt e) c.offset_at.ensures) ∙ c.if-not-offset_at-e.true))

pub returns : goal.returns
returns c =
    let j : c.loop-j.j - 1 ≡ 0 = omega arith in
    sym (c.loop-j.invariant ∙ last_none c.args.e.0 (c.loop-j.j - 1) c.args.self.now (omega arith) ∙ j)
