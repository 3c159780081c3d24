-- `powers_finite`: from limit i on the answer is that from the first on.
use Prim.Native.Nat.{◌+◌}
use native.Mathlib.Omega.{arith}
use mathlib.Core.Path.{sym, ap, ◌∙◌}
use Rattle.link.specs.Lists.{every}
use Rattle.link.specs.Table.{power_at}
use Rattle.link.proofs.Loops.{whole-range, every-pass, every-fail, every-end}
use Rattle.path_stretches.specs.Powers.{power_finite}
use Rattle.path_stretches.proofs.Pushed.{placed-finite}
use Rattle.path_stretches.proofs.powers.powers_finite.Goals as goal

pub loop-i-init : goal.loop-i-init
loop-i-init c =
    let a = c.args in
    ap (every (power_finite a.base.0)) (whole-range (power_at a.link_powers.now a.link_districts.now) a.first a.count)

pub returns-then-not-is_finite : goal.returns-then-not-is_finite
returns-then-not-is_finite c =
    let a = c.args in
    let i = c.loop-i.i in
    let at = power_at a.link_powers.now a.link_districts.now in
    let ok = placed-finite a.base.0 (at i) c.power_limit_at.ensures c.placed_power-l.ensures c.is_finite.ensures c.is_finite-in-loop-i.ensures in
    sym (every-fail at (power_finite a.base.0) i (a.first + a.count) (omega arith) (sym ok ∙ c.if-not-is_finite.true)) ∙ c.loop-i.invariant

pub loop-i-preserved : goal.loop-i-preserved
loop-i-preserved c =
    let a = c.args in
    let i = c.loop-i.i in
    let at = power_at a.link_powers.now a.link_districts.now in
    let ok = placed-finite a.base.0 (at i) c.power_limit_at.ensures c.placed_power-l.ensures c.is_finite.ensures c.is_finite-in-loop-i.ensures in
    sym (every-pass at (power_finite a.base.0) i (a.first + a.count) (omega arith) (sym ok ∙ c.if-not-is_finite.false)) ∙ c.loop-i.invariant

pub returns : goal.returns
returns c =
    let a = c.args in
    sym (every-end (power_at a.link_powers.now a.link_districts.now) (power_finite a.base.0) c.loop-i.i (a.first + a.count) (omega arith)) ∙ c.loop-i.invariant
