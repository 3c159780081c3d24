-- `lay_powers`: the two columns hold the limits that were there and the first k of the link.
use native.Mathlib.Omega.{arith}
use mathlib.Core.Path.{◌≡◌, refl, ap, ◌∙◌}
use Rattle.link.specs.Table.{power_at, power_of}
use Rattle.path_stretches.specs.Powers.{placed_power}
use Rattle.path_stretches.proofs.Pushed.{push-none, push-next}
use Rattle.path_stretches.proofs.powers.lay_powers.Goals as goal

pub loop-k-init : goal.loop-k-init
loop-k-init c =
    let a = c.args in
    (refl, refl, push-none (placed_power a.base.0) (power_at a.link_powers.now a.link_districts.now) a.first a.m a.powers.now a.districts.now c.requires.holds_powers)

pub loop-k-preserved : goal.loop-k-preserved
loop-k-preserved c =
    let a = c.args in
    let l = c.loop-k in
    let at = power_at a.link_powers.now a.link_districts.now in
    let wn = c.put_record.auto.col in
    let dn = c.set.auto.col in
    let placed = c.placed_power-l.ensures ∙ ap (placed_power a.base.0) c.power_limit_at.ensures in
    let next = push-next (placed_power a.base.0) at a.first a.m a.powers.now a.districts.now l.k (power_of c.placed_power-l.result) l.invariant.2 placed (omega (arith, c.requires.count_bound_2)) (omega (arith, c.requires.count_bound_3)) wn dn c.put_record.ensures c.set.ensures in
    (wn ∙ l.invariant.0, dn ∙ l.invariant.1, next)

pub shape_of-powers : goal.shape_of-powers
shape_of-powers c = c.loop-k.invariant.0

pub shape_of-districts : goal.shape_of-districts
shape_of-districts c = c.loop-k.invariant.1

pub returns : goal.returns
returns c =
    let a = c.args in
    let l = c.loop-k in
    let e : l.k ≡ a.count = omega arith in
    rw e at l.invariant.2
