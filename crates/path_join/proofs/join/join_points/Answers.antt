-- `join_points`: with the points of the links that are left the points so far are those of all.
use native.Mathlib.Omega.{arith}
use mathlib.Core.Path.{refl, ◌∙◌}
use Rattle.path_join.proofs.Left.{left-next, left-none}
use Rattle.path_join.proofs.OnPoints.{points-first, points-next, points-done}
use Rattle.path_join.proofs.join.join_points.Goals as goal

pub loop-k-init : goal.loop-k-init
loop-k-init c =
    let a = c.args in
    (refl, refl, points-first a.network.now.links.now a.network.now.lengths.now a.list.now a.offsets.now a.numbers.now a.n c.requires.holds_points)

pub join_point-requires : goal.join_point-requires
join_point-requires c = record { n_nonzero = omega (arith, c.requires.n_nonzero); i_bound = omega (arith, c.type_inv.list c.loop-k.k); n_in_bounds = omega (arith, c.requires.list_in_bounds, c.loop-k-test.true, c.loop-k.invariant.0); n_in_bounds_2 = omega (arith, c.requires.list_in_bounds_2, c.loop-k-test.true, c.loop-k.invariant.1); holds_points = c.loop-k.invariant.2.held }

pub loop-k-preserved : goal.loop-k-preserved
loop-k-preserved c =
    let a = c.args in
    let o = c.loop-k in
    let next = left-next a.list.now o.k c.loop-k-test.true in
    (c.join_point.auto.offsets ∙ o.invariant.0, c.join_point.auto.numbers ∙ o.invariant.1, points-next o.invariant.2 next (omega arith) c.join_point.ensures)

pub shape_of-offsets : goal.shape_of-offsets
shape_of-offsets c = c.loop-k.invariant.0

pub shape_of-numbers : goal.shape_of-numbers
shape_of-numbers c = c.loop-k.invariant.1

pub returns : goal.returns
returns c =
    let a = c.args in
    points-done c.loop-k.invariant.2 (left-none a.list.now c.loop-k.k c.loop-k-test.false)
