-- `join_powers`: with the limits of the links that are left the limits so far are those of all.
use native.Mathlib.Omega.{arith}
use mathlib.Core.Path.{refl}
use Rattle.path_join.proofs.Left.{left-next, left-none}
use Rattle.path_join.proofs.OnPowers.{powers-room, powers-next, powers-done}
use Rattle.path_join.proofs.join.join_powers.Goals as goal

pub loop-link-init : goal.loop-link-init
loop-link-init c = record { long = refl; wide = refl; room = c.requires.list_in_bounds; place = c.requires.list_in_bounds_2; held = c.requires.holds_powers; is = refl }

pub lay_powers-requires : goal.lay_powers-requires
lay_powers-requires c =
    let o = c.loop-link in
    let room = powers-room o.invariant (left-next c.args.list.now o.link-index c.loop-link-test.true) c.link_numbers-l.ensures in record { count_bound = omega arith; count_bound_2 = room.0; count_bound_3 = room.1; holds_powers = o.invariant.held }

pub overflow_add-n : goal.overflow_add-n
overflow_add-n c =
    let o = c.loop-link in
    let room = powers-room o.invariant (left-next c.args.list.now o.link-index c.loop-link-test.true) c.link_numbers-l.ensures in
    omega (arith, room.0, o.invariant.long, c.well_formed)

pub loop-link-preserved : goal.loop-link-preserved
loop-link-preserved c =
    let o = c.loop-link in
    powers-next o.invariant (left-next c.args.list.now o.link-index c.loop-link-test.true) c.link_numbers-l.ensures c.lay_powers.auto.powers c.lay_powers.auto.districts refl c.lay_powers.ensures c.grade_end-base.ensures

pub shape_of-powers : goal.shape_of-powers
shape_of-powers c = c.loop-link.invariant.long

pub shape_of-districts : goal.shape_of-districts
shape_of-districts c = c.loop-link.invariant.wide

pub returns : goal.returns
returns c = powers-done c.loop-link.invariant (left-none c.args.list.now c.loop-link.link-index c.loop-link-test.false)
