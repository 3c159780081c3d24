-- `remove_point`: the two entries of a point go out.
use mathlib.Core.Path.{refl}
use Rattle.speed.proofs.PointColumn.{removed, next-removed}
use Rattle.speed.proofs.speed_column.SpeedColumn.remove_point.Goals as goal

pub invariant_of-self : goal.invariant_of-self
invariant_of-self c =
    let s = c.args.self.now in
    record { holds = (next-removed s.col.now _ s.count c.args.i c.requires (rw c.close_gap.ensures (removed s.col.now s.count s.holds c.args.i c.requires))).1 }

pub returns-clause-becomes : goal.returns-clause-becomes
returns-clause-becomes c =
    let s = c.args.self.now in
    record { same = refl; long = c.close_gap.auto.col; holds = (next-removed s.col.now _ s.count c.args.i c.requires (rw c.close_gap.ensures (removed s.col.now s.count s.holds c.args.i c.requires))).0 }
