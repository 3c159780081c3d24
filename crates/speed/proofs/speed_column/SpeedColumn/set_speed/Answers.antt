-- `set_speed`: one store, to the second entry of a point.
use mathlib.Core.Path.{refl}
use lib.ListN.{length-set}
use Rattle.speed.specs.Points.{point, offset_at}
use Rattle.speed.specs.Column.{points}
use Rattle.speed.proofs.PointColumn.{speed-stored, next-set}
use Rattle.speed.proofs.speed_column.SpeedColumn.set_speed.Goals as goal

pub invariant_of-self : goal.invariant_of-self
invariant_of-self c =
    let s = c.args.self.now in
    let i = c.args.i in
    let v = c.args.v.0 in
    record { holds = (next-set s.col.now _ s.count i (point (offset_at (points s.count s.col.now) i) v) (speed-stored s.col.now s.count s.holds i v c.requires)).1 }

pub returns-clause-becomes : goal.returns-clause-becomes
returns-clause-becomes c =
    let s = c.args.self.now in
    let i = c.args.i in
    let v = c.args.v.0 in
    record { same = refl; long = length-set _ _ _; holds = (next-set s.col.now _ s.count i (point (offset_at (points s.count s.col.now) i) v) (speed-stored s.col.now s.count s.holds i v c.requires)).0 }
