-- `set_offset`: one store, to the first entry of a point.
use mathlib.Core.Path.{refl}
use lib.ListN.{length-set}
use Rattle.speed.specs.Points.{point, speed_at}
use Rattle.speed.specs.Column.{points}
use Rattle.speed.proofs.PointColumn.{offset-stored, next-set}
use Rattle.speed.proofs.speed_column.SpeedColumn.set_offset.Goals as goal

pub invariant_of-self : goal.invariant_of-self
invariant_of-self c =
    let s = c.args.self.now in
    let i = c.args.i in
    let o = c.args.o.0 in
    record { holds = (next-set s.col.now _ s.count i (point o (speed_at (points s.count s.col.now) i)) (offset-stored s.col.now s.count s.holds i o c.requires)).1 }

pub returns-clause-becomes : goal.returns-clause-becomes
returns-clause-becomes c =
    let s = c.args.self.now in
    let i = c.args.i in
    let o = c.args.o.0 in
    record { same = refl; long = length-set _ _ _; holds = (next-set s.col.now _ s.count i (point o (speed_at (points s.count s.col.now) i)) (offset-stored s.col.now s.count s.holds i o c.requires)).0 }
