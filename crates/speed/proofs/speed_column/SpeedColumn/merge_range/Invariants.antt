-- `merge_range`: at each turn what is left to merge gives what was to be merged at first.
use Prim.Native.Nat.{◌+◌, ◌-◌, ◌<◌}
use mathlib.Core.Path.{◌≡◌}
use Rattle.speed.specs.Becomes.{points_of, Becomes}
use Rattle.speed.specs.Insert.{merge}
use Rattle.speed.proofs.speed_column.SpeedColumn.merge_range.Given as goal

abbrev pub invariant-loop : goal.invariant-loop
invariant-loop l =
    (l.a + (l.j - l.counter) < l.self.count)
    × Becomes l.initial.self l.self (points_of l.self)
    × (merge l.v.0 (l.j - l.i) l.i (points_of l.initial.self) ≡ merge l.v.0 (l.j - l.counter) l.a (points_of l.self))
