-- `first_from`: at each turn the first such point is i after the first of those from i on.
use Prim.Native.Nat.{◌+◌, ◌≤◌}
use mathlib.Core.Path.{◌≡◌}
use lib.ListN.{length, drop}
use Rattle.speed.specs.Insert.{first_from}
use Rattle.speed.proofs.speed_point.SpeedPoints.first_from.Given as goal

abbrev pub invariant-loop-i : goal.invariant-loop-i
invariant-loop-i l = (l.i ≤ length l.self) × (first_from l.s.0 l.self ≡ l.i + first_from l.s.0 (drop l.i l.self))
