-- `posted_at`: the last point at or before x is lo or comes after it, and comes before hi.
use Prim.Native.Nat.{◌-◌, ◌≤◌, ◌<◌}
use mathlib.Core.Path.{◌≡◌}
use mathlib.Core.Bool.{true, false}
use lib.ListN.{length, drop}
use lib.Ieee as Ieee
use lib.Ieee.{Float}
use Rattle.speed.specs.Points.{offset_at}
use Rattle.speed.proofs.Reached.{reaches}
use Rattle.speed.proofs.speed_point.SpeedPoints.posted_at.Given as goal

abbrev pub invariant-loop-hi : goal.invariant-loop-hi
invariant-loop-hi l = (l.lo < l.hi) × (l.hi ≤ length l.self) × (Ieee.le (offset_at l.self l.lo) l.x.0 ≡ true) × (reaches l.x.0 (drop l.hi l.self) ≡ false)

abbrev pub decreases-loop-hi : goal.decreases-loop-hi
decreases-loop-hi l = l.hi - l.lo
