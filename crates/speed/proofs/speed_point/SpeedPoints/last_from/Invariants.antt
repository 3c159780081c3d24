-- `last_from`: at each turn the last such point is the last of those before j, or 0.
use Prim.Native.Nat.{◌-◌}
use mathlib.Core.Path.{◌≡◌}
use lib.ListN.{length}
use Rattle.speed.specs.Insert.{last_from}
use Rattle.speed.proofs.speed_point.SpeedPoints.last_from.Given as goal

abbrev pub invariant-loop-j : goal.invariant-loop-j
invariant-loop-j l = last_from l.e.0 (length l.self - 1) l.self ≡ last_from l.e.0 (l.j - 1) l.self
