-- `join_points`: with the points of the links that are left the points so far are those of all.
use Prim.Native.Nat.{◌+◌}
use mathlib.Core.Path.{◌≡◌}
use lib.ListN.{length, drop}
use Rattle.path.specs.Records.{link_points}
use Rattle.path_join.specs.ByKind.{joined_points}
use Rattle.path_join.proofs.OnPoints.{PointsLeft}
use Rattle.path_join.proofs.join.join_points.Given as goal

abbrev pub invariant-loop-k : goal.invariant-loop-k
invariant-loop-k l =
    (length l.offsets ≡ length l.initial.offsets) × (length l.numbers ≡ length l.initial.numbers) × PointsLeft l.network.links.now l.network.lengths.now (joined_points l.network.links.now l.network.lengths.now (link_points l.n l.initial.offsets l.initial.numbers) l.list) (drop l.k l.list) l.offsets l.numbers (l.n + l.k)
