-- `going`: the trims that are left, from the first link point that stays on, give the answer of the whole list.
use Prim.Native.Nat.{◌≤◌, ◌<◌}
use mathlib.Core.Path.{◌≡◌}
use lib.ListN.{length, drop}
use Rattle.path.specs.Records.{link_points}
use Rattle.path_clear.specs.TrimsByPoints.{going_of}
use Rattle.path_clear.proofs.clear_each.going.Given as goal

abbrev pub invariant-loop-k : goal.invariant-loop-k
invariant-loop-k l =
    (l.k ≤ length l.xs) × (l.gone < l.n) × (going_of l.gone l.k (drop l.k l.xs) (link_points l.n l.cols.offsets.now l.cols.numbers.now) ≡ going_of 0 0 l.xs (link_points l.n l.cols.offsets.now l.cols.numbers.now))
