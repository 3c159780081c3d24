-- `sum_limits`: the counts from link k on and the sum before are the sum of all.
use Prim.Native.Nat.{◌+◌, ◌*◌, ◌≤◌, ◌^◌}
use mathlib.Core.Path.{◌≡◌}
use lib.ListN.{length, drop}
use Rattle.link.specs.Table.{table}
use Rattle.path_speeds.specs.Limits.{sets_of, count_at}
use Rattle.path_join.specs.Listed.{sum_of}
use Rattle.path_join.proofs.fit.sum_limits.Given as goal

abbrev pub invariant-loop-i : goal.invariant-loop-i
invariant-loop-i l =
    let lays = count_at l.train (sets_of (table l.network)) in
    (l.n + sum_of lays (drop l.i-index l.list) ≡ sum_of lays l.list) × (l.n ≤ l.i-index * 2 ^ 32) × (l.i-index ≤ length l.list)
