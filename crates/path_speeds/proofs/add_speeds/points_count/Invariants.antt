-- `points_count`: the counts from point k on and the sum before are the sum of all.
use Prim.Native.Nat.{◌+◌, ◌-◌, ◌*◌, ◌^◌, ◌≤◌}
use mathlib.Core.Path.{◌≡◌}
use mathlib.Core.Bool.{true}
use Rattle.link.specs.Lists.{every, up_from}
use Rattle.path.specs.Records.{point_at}
use Rattle.path.specs.Sound.{total}
use Rattle.link.specs.Table.{table}
use Rattle.path_speeds.specs.Limits.{sets_of, point_few, point_count}
use Rattle.path_speeds.proofs.add_speeds.points_count.Given as goal

abbrev pub invariant-loop-k : goal.invariant-loop-k
invariant-loop-k l = (every (point_few l.train (sets_of (table l.network))) (up_from (point_at l.offsets l.numbers) l.k (l.count - l.k)) ≡ true) × (l.n ≤ l.k * 2 ^ 32) × (l.n + total (point_count l.train (sets_of (table l.network))) (up_from (point_at l.offsets l.numbers) l.k (l.count - l.k)) ≡ total (point_count l.train (sets_of (table l.network))) (up_from (point_at l.offsets l.numbers) 0 l.count))
