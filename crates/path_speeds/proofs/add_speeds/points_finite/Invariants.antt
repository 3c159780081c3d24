-- `points_finite`: from point k on the first no is that of all.
use Prim.Native.Nat.{◌-◌}
use mathlib.Core.Path.{◌≡◌}
use mathlib.Core.Bool.{true}
use mathlib.Core.List.{map}
use Rattle.link.specs.Lists.{every, up_from, first_no, first_no_from}
use Rattle.path.specs.Records.{point_at}
use Rattle.link.specs.Table.{table}
use Rattle.path_speeds.specs.Limits.{sets_of, point_few, point_finite}
use Rattle.path_speeds.proofs.add_speeds.points_finite.Given as goal

abbrev pub invariant-loop-k : goal.invariant-loop-k
invariant-loop-k l = (every (point_few l.train (sets_of (table l.network))) (up_from (point_at l.offsets l.numbers) l.k (l.count - l.k)) ≡ true) × (first_no_from l.k (map (point_finite l.train l.length.0 (sets_of (table l.network))) (up_from (point_at l.offsets l.numbers) l.k (l.count - l.k))) ≡ first_no (map (point_finite l.train l.length.0 (sets_of (table l.network))) (up_from (point_at l.offsets l.numbers) 0 l.count)))
