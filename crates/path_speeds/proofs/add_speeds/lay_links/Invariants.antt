-- `lay_links`: what is left to lay from point k on gives what was to be laid at first.
use Prim.Native.Nat.{◌+◌, ◌-◌}
use mathlib.Core.Path.{◌≡◌}
use mathlib.Core.Bool.{true}
use Rattle.link.specs.Lists.{every, up_from}
use Rattle.path.specs.Records.{point_at}
use Rattle.speed.specs.Becomes.{points_of}
use Rattle.link.specs.Table.{table}
use Rattle.path_speeds.specs.Limits.{sets_of, point_few, lay_links}
use Rattle.path_speeds.proofs.LinkLimits.{LinksLeft}
use Rattle.path_speeds.proofs.add_speeds.lay_links.Given as goal

abbrev pub invariant-loop-k : goal.invariant-loop-k
invariant-loop-k l =
    (every (point_few l.train (sets_of (table l.network))) (up_from (point_at l.offsets l.numbers) l.k (l.first + l.count - l.k)) ≡ true)
    × LinksLeft l.train l.length.0 (sets_of (table l.network)) l.initial.speeds (lay_links l.train l.length.0 (sets_of (table l.network)) (points_of l.initial.speeds) (up_from (point_at l.offsets l.numbers) l.first l.count)) (up_from (point_at l.offsets l.numbers) l.k (l.first + l.count - l.k)) l.speeds
