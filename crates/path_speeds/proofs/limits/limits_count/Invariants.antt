-- `limits_count`: the limits from i on and those counted before are all of them.
use Prim.Native.Nat.{◌+◌, ◌-◌, ◌≤◌}
use mathlib.Core.Path.{◌≡◌}
use lib.ListN.{length}
use Rattle.link.specs.Lists.{up_from}
use Rattle.link.specs.Table.{limit_at}
use Rattle.path_speeds.specs.Limits.{lowering}
use Rattle.path_speeds.proofs.limits.limits_count.Given as goal

abbrev pub invariant-loop-i : goal.invariant-loop-i
invariant-loop-i l = (l.n ≤ l.i) × (l.n + length (lowering l.top.0 (up_from (limit_at l.limits) l.i (l.end - l.i))) ≡ length (lowering l.top.0 (up_from (limit_at l.limits) l.first (l.end - l.first))))
