-- `limits_finite`: from limit i on the answer is that from the first on.
use Prim.Native.Nat.{◌-◌}
use mathlib.Core.Path.{◌≡◌}
use Rattle.link.specs.Lists.{every, up_from}
use Rattle.link.specs.Table.{limit_at}
use Rattle.path_speeds.specs.Limits.{laid_finite}
use Rattle.path_speeds.proofs.limits.limits_finite.Given as goal

abbrev pub invariant-loop-i : goal.invariant-loop-i
invariant-loop-i l = every (laid_finite l.top.0 l.base.0 l.tail.0) (up_from (limit_at l.limits) l.i (l.end - l.i)) ≡ every (laid_finite l.top.0 l.base.0 l.tail.0) (up_from (limit_at l.limits) l.first (l.end - l.first))
