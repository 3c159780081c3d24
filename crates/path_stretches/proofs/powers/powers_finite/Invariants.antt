-- `powers_finite`: from limit i on the answer is that from the first on.
use Prim.Native.Nat.{◌+◌, ◌-◌}
use mathlib.Core.Path.{◌≡◌}
use Rattle.link.specs.Lists.{every, up_from}
use Rattle.link.specs.Table.{power_at}
use Rattle.path_stretches.specs.Powers.{power_finite}
use Rattle.path_stretches.proofs.powers.powers_finite.Given as goal

abbrev pub invariant-loop-i : goal.invariant-loop-i
invariant-loop-i l =
    let at = power_at l.link_powers l.link_districts in
    every (power_finite l.base.0) (up_from at l.i (l.first + l.count - l.i)) ≡ every (power_finite l.base.0) (up_from at l.first l.count)
