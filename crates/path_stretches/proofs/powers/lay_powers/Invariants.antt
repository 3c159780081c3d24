-- `lay_powers`: the two columns hold the limits that were there and the first k of the link.
use mathlib.Core.Path.{◌≡◌}
use mathlib.Core.List.{◌++◌, map}
use lib.ListN.{length}
use Rattle.link.specs.Lists.{up_from}
use Rattle.link.specs.Table.{power_at}
use Rattle.path.specs.Records.{power_limits}
use Rattle.path_stretches.specs.Powers.{placed_power, HoldsPowers}
use Rattle.path_stretches.proofs.powers.lay_powers.Given as goal

abbrev pub invariant-loop-k : goal.invariant-loop-k
invariant-loop-k l =
    (length l.powers ≡ length l.initial.powers) × (length l.districts ≡ length l.initial.districts) × HoldsPowers l.powers l.districts (power_limits l.m l.initial.powers l.initial.districts ++ map (placed_power l.base.0) (up_from (power_at l.link_powers l.link_districts) l.first l.k))
