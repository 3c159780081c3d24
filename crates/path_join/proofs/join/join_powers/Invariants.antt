-- `join_powers`: with the limits of the links that are left the limits so far are those of all.
use lib.ListN.{drop}
use Rattle.path.specs.Records.{power_limits}
use Rattle.path_join.specs.Listed.{rises}
use Rattle.path_join.specs.ByKind.{joined_powers}
use Rattle.path_join.proofs.OnPowers.{PowersLeft}
use Rattle.path_join.proofs.join.join_powers.Given as goal

abbrev pub invariant-loop-link : goal.invariant-loop-link
invariant-loop-link l =
    let r = rises l.network.links.now l.network.lengths.now l.network.elevs.now in
    PowersLeft r l.network.powers.now l.network.districts.now l.initial.powers l.initial.districts (joined_powers r l.network.powers.now l.network.districts.now l.initial.base.0 (power_limits l.m l.initial.powers l.initial.districts) l.list) (drop l.link-index l.list) l.powers l.districts l.n l.base.0
