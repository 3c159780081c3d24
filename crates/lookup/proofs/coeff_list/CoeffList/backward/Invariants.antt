-- `backward`: from j back the search ends where it ends from the hint back.
use mathlib.Core.Path.{◌≡◌}
use Rattle.lookup.specs.Search.{backwards}
use Rattle.lookup.proofs.coeff_list.CoeffList.backward.Given as goal

abbrev pub invariant-loop-j : goal.invariant-loop-j
invariant-loop-j l = backwards l.x.0 l.j l.self ≡ backwards l.x.0 l.hint l.self
