-- `forward`: from i on the search ends where it ends from the hint on.
use mathlib.Core.Path.{◌≡◌}
use Rattle.lookup.specs.Search.{forwards}
use Rattle.lookup.proofs.coeff_list.CoeffList.forward.Given as goal

abbrev pub invariant-loop-i : goal.invariant-loop-i
invariant-loop-i l = forwards l.x.0 l.i l.self ≡ forwards l.x.0 l.hint l.self
