-- `sum_counts`: the counts from link k on and the sums before are the sums of all.
use Prim.Native.Nat.{◌+◌}
use mathlib.Core.Path.{◌≡◌}
use lib.ListN.{drop}
use Rattle.path_join.specs.Listed.{grades_in, curves_in, powers_in, sum_of}
use Rattle.path_join.proofs.fit.sum_counts.Given as goal

abbrev pub invariant-loop-i : goal.invariant-loop-i
invariant-loop-i l = (l.grades + sum_of (grades_in l.links) (drop l.i-index l.list) ≡ sum_of (grades_in l.links) l.list) × (l.curves + sum_of (curves_in l.links) (drop l.i-index l.list) ≡ sum_of (curves_in l.links) l.list) × (l.powers + sum_of (powers_in l.links) (drop l.i-index l.list) ≡ sum_of (powers_in l.links) l.list)
