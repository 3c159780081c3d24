-- `point_behind`: from the place before i back the search ends where it ends from the last link point back.
use Prim.Native.Nat.{◌-◌, ◌<◌}
use Rattle.train.proofs.Behind.{Passed}
use Rattle.train.proofs.locate.point_behind.Given as goal

abbrev pub invariant-loop-i : goal.invariant-loop-i
invariant-loop-i l = (0 < l.i) × Passed l.cols.offsets.now l.cols.numbers.now l.n l.x.0 (l.i - 1)
