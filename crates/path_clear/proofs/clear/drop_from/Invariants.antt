-- `drop_from`: the link points that are passed and those that still are to go make up the answer.
use Prim.Native.Nat.{◌<◌}
use Rattle.path_clear.proofs.Gone.{Behind}
use Rattle.path_clear.proofs.clear.drop_from.Given as goal

abbrev pub invariant-loop-i : goal.invariant-loop-i
invariant-loop-i l = (l.i < l.n) × ((h : l.from < l.n) → Behind l.x l.cols.offsets.now l.cols.numbers.now l.n l.from h l.i)
