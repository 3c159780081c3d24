-- `blocks_down`: at each turn the first k entries are moved.
use Prim.Native.Nat.{◌-◌}
use Rattle.column.proofs.Moves.{Downed}
use Rattle.column.proofs.entries.blocks_down.Given as goal

abbrev pub invariant-loop-k : goal.invariant-loop-k
invariant-loop-k g l = Downed l.initial.col l.i l.j l.n l.col l.k

abbrev pub decreases-loop-k : goal.decreases-loop-k
decreases-loop-k g l = l.n - l.k
