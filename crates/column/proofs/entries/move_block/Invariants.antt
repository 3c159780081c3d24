-- `move_block`: at each turn the first k entries are read into the block, and then stored from it.
use Rattle.std.proofs.Common.{◌≡◌, length, take, drop}
use Rattle.column.proofs.Moves.{Copied}
use Rattle.column.proofs.entries.move_block.Given as goal

abbrev pub invariant-loop-k : goal.invariant-loop-k
invariant-loop-k g l = (length l.block ≡ 256) × (take l.k l.block ≡ take l.k (drop l.j l.col))

abbrev pub invariant-loop-k-2 : goal.invariant-loop-k-2
invariant-loop-k-2 g l = Copied l.initial.col l.i l.block 0 l.n l.col l.k
