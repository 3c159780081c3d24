-- `blocks_down`: at each turn the first k entries are moved.
use native.Mathlib.Omega.{arith}
use Rattle.column.proofs.Moves.{downed-none, downed-more, downed-all}
use Rattle.column.proofs.entries.blocks_down.Goals as goal

pub loop-k-init : goal.loop-k-init
loop-k-init g c = downed-none

pub loop-k-preserved : goal.loop-k-preserved
loop-k-preserved g c = downed-more c.loop-k.invariant c.min-m.result (omega arith) (omega arith) (omega arith) c.move_block.auto.col c.move_block.ensures

pub shape_of-col : goal.shape_of-col
shape_of-col g c = c.loop-k.invariant.long

pub returns : goal.returns
returns g c = downed-all c.loop-k.invariant c.loop-k-test.false
