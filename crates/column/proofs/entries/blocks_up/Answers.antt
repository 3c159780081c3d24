-- `blocks_up`: at each turn the entries past the first k are moved.
use mathlib.Core.Path.{refl, ◌∙◌}
use native.Mathlib.Omega.{arith}
use Rattle.column.proofs.Moves.{up_start, up_more, up_done}
use Rattle.column.proofs.entries.blocks_up.Goals as goal

pub loop-k-init : goal.loop-k-init
loop-k-init g c = (refl, omega arith, up_start _ _ _ _)

pub loop-k-preserved : goal.loop-k-preserved
loop-k-preserved g c = (
  c.move_block.auto.col ∙ c.loop-k.invariant.0,
  omega arith,
  c.move_block.ensures ∙ rw c.loop-k.invariant.2 (up_more _ _ _ _ _ _ (omega arith) (omega arith) (omega arith) (omega arith)),
)

pub shape_of-col : goal.shape_of-col
shape_of-col g c = c.loop-k.invariant.0

pub returns : goal.returns
returns g c = c.loop-k.invariant.2 ∙ up_done _ _ _ _ _ (omega arith)
