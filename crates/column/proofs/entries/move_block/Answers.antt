-- `move_block`: what was read into the block and stored from there is moved.
use Rattle.std.proofs.Common.{◌≡◌, length-set}
use native.Mathlib.Nat.{zero-add}
use mathlib.Core.Path.{refl, sym, ◌∙◌}
use native.Mathlib.Omega.{arith}
use Rattle.column.proofs.Moves.{copied_more, copied_all, block-read, block-moved}
use Rattle.column.proofs.entries.move_block.Goals as goal

pub loop-k-preserved : goal.loop-k-preserved
loop-k-preserved g c = (simp length-set c.loop-k.invariant.0, block-read c.args.col.now c.loop-k.block c.args.j c.loop-k.k _ c.index-col-j.is (omega (arith, c.loop-k.invariant.0)) (omega arith) c.loop-k.invariant.1)

pub loop-k-2-preserved : goal.loop-k-2-preserved
loop-k-2-preserved g c = copied_more c.loop-k-2.invariant _ _ _ refl (sym (zero-add _)) (omega arith) (omega arith) (omega arith)

pub returns : goal.returns
returns g c =
    let n = c.args.n in
    let e : c.loop-k.k ≡ n = omega arith in
    copied_all c.loop-k-2.invariant (omega arith) ∙ block-moved _ _ _ _ n (rw (← e) c.loop-k.invariant.1)
