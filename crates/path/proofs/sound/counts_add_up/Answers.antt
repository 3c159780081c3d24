-- `counts_add_up`: at most two records are spare, so each sum fits.
use Prim.Native.Nat.{◌≤◌}
use native.Mathlib.Omega.{arith}
use mathlib.Core.Bool.{Bool, true, false}
use Rattle.path.specs.Sound.{spare, add_up}
use Rattle.path.proofs.sound.counts_add_up.Goals as goal

spare-small : (finished : Bool) → spare finished ≤ 2
spare-small true = omega arith
spare-small false = omega arith

pub overflow_add-result : goal.overflow_add-result
overflow_add-result c = omega (arith, spare-small c.args.p.is_finished)

pub overflow_add-result-2 : goal.overflow_add-result-2
overflow_add-result-2 c = omega (arith, spare-small c.args.p.is_finished)

pub returns : goal.returns
unfolding add_up
returns c = rw c.spare_of-spare.ensures
