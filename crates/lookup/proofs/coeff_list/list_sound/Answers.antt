-- `list_sound`: question 2, test by test.
use native.Mathlib.Omega.{arith}
use Rattle.std.proofs.lemmas.Bool.Decides.{nat_tests}
use Rattle.lookup.specs.CalcIdx.{list_sound}
use Rattle.lookup.proofs.coeff_list.list_sound.Goals as goal

pub returns-then-n-gt0 : goal.returns-then-n-gt0
unfolding list_sound
returns-then-n-gt0 c = grind (arith, nat_tests)

pub returns-else-n-gt0 : goal.returns-else-n-gt0
unfolding list_sound
returns-else-n-gt0 c = grind (arith, nat_tests)
