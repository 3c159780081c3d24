-- `calc_idx`: behind questions 1 and 2.
use native.Mathlib.Omega.{arith}
use Rattle.std.proofs.lemmas.Grind.{common_steps}
use Rattle.std.proofs.lemmas.Bool.Decides.{nat_tests}
use Rattle.lookup.specs.CalcIdx.{judged, calc_idx}
use Rattle.lookup.proofs.calc_idx.calc_idx.Goals as goal

pub returns-in_err-judged : goal.returns-in_err-judged
unfolding calc_idx judged
returns-in_err-judged c = grind (arith, nat_tests, common_steps)

pub returns : goal.returns
unfolding calc_idx judged
returns c = grind (arith, nat_tests, common_steps)
