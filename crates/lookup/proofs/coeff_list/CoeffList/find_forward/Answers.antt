-- `find_forward`: question 10, question 11, and the index.
use native.Mathlib.Omega.{arith}
use Rattle.std.proofs.lemmas.Grind.{common_steps}
use Rattle.std.proofs.lemmas.Bool.Decides.{nat_tests}
use Rattle.lookup.specs.Search.{in_range, hint_allowed, searched}
use Rattle.lookup.specs.CalcIdx.{find_in}
use Rattle.lookup.proofs.coeff_list.CoeffList.find_forward.Goals as goal

pub returns-in_err-ask : goal.returns-in_err-ask
unfolding find_in in_range hint_allowed searched
returns-in_err-ask c = grind (arith, nat_tests, common_steps)

pub returns-in_err-ask-2 : goal.returns-in_err-ask-2
unfolding find_in in_range hint_allowed searched
returns-in_err-ask-2 c = grind (arith, nat_tests, common_steps)

pub returns : goal.returns
unfolding find_in in_range hint_allowed searched
returns c = grind (arith, nat_tests, common_steps)
