-- `judged`: question 1, question 2, and the list.
use native.Mathlib.Omega.{arith}
use Rattle.std.proofs.lemmas.Grind.{common_steps}
use Rattle.std.proofs.lemmas.Bool.Decides.{nat_tests}
use Rattle.lookup.specs.CalcIdx.{judged}
use Rattle.lookup.proofs.SearchSteps.{sound-known}
use Rattle.lookup.proofs.coeff_list.CoeffList.judged.Goals as goal

pub returns-in_err-ask : goal.returns-in_err-ask
unfolding judged
returns-in_err-ask c = grind (arith, nat_tests, common_steps)

pub returns-in_err-ask-2 : goal.returns-in_err-ask-2
unfolding judged
returns-in_err-ask-2 c = grind (arith, nat_tests, common_steps)

pub new-requires-clause-some : goal.new-requires-clause-some
new-requires-clause-some c = grind (arith, common_steps, sound-known c.args.n c.args.col.now)

pub new-requires-clause-in_column : goal.new-requires-clause-in_column
new-requires-clause-in_column c = grind (arith, common_steps, sound-known c.args.n c.args.col.now)

pub returns : goal.returns
unfolding judged
returns c = grind (arith, nat_tests, common_steps)
