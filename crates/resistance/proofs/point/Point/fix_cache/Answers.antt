-- `fix_cache`: question 11, and then the index.
use native.Mathlib.Omega.{arith}
use Rattle.std.proofs.lemmas.Grind.{common_steps}
use Rattle.std.proofs.lemmas.Bool.Decides.{nat_tests}
use Rattle.resistance.specs.Point.{fix_cache}
use Rattle.resistance.proofs.point.Point.fix_cache.Goals as goal

pub returns-in_err-ask : goal.returns-in_err-ask
unfolding fix_cache
returns-in_err-ask c = grind (arith, nat_tests, common_steps)

pub returns : goal.returns
unfolding fix_cache
returns c = grind (arith, nat_tests, common_steps)
