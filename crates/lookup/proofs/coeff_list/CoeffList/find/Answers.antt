-- `find`: by the direction; Unk searches as Fwd does.
use native.Mathlib.Omega.{arith}
use Rattle.std.proofs.lemmas.Grind.{common_steps}
use Rattle.lookup.proofs.SearchSteps.{unknown-forward}
use Rattle.lookup.proofs.coeff_list.CoeffList.find.Goals as goal

pub returns-in-Fwd : goal.returns-in-Fwd
returns-in-Fwd c = grind (arith, common_steps, unknown-forward)
