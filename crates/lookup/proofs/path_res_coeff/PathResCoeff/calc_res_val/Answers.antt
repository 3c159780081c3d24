-- `calc_res_val`: operation for operation.
use mathlib.Core.Path.{refl}
use Rattle.lookup.specs.Coeff.{res_val}
use Rattle.lookup.proofs.path_res_coeff.PathResCoeff.calc_res_val.Goals as goal

pub returns : goal.returns
unfolding res_val
returns c = refl
