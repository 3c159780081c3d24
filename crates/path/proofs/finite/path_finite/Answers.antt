-- `path_finite`: the five columns, in the definition's order.
use mathlib.Core.Path.{ap₂}
use mathlib.Core.Bool.{◌&&◌}
use Rattle.path.specs.Sound.{path_finite}
use Rattle.path.proofs.finite.path_finite.Goals as goal

pub returns : goal.returns
unfolding path_finite
returns c = ap₂ ◌&&◌ c.all_finite-links.ensures (ap₂ ◌&&◌ c.coeffs_finite-slopes.ensures (ap₂ ◌&&◌ c.coeffs_finite-bends.ensures (ap₂ ◌&&◌ c.records_finite-limits.ensures c.records_finite-drawn.ensures)))
