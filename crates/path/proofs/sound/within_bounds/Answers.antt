-- `within_bounds`: the five kinds of record, in the definition's order.
use mathlib.Core.Path.{ap₂}
use mathlib.Core.Bool.{◌&&◌}
use Rattle.path.specs.Sound.{within_bounds}
use Rattle.path.proofs.sound.within_bounds.Goals as goal

pub returns : goal.returns
unfolding within_bounds
returns c = ap₂ ◌&&◌ c.within-links.ensures (ap₂ ◌&&◌ c.within-slopes.ensures (ap₂ ◌&&◌ c.within-bends.ensures (ap₂ ◌&&◌ c.within-limits.ensures c.within-drawn.ensures)))
