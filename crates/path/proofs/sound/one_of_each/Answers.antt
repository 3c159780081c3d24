-- `one_of_each`: the definition.
use mathlib.Core.Path.{refl}
use Rattle.path.specs.Sound.{one_of_each}
use Rattle.path.proofs.sound.one_of_each.Goals as goal

pub returns : goal.returns
unfolding one_of_each
returns c = refl
