-- `train_finite`: the seven numbers one by one, and the two tests.
use mathlib.Core.Bool.{and-true}
use lib.Ieee.Scale.{finite}
use Rattle.ieee.specs.Number.{all_finite}
use Rattle.ieee.proofs.Same.{zero-literal}
use Rattle.link.specs.Train.{curve2}
use Rattle.path.specs.Sound.{train_finite}
use Rattle.path.proofs.finite.train_finite.Goals as goal

pub returns : goal.returns
unfolding train_finite all_finite
returns c = cc (zero-literal, and-true (finite (curve2 c.args.t)))
