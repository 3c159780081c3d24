-- `state_finite`: the five numbers one by one, and the test.
use mathlib.Core.Bool.{and-true}
use lib.Ieee.Scale.{finite}
use Rattle.ieee.specs.Number.{all_finite}
use Rattle.ieee.proofs.Same.{zero-literal}
use Rattle.train.specs.Position.{state_finite, in_link_of}
use Rattle.train.proofs.train_state.state_finite.Goals as goal

pub returns : goal.returns
unfolding state_finite all_finite
returns c = cc (zero-literal, and-true (finite (in_link_of c.args.s)))
