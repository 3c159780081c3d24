-- `is_finite`: x - x is +0 for a finite x, and a NaN otherwise.
use mathlib.Core.Bool.{false}
use lib.Ieee.{binary64}
use Rattle.ieee.proofs.Same.{zero-literal}
use Rattle.ieee.proofs.Sum.{finite-sub}
use Rattle.ieee.proofs.is_finite.Goals as goal

pub returns : goal.returns
returns c = rw zero-literal (finite-sub binary64 c.args.x false)
