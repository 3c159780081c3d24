-- `laid_finite`: a limit that is not laid, and the three sums.
use mathlib.Core.Path.{ap}
use mathlib.Core.Bool.{not}
use Rattle.path_speeds.proofs.limits.laid_finite.Goals as goal

pub returns-then-not-l-top : goal.returns-then-not-l-top
returns-then-not-l-top c = rw (ap not c.if-not-l-top.true)

pub returns : goal.returns
returns c = rw ((ap not c.if-not-l-top.false), c.is_finite.ensures, c.is_finite-2.ensures, c.is_finite-3.ensures)
