-- `stretch_count`: none, and some.
use mathlib.Core.Path.{sym}
use native.Mathlib.Omega.{arith}
use Rattle.path_stretches.proofs.StretchSteps.{count_none, count-some}
use Rattle.path_stretches.proofs.walk.stretch_count.Goals as goal

pub returns-then-count-eq0 : goal.returns-then-count-eq0
returns-then-count-eq0 c = sym (count_none c.args.count c.if-count-eq0.true)

pub returns : goal.returns
returns c = sym (count-some c.args.count (omega arith))
