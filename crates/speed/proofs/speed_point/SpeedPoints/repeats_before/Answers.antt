-- `repeats_before`: none before the first point; otherwise the speed of the point before is compared.
use mathlib.Core.Path.{ap, ◌∙◌}
use lib.Ieee as Ieee
use lib.Ieee.{Float}
use Rattle.speed.proofs.InsertSteps.{repeats-none, repeats-some}
use Rattle.speed.proofs.speed_point.SpeedPoints.repeats_before.Goals as goal

pub returns-then-i-eq0 : goal.returns-then-i-eq0
returns-then-i-eq0 c = repeats-none c.args.i c.args.w.0 c.args.self.now c.if-i-eq0.true

pub returns : goal.returns
returns c = ap (λ (u : Float). Ieee.eq u c.args.w.0) c.speed_at.ensures ∙ repeats-some c.args.i c.args.w.0 c.args.self.now c.if-i-eq0.false
