-- `before_point`: with a point and without.
use Rattle.std.proofs.Common.{sym, ◌∙◌}
use Rattle.decimal.specs.Fault.{is_point, before_point}
use Rattle.decimal.proofs.Points.{before-some, before-none}
use Rattle.decimal.proofs.fault.before_point.Goals as goal

pub returns-in-Some : goal.returns-in-Some
unfolding before_point
returns-in-Some c = before-some is_point c.args.text.now c.in-Some.p (sym c.point.ensures ∙ c.in-Some.is)

pub returns-in-None : goal.returns-in-None
unfolding before_point
returns-in-None c = before-none is_point c.args.text.now (sym c.point.ensures ∙ c.in-None.is)
