-- `behind_point`: with a point and without.
use Rattle.std.proofs.Common.{sym, ◌∙◌}
use Rattle.decimal.specs.Fault.{is_point, behind_point}
use Rattle.decimal.proofs.Points.{behind-some, behind-none}
use Rattle.decimal.proofs.fault.behind_point.Goals as goal

pub returns-in-Some : goal.returns-in-Some
unfolding behind_point
returns-in-Some c = behind-some is_point c.args.text.now c.in-Some.p (sym c.point.ensures ∙ c.in-Some.is)

pub returns-in-None : goal.returns-in-None
unfolding behind_point
returns-in-None c = behind-none is_point c.args.text.now (sym c.point.ensures ∙ c.in-None.is)
