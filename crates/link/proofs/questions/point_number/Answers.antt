-- `point_number`: the fourth number of the point.
use Rattle.std.proofs.Common.{ap, ◌∙◌}
use Rattle.column.specs.declared.Four.{Four}
use Rattle.column.proofs.ByEntry.{four-entries}
use Rattle.link.proofs.questions.point_number.Goals as goal

pub returns : goal.returns
returns c = ap (λ (r : Four). r.3) (c.record_at.ensures ∙ four-entries c.args.list.now c.args.k)
