-- `number_at`: the number that the bytes are.
use mathlib.Core.Path.{ap, ◌∙◌}
use Rattle.decimal.specs.Number.{read_number}
use Rattle.route.specs.Fields.{number_at}
use Rattle.route.proofs.fields.number_at.Goals as goal

pub returns : goal.returns
unfolding number_at
returns c = c.read_number.ensures ∙ ap read_number c.bytes_at.ensures
