-- `whole_at`: the whole number that the bytes are.
use mathlib.Core.Path.{ap, ◌∙◌}
use Rattle.decimal.specs.Number.{read_whole}
use Rattle.route.specs.Fields.{whole_at}
use Rattle.route.proofs.fields.whole_at.Goals as goal

pub returns : goal.returns
unfolding whole_at
returns c = c.read_whole.ensures ∙ ap read_whole c.bytes_at.ensures
