-- `bytes_at`: the bytes of the span that `field` finds.
use mathlib.Core.Path.{ap, ◌∙◌}
use Rattle.route.specs.Text.{bytes_of}
use Rattle.route.specs.Fields.{field_bytes}
use Rattle.route.proofs.fields.bytes_at.Goals as goal

pub returns : goal.returns
unfolding field_bytes
returns c = c.part.ensures ∙ ap (bytes_of c.args.text.now) c.field.ensures
