-- `speed_offset`: the first entry of the record.
use mathlib.Core.Path.{sym, ap, ◌∙◌}
use Rattle.column.specs.declared.Two.{Two}
use Rattle.column.proofs.ByEntry.{two-entries}
use Rattle.path.proofs.sound.speed_offset.Goals as goal

pub returns : goal.returns
returns c = c.entry.ensures ∙ sym (ap (λ (r : Two). r.0) (two-entries c.args.speeds.now c.args.i))
