-- `move_at_once`: the entries are copied within the column.
use mathlib.Core.Path.{◌∙◌}
use Rattle.column.proofs.Moves.{copied-within}
use Rattle.column.proofs.entries.move_at_once.Goals as goal

pub returns : goal.returns
returns g c = c.copy_within.ensures.after ∙ copied-within _ _ _ _
