-- `move_front`: the stretch moves down to the front, and the rest is zeroed.
use mathlib.Core.Path.{ap, ◌∙◌}
use Rattle.column.specs.Entries.{zero_from}
use Rattle.column.proofs.Moves.{front-moved}
use Rattle.column.proofs.entries.move_front.Goals as goal

pub returns : goal.returns
returns g c =
    c.zero_from.ensures
    ∙ ap (zero_from _ _) c.move_down.ensures
    ∙ front-moved _ _ _ _ _ _ c.min-end.ensures c.min-first.ensures
