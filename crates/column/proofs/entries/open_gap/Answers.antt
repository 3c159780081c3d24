-- `open_gap`: the stretch moves up, where there is room.
use mathlib.Core.Path.{sym, ◌∙◌}
use native.Mathlib.Omega.{arith}
use Rattle.column.proofs.Gaps.{open-moved, open_order, open_full}
use Rattle.column.proofs.entries.open_gap.Goals as goal
use Rattle.column.proofs.entries.open_gap.Goals.{else-at-end-via-then-at-end+then-end-col+else-w-col, else-at-end-via-then-at-end+else-end-col, else-at-end-via-else-at-end}

pub returns-then-w-col : goal.returns-then-w-col
returns-then-w-col g c = c.move_up.ensures ∙ open-moved _ _ _ _ (omega arith) (omega arith)

pub returns-else-at-end : goal.returns-else-at-end
returns-else-at-end g c = elim c.else-at-end.branch [
  | else-at-end-via-then-at-end+then-end-col+else-w-col w ↦ sym (open_full _ _ _ _ (omega arith) (omega arith))
  | else-at-end-via-then-at-end+else-end-col w ↦ sym (open_full _ _ _ _ (omega arith) (omega arith))
  | else-at-end-via-else-at-end w ↦ sym (open_order _ _ _ _ (omega arith))
]
