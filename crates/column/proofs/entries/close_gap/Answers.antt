-- `close_gap`: the stretch after the entries that go out moves down, and zeros stand before its end.
use Rattle.std.proofs.Common.{◌-◌, ◌≤◌, length}
use mathlib.Core.Path.{sym, ap, ◌∙◌}
use native.Mathlib.Omega.{arith}
use Rattle.column.specs.Entries.{zero_range}
use Rattle.column.proofs.Gaps.{close-moved, close-order, close-short}
use Rattle.column.proofs.ByEntry.{zeros_put, copies}
use Rattle.column.proofs.entries.close_gap.Goals as goal
use Rattle.column.proofs.entries.close_gap.Goals.{else-end-col-via-then-end-col+then-at-end+else-w-end, else-end-col-via-then-end-col+else-at-end, else-end-col-via-else-end-col}

pub fill-requires : goal.fill-requires
fill-requires g c = g.met.T.Entry.always_copied _

pub returns-then-w-end : goal.returns-then-w-end
returns-then-w-end g c =
    let l = c.args.col.now in
    let m = c.move_down.new.col in
    let end = c.args.end in
    let w = c.args.w in
    let long : end ≤ length m = omega (arith, c.move_down.auto.col) in
    zeros_put g.T.Entry.zero m (end - w) end c.fill.new.self (omega arith) long
    (c.fill.ensures.after (g.met.T.Entry.same_copied _) ∙ copies m (end - w) end _ _ long c.zero.ensures)
    ∙ ap (zero_range g.T.Entry.zero (end - w) end) c.move_down.ensures
    ∙ close-moved g.T.Entry.zero _ _ _ l (omega arith) (omega arith)

pub returns-else-end-col : goal.returns-else-end-col
returns-else-end-col g c = elim c.else-end-col.branch [
  | else-end-col-via-then-end-col+then-at-end+else-w-end w ↦ sym (close-order _ _ _ _ _ (omega arith))
  | else-end-col-via-then-end-col+else-at-end w ↦ sym (close-order _ _ _ _ _ (omega arith))
  | else-end-col-via-else-end-col w ↦ sym (close-short _ _ _ _ _ (omega arith))
]
