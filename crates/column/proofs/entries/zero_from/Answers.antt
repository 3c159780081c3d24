-- `zero_from`: what is behind the place becomes zeros; a copy is always made, and is the same.
use mathlib.Core.Path.{sym, ap, ◌∙◌}
use mathlib.Core.List.{List, ◌++◌}
use lib.ListN.{length, take}
use native.Mathlib.Omega.{arith}
use Rattle.column.proofs.Filling.{zero_is, zero-none}
use Rattle.column.proofs.ByEntry.{tail_put, copies}
use Rattle.column.proofs.entries.zero_from.Goals as goal

pub fill-requires : goal.fill-requires
fill-requires g c = g.met.T.Entry.always_copied _

pub returns-then-from-col : goal.returns-then-from-col
returns-then-from-col g c =
    let l = c.args.col.now in
    tail_put l c.args.from c.fill.new.self
    ∙ ap (λ (x : List _). take c.args.from l ++ x)
    (c.fill.ensures.after (g.met.T.Entry.same_copied _) ∙ copies l c.args.from (length l) _ _ (omega arith) c.zero.ensures)
    ∙ sym (zero_is _ c.args.from l)

pub returns-else-from-col : goal.returns-else-from-col
returns-else-from-col g c = sym (zero-none _ c.args.col.now c.args.from c.if-from-col.false)
