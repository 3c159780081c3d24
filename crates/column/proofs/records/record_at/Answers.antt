-- `record_at`: the record at the front of what is behind its first entry.
use mathlib.Core.Path.{◌≡◌, sym, ap, ◌∙◌}
use Prim.Native.Nat.{ℕ, ◌*◌, ◌<◌}
use lib.ListN.{length, drop}
use Rattle.column.specs.Records.{record_at}
use Rattle.column.proofs.ByEntry.{record-past, tail_whole, past_end}
use Rattle.column.proofs.records.record_at.Goals as goal

pub returns-then-i-col : goal.returns-then-i-col
unfolding record_at
returns-then-i-col g c =
    let L = g.R.Record.layout in
    let l = c.args.col.now in
    let w : c.WIDTH-then-i-col.result ≡ L.width = c.WIDTH-then-i-col.ensures ∙ g.met.R.Record.own_width in
    c.unpack.ensures
    ∙ ap L.unpack (tail_whole l (c.WIDTH-then-i-col.result * c.args.i) ∙ ap (λ (k : ℕ). drop (k * c.args.i) l) w)

pub returns-else-i-col : goal.returns-else-i-col
returns-else-i-col g c =
    let L = g.R.Record.layout in
    let w : c.WIDTH.result ≡ L.width = c.WIDTH.ensures ∙ g.met.R.Record.own_width in
    let some : 0 < c.WIDTH.result = rw c.WIDTH.ensures g.met.R.Record.some_width in
    c.unpack-else-i-col.ensures
    ∙ sym (record-past L c.args.col.now c.args.i (rw (← w) (past_end (length c.args.col.now) c.WIDTH.result c.args.i some c.if-i-col.false)))
