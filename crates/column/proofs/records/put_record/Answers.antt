-- `put_record`: the entries stored at the front of what is behind the record's first one.
use mathlib.Core.Path.{◌≡◌, sym, ap, ◌∙◌}
use Prim.Native.Nat.{ℕ, ◌*◌, ◌<◌, ◌≤◌}
use mathlib.Core.List.{List, ◌++◌}
use lib.ListN.{length, take}
use lib.Seq.{sets}
use Rattle.column.specs.Records.{put_record}
use Rattle.column.proofs.ByEntry.{put-past, tail_whole, tail_put, sets-behind, past_end, before_end}
use Rattle.column.proofs.records.put_record.Goals as goal

pub returns-then-i-col : goal.returns-then-i-col
unfolding put_record
returns-then-i-col g c =
    let L = g.R.Record.layout in
    let l = c.args.col.now in
    let k = c.WIDTH-then-i-col.result * c.args.i in
    let w : c.WIDTH-then-i-col.result ≡ L.width = c.WIDTH-then-i-col.ensures ∙ g.met.R.Record.own_width in
    let same : c.WIDTH-then-i-col.result ≡ c.WIDTH.result = c.WIDTH-then-i-col.ensures ∙ sym c.WIDTH.ensures in
    let some : 0 < c.WIDTH.result = rw c.WIDTH.ensures g.met.R.Record.some_width in
    let inside : k ≤ length l = rw same (before_end (length l) c.WIDTH.result c.args.i some c.if-i-col.true) in
    tail_put l k c.pack.new.col
    ∙ ap (λ (x : List _). take k l ++ x) (c.pack.ensures ∙ ap (λ (x : List _). sets x 0 (L.pack c.args.r)) (tail_whole l k))
    ∙ sym (sets-behind l k (L.pack c.args.r) inside)
    ∙ ap (λ (n : ℕ). sets l (n * c.args.i) (L.pack c.args.r)) w

pub returns-else-i-col : goal.returns-else-i-col
returns-else-i-col g c =
    let L = g.R.Record.layout in
    let w : c.WIDTH.result ≡ L.width = c.WIDTH.ensures ∙ g.met.R.Record.own_width in
    let some : 0 < c.WIDTH.result = rw c.WIDTH.ensures g.met.R.Record.some_width in
    sym (put-past L c.args.col.now c.args.i c.args.r (rw (← w) (past_end (length c.args.col.now) c.WIDTH.result c.args.i some c.if-i-col.false)))
