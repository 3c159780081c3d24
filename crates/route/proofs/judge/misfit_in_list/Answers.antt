-- `misfit_in_list`: the first misfit from field i + 1 on is the first of all.
use Rattle.std.proofs.Common.{◌≡◌, sym, ◌∙◌, ◌+◌, ap, is_some, arith}
use Rattle.route.proofs.Filled.{field-asked}
use Rattle.route.proofs.Forms.{list-stop, list-next, list-here, list-none, list-more}
use Rattle.route.proofs.judge.misfit_in_list.Goals as goal

pub returns-then-is_empty : goal.returns-then-is_empty
returns-then-is_empty c =
    let l = c.loop-i in
    let missing = field-asked c.args.text.now c.args.at (l.i + 1) c.bytes_at.result.now c.is_empty.result c.bytes_at.ensures c.is_empty.ensures ∙ c.if-is_empty.true in
    list-stop c.args.text.now c.args.at 1025 l.i (omega arith) missing ∙ l.invariant

pub returns-then-is_none : goal.returns-then-is_none
returns-then-is_none c =
    let l = c.loop-i in
    let there = field-asked c.args.text.now c.args.at (l.i + 1) c.bytes_at.result.now c.is_empty.result c.bytes_at.ensures c.is_empty.ensures ∙ c.if-is_empty.false in
    list-here c.args.text.now c.args.at 1025 l.i (omega arith) there c.is_none.result (sym c.is_none.ensures ∙ ap is_some c.whole_at.ensures) c.if-is_none.true ∙ l.invariant

pub loop-i-preserved : goal.loop-i-preserved
loop-i-preserved c =
    let l = c.loop-i in
    let there = field-asked c.args.text.now c.args.at (l.i + 1) c.bytes_at.result.now c.is_empty.result c.bytes_at.ensures c.is_empty.ensures ∙ c.if-is_empty.false in
    list-next c.args.text.now c.args.at 1025 l.i (omega arith) there c.is_none.result (sym c.is_none.ensures ∙ ap is_some c.whole_at.ensures) c.if-is_none.false ∙ l.invariant

pub returns-then-is_empty-2 : goal.returns-then-is_empty-2
returns-then-is_empty-2 c =
    let missing = field-asked c.args.text.now c.args.at 1026 c.bytes_at-2.result.now c.is_empty-2.result c.bytes_at-2.ensures c.is_empty-2.ensures ∙ c.if-is_empty-2.true in
    let end : c.loop-i.i ≡ 1025 = omega arith in
    list-none c.args.text.now c.args.at 1025 1025 (omega arith) missing ∙ rw end at c.loop-i.invariant

pub returns : goal.returns
returns c =
    let there = field-asked c.args.text.now c.args.at 1026 c.bytes_at-2.result.now c.is_empty-2.result c.bytes_at-2.ensures c.is_empty-2.ensures ∙ c.if-is_empty-2.false in
    let end : c.loop-i.i ≡ 1025 = omega arith in
    list-more c.args.text.now c.args.at 1025 1025 (omega arith) there ∙ rw end at c.loop-i.invariant
