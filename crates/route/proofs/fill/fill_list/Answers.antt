-- `fill_list`: one number a turn; the column so far with what is still to come is the column filled.
use Rattle.std.proofs.Common.{◌≡◌, sym, ◌∙◌, ◌+◌, length, arith}
use Rattle.route.proofs.Filled.{field-asked, whole-end, count-end, whole-stop, count-stop, whole-next, count_next}
use Rattle.route.proofs.fill.fill_list.Goals as goal

pub returns-then-is_empty : goal.returns-then-is_empty
returns-then-is_empty c =
    let l = c.loop-i in
    let missing = field-asked c.args.text.now c.args.at (l.i + 1) c.bytes_at.result.now c.is_empty.result c.bytes_at.ensures c.is_empty.ensures ∙ c.if-is_empty.true in
    record {
      col_after = sym (whole-stop c.args.text.now c.args.at l.col l.i (omega arith) missing) ∙ l.invariant.0;
      value = sym (count-stop c.args.text.now c.args.at l.col l.i (omega arith) missing) ∙ l.invariant.1;
      upper_bound = omega arith;
    }

pub loop-i-preserved : goal.loop-i-preserved
loop-i-preserved c =
    let l = c.loop-i in
    let there = field-asked c.args.text.now c.args.at (l.i + 1) c.bytes_at.result.now c.is_empty.result c.bytes_at.ensures c.is_empty.ensures ∙ c.if-is_empty.false in
    (whole-next c.args.text.now c.args.at l.col l.i (omega arith) c.count_at.result there c.count_at.ensures ∙ l.invariant.0, count_next c.args.text.now c.args.at l.col l.i (omega arith) c.count_at.result there ∙ l.invariant.1)

pub returns : goal.returns
returns c =
    let l = c.loop-i in
    let end : length l.col ≡ l.i = omega arith in
    record {
      col_after = sym (whole-end c.args.text.now c.args.at l.col l.i (omega arith)) ∙ l.invariant.0;
      value = end ∙ sym (count-end c.args.text.now c.args.at l.col l.i (omega arith)) ∙ l.invariant.1;
      upper_bound = omega arith;
    }
