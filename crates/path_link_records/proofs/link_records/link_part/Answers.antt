-- `link_part`: refused, or the link's part of the column.
use native.Mathlib.Omega.{arith}
use Rattle.path.specs.Records.{lent}
use Rattle.path.specs.Sound.{is_curves}
use Rattle.path.proofs.Told.{told-err, told-ok}
use Rattle.path_link_records.proofs.LinkParts.{inside, none-handed, range-few, range-within, part-handed}
use Rattle.path_link_records.proofs.link_records.link_part.Goals as goal

pub returns-in_err-part_answer : goal.returns-in_err-part_answer
returns-in_err-part_answer c =
    let a = c.args in
    none-handed a.k a.p (lent a.cols.now) (is_curves a.lines) _ _ (told-err c.part_answer.ensures c.in_err-part_answer.was) c.from_residual.ensures.1

pub record_range-r-requires : goal.record_range-r-requires
record_range-r-requires c =
    let a = c.args in
    let known = inside a.k a.p (lent a.cols.now) (is_curves a.lines) (told-ok c.part_answer.ensures c.in_ok-part_answer.was) in
    record { k_bound = known.0; numbers_bound = known.1.0 }

pub overflow_add-to : goal.overflow_add-to
overflow_add-to c =
    let a = c.args in
    record { fits = omega (arith, range-few a.k a.p (lent a.cols.now) (is_curves a.lines) (told-ok c.part_answer.ensures c.in_ok-part_answer.was) c.record_range-r.ensures) }

pub offset_bounds-col-from : goal.offset_bounds-col-from
offset_bounds-col-from c =
    let a = c.args in
    omega (arith, range-within a.k a.p (lent a.cols.now) (is_curves a.lines) (told-ok c.part_answer.ensures c.in_ok-part_answer.was) c.record_range-r.ensures c.requires.own)

pub slice_bounds-result-end : goal.slice_bounds-result-end
slice_bounds-result-end c =
    let a = c.args in
    omega (arith, range-within a.k a.p (lent a.cols.now) (is_curves a.lines) (told-ok c.part_answer.ensures c.in_ok-part_answer.was) c.record_range-r.ensures c.requires.own)

pub returns : goal.returns
returns c =
    let a = c.args in
    part-handed a.k a.p (lent a.cols.now) (is_curves a.lines) (told-ok c.part_answer.ensures c.in_ok-part_answer.was) c.record_range-r.ensures c.requires.own
