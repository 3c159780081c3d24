-- `link_range`: refused, or the range of the link's records.
use Rattle.path.specs.Records.{lent}
use Rattle.path.specs.Sound.{is_curves}
use Rattle.path.proofs.Told.{told-err, told-ok}
use Rattle.path_link_records.proofs.LinkParts.{inside, no-range, range-handed}
use Rattle.path_link_records.proofs.link_records.link_range.Goals as goal

pub returns-in_err-part_answer : goal.returns-in_err-part_answer
returns-in_err-part_answer c =
    let a = c.args in
    no-range a.k a.p (lent a.cols.now) (is_curves a.lines) _ _ (told-err c.part_answer.ensures c.in_err-part_answer.was) c.from_residual.ensures.1

pub record_range-requires : goal.record_range-requires
record_range-requires c =
    let a = c.args in
    let known = inside a.k a.p (lent a.cols.now) (is_curves a.lines) (told-ok c.part_answer.ensures c.in_ok-part_answer.was) in
    record { k_bound = known.0; numbers_bound = known.1.0 }

pub returns : goal.returns
returns c =
    let a = c.args in
    range-handed a.k a.p (lent a.cols.now) (is_curves a.lines) (told-ok c.part_answer.ensures c.in_ok-part_answer.was) c.record_range.ensures
