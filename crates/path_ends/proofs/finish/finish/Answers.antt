-- `finish`: refused, and then zeros past the counts and the two closing records.
use mathlib.Core.Path.{ap, ◌∙◌}
use Rattle.path.specs.Records.{held, path_of}
use Rattle.path.proofs.Clauses.{sound-within, some-records, bounds}
use Rattle.path.proofs.Told.{handed-outcome, told-ok}
use Rattle.path_ends.specs.Finish.{finished_path, finish_answer, finish_of}
use Rattle.path_ends.proofs.Closed.{finish-done, closed}
use Rattle.path_ends.proofs.finish.finish.Goals as goal

pub returns-in_err-finish_answer-clause-outcome : goal.returns-in_err-finish_answer-clause-outcome
unfolding finish_of
returns-in_err-finish_answer-clause-outcome c =
    let a = c.args in
    let l = held a.cols.now in
    handed-outcome a.p l (finished_path (path_of a.p l)) _ (c.finish_answer.ensures ∙ ap (finish_answer a.p) c.reading.ensures) c.in_err-finish_answer.was c.from_residual.ensures.1

pub zero_rest-requires : goal.zero_rest-requires
zero_rest-requires c =
    let a = c.args in
    let l = held a.cols.now in
    (sound-within a.p l (finish-done a.p l (told-ok c.finish_answer.ensures c.in_ok-finish_answer.was ∙ ap (finish_answer a.p) c.reading.ensures)).0).1

pub close-requires : goal.close-requires
close-requires c =
    let a = c.args in
    let l = held a.cols.now in
    (some-records a.p l (sound-within a.p l (finish-done a.p l (told-ok c.finish_answer.ensures c.in_ok-finish_answer.was ∙ ap (finish_answer a.p) c.reading.ensures)).0).0).0

pub close-requires-2 : goal.close-requires-2
close-requires-2 c =
    let a = c.args in
    let l = held a.cols.now in
    (some-records a.p l (sound-within a.p l (finish-done a.p l (told-ok c.finish_answer.ensures c.in_ok-finish_answer.was ∙ ap (finish_answer a.p) c.reading.ensures)).0).0).1

pub closed_record-requires : goal.closed_record-requires
closed_record-requires c =
    let a = c.args in
    let l = held a.cols.now in
    let b = bounds a.p l (sound-within a.p l (finish-done a.p l (told-ok c.finish_answer.ensures c.in_ok-finish_answer.was ∙ ap (finish_answer a.p) c.reading.ensures)).0).1 in
    record { grade_count_bound = b.1; curve_count_bound = b.2 }

pub returns-clause-outcome : goal.returns-clause-outcome
returns-clause-outcome c =
    let a = c.args in
    closed a.p (held a.cols.now) (told-ok c.finish_answer.ensures c.in_ok-finish_answer.was ∙ ap (finish_answer a.p) c.reading.ensures) c.zero_rest.ensures.columns c.close.ensures c.close-2.ensures c.closed_record.ensures
