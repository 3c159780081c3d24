-- `recalc_speeds`: refused, and then zeros past the counts and the speed points anew.
use mathlib.Core.Path.{ap, ◌∙◌}
use Rattle.link.specs.Table.{table}
use Rattle.path.specs.Records.{held, path_of}
use Rattle.path.proofs.Told.{handed-outcome, told-ok}
use Rattle.path_speeds.specs.Recalc.{recalced_path, recalc_answer, recalc_of}
use Rattle.path_speeds.proofs.Recalced.{within, some-points, ready, recalced}
use Rattle.path_speeds.proofs.recalc_speeds.recalc_speeds.Goals as goal

pub returns-in_err-recalc_answer-clause-outcome : goal.returns-in_err-recalc_answer-clause-outcome
unfolding recalc_of
returns-in_err-recalc_answer-clause-outcome c =
    let a = c.args in
    let l = held a.cols.now in
    let t = table a.network.now in
    handed-outcome a.p l (recalced_path a.train t (path_of a.p l)) _ (c.recalc_answer.ensures ∙ ap (recalc_answer a.train t a.p) c.reading.ensures) c.in_err-recalc_answer.was c.from_residual.ensures.1

pub zero_rest-requires : goal.zero_rest-requires
zero_rest-requires c =
    let a = c.args in
    let l = held a.cols.now in
    let t = table a.network.now in
    within a.train t a.p l (told-ok (c.recalc_answer.ensures ∙ ap (recalc_answer a.train t a.p) c.reading.ensures) c.in_ok-recalc_answer.was)

pub overflow_sub-count : goal.overflow_sub-count
overflow_sub-count c =
    let a = c.args in
    let l = held a.cols.now in
    let t = table a.network.now in
    some-points a.train t a.p l (told-ok (c.recalc_answer.ensures ∙ ap (recalc_answer a.train t a.p) c.reading.ensures) c.in_ok-recalc_answer.was)

pub lay_anew-speed_count-requires : goal.lay_anew-speed_count-requires
lay_anew-speed_count-requires c =
    let a = c.args in
    let l = held a.cols.now in
    let t = table a.network.now in
    let asked = ready a.train t a.p l (told-ok (c.recalc_answer.ensures ∙ ap (recalc_answer a.train t a.p) c.reading.ensures) c.in_ok-recalc_answer.was) c.zero_rest.ensures.columns in
    record { count_bound = asked.0; count_value = asked.1.0; room = asked.1.1 }

pub returns-clause-outcome : goal.returns-clause-outcome
returns-clause-outcome c =
    let a = c.args in
    let l = held a.cols.now in
    let t = table a.network.now in
    recalced a.train t a.p l (told-ok (c.recalc_answer.ensures ∙ ap (recalc_answer a.train t a.p) c.reading.ensures) c.in_ok-recalc_answer.was) c.zero_rest.ensures.columns c.lay_anew-speed_count.auto.speeds c.lay_anew-speed_count.ensures
