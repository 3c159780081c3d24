-- `extend`: refused, and then zeros past the counts and the listed links.
use mathlib.Core.Path.{refl, ap, ◌∙◌}
use Rattle.link.specs.Table.{table}
use Rattle.path.specs.Records.{held, path_of}
use Rattle.path.proofs.Told.{handed-outcome, told-ok}
use Rattle.path_join.specs.Joined.{started, join_all}
use Rattle.path_extend.specs.Extend.{extend_answer, extend_of}
use Rattle.path_extend.proofs.Extended.{within, ready-sound, ready, extended}
use Rattle.path_extend.proofs.extend.extend.Goals as goal

pub returns-in_err-extend_answer-clause-outcome : goal.returns-in_err-extend_answer-clause-outcome
unfolding extend_of
returns-in_err-extend_answer-clause-outcome c =
    let a = c.args in
    let l = held a.cols.now in
    let t = table a.network.now in
    let ns = a.list.now in
    handed-outcome a.p l (join_all a.train t (started t (path_of a.p l) ns) ns) _ (c.extend_answer.ensures ∙ ap (extend_answer a.train t ns a.p) c.reading.ensures) c.in_err-extend_answer.was c.from_residual.ensures.1

pub zero_rest-requires : goal.zero_rest-requires
zero_rest-requires c =
    let a = c.args in
    let t = table a.network.now in
    let ns = a.list.now in
    within a.train t ns a.p (held a.cols.now) (told-ok (c.extend_answer.ensures ∙ ap (extend_answer a.train t ns a.p) c.reading.ensures) c.in_ok-extend_answer.was) refl

pub joined-requires : goal.joined-requires
joined-requires c =
    let a = c.args in
    let l = held a.cols.now in
    let t = table a.network.now in
    let ns = a.list.now in
    let asked = told-ok (c.extend_answer.ensures ∙ ap (extend_answer a.train t ns a.p) c.reading.ensures) c.in_ok-extend_answer.was in
    record { sound = ready-sound a.train t ns a.p l asked refl c.zero_rest.ensures.columns; ready = ready a.train t ns a.p l asked refl c.zero_rest.ensures.columns }

pub returns-clause-outcome : goal.returns-clause-outcome
returns-clause-outcome c =
    let a = c.args in
    let t = table a.network.now in
    let ns = a.list.now in
    extended a.train t ns a.p (held a.cols.now) (told-ok (c.extend_answer.ensures ∙ ap (extend_answer a.train t ns a.p) c.reading.ensures) c.in_ok-extend_answer.was) refl c.zero_rest.ensures.columns c.joined.ensures.outcome
