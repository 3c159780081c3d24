-- `reindex`: refused, and then zeros past the counts and the new numbers.
use mathlib.Core.Path.{ap, ◌∙◌}
use Rattle.path.specs.Records.{held, path_of}
use Rattle.path.proofs.Told.{handed-outcome, told-ok}
use Rattle.path_reindex.specs.Reindex.{reindexed_path, reindex_answer, reindex_of}
use Rattle.path_reindex.proofs.Renumbered.{within, ready, reindexed}
use Rattle.path_reindex.proofs.reindex.reindex.Goals as goal

pub returns-in_err-reindex_answer-clause-outcome : goal.returns-in_err-reindex_answer-clause-outcome
unfolding reindex_of
returns-in_err-reindex_answer-clause-outcome c =
    let a = c.args in
    let l = held a.cols.now in
    handed-outcome a.p l (reindexed_path a.new.now (path_of a.p l)) _ (c.reindex_answer.ensures ∙ ap (reindex_answer a.new.now a.p) c.reading.ensures) c.in_err-reindex_answer.was c.from_residual.ensures.1

pub zero_rest-requires : goal.zero_rest-requires
zero_rest-requires c =
    let a = c.args in
    within a.new.now a.p (held a.cols.now) (told-ok c.reindex_answer.ensures c.in_ok-reindex_answer.was ∙ ap (reindex_answer a.new.now a.p) c.reading.ensures)

pub renumber-requires : goal.renumber-requires
renumber-requires c =
    let a = c.args in
    let known = ready a.new.now a.p (held a.cols.now) (told-ok c.reindex_answer.ensures c.in_ok-reindex_answer.was ∙ ap (reindex_answer a.new.now a.p) c.reading.ensures) c.zero_rest.ensures.columns in
    record { n_nonzero = known.0; numbers_value = known.1 }

pub returns-clause-outcome : goal.returns-clause-outcome
returns-clause-outcome c =
    let a = c.args in
    reindexed a.new.now a.p (held a.cols.now) (told-ok c.reindex_answer.ensures c.in_ok-reindex_answer.was ∙ ap (reindex_answer a.new.now a.p) c.reading.ensures) c.zero_rest.ensures.columns c.renumber.ensures
