-- `new`: question 1, question 9, and then zeros and the speed point.
use mathlib.Core.Path.{ap, ◌∙◌}
use lib.Ieee.{of_bits}
use Rattle.path.specs.Records.{held}
use Rattle.path.specs.Sound.{within_bounds}
use Rattle.path.proofs.Told.{handed-outcome, once, said-no, said-yes}
use Rattle.path_ends.specs.New.{new_path, no_path, new_of}
use Rattle.path_ends.proofs.Made.{asked-1, asked-9, made_by}
use Rattle.path_ends.proofs.new.new.Goals as goal

pub returns-in_err-ask-clause-outcome : goal.returns-in_err-ask-clause-outcome
unfolding new_of
returns-in_err-ask-clause-outcome c =
    let a = c.args in
    let l = held a.cols.now in
    handed-outcome no_path l (new_path a.train) _ (once _ _ c.ask.ensures ∙ asked-1 a.train l c.train_finite.ensures (said-no _ _ c.ask.ensures c.in_err-ask.was)) c.in_err-ask.was c.from_residual.ensures.1

pub returns-in_err-ask-2-clause-outcome : goal.returns-in_err-ask-2-clause-outcome
unfolding new_of
returns-in_err-ask-2-clause-outcome c =
    let a = c.args in
    let l = held a.cols.now in
    handed-outcome no_path l (new_path a.train) _ (once _ _ c.ask-2.ensures ∙ asked-9 a.train l c.train_finite.ensures (said-yes _ _ c.ask.ensures c.in_ok-ask.was) c.start_record-path.ensures (c.within_bounds.ensures ∙ ap (within_bounds c.start_record-path.result) c.reading.ensures)) c.in_err-ask-2.was c.from_residual-in_err-ask-2.ensures.1

pub returns-clause-outcome : goal.returns-clause-outcome
unfolding of_bits
returns-clause-outcome c =
    let a = c.args in
    made_by a.train (held a.cols.now) c.train_finite.ensures (said-yes _ _ c.ask.ensures c.in_ok-ask.was) c.start_record-path.ensures (c.within_bounds.ensures ∙ ap (within_bounds c.start_record-path.result) c.reading.ensures) (said-yes _ _ c.ask-2.ensures c.in_ok-ask-2.was)
    c.zero_from.ensures c.zero_from-2.ensures c.zero_from-3.ensures c.zero_from-4.ensures c.zero_from-5.ensures c.put_record.ensures c.zero_from-6.ensures c.zero_from-7.ensures
