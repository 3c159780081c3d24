-- `clear_each`: a trim refused, and the path cut where the trims end.
use Rattle.path.specs.Records.{held}
use Rattle.path_clear.proofs.Called.{known, gone-below, called-refused, called-done}
use Rattle.path_clear.proofs.clear_each.clear_each.Goals as goal

pub returns-in_err-gone-clause-outcome : goal.returns-in_err-gone-clause-outcome
returns-in_err-gone-clause-outcome c =
    let a = c.args in
    called-refused a.xs.now a.p (held a.cols.now) _ _ c.reading.ensures c.in_err-gone.ensures c.from_residual.ensures.1

pub cleared-requires-clause-known : goal.cleared-requires-clause-known
cleared-requires-clause-known c =
    let a = c.args in
    known a.xs.now a.p (held a.cols.now) c.reading.ensures c.in_ok-gone.ensures

pub cleared-requires-clause-d_bound : goal.cleared-requires-clause-d_bound
cleared-requires-clause-d_bound c =
    let a = c.args in
    gone-below a.xs.now a.p (held a.cols.now) c.reading.ensures c.in_ok-gone.ensures

pub returns-clause-outcome : goal.returns-clause-outcome
returns-clause-outcome c =
    let a = c.args in
    called-done a.xs.now a.p (held a.cols.now) c.reading.ensures c.in_ok-gone.ensures c.cleared.ensures.outcome c.cleared.ensures.counts
