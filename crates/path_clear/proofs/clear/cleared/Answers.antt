-- `cleared`: without a link to go only the entries past the counts change.
use mathlib.Core.Path.{◌∙◌}
use Rattle.path.specs.Records.{held}
use Rattle.path.proofs.Clauses.{sound-within}
use Rattle.path_clear.proofs.Trimmed.{none-go, some_go, few, counts-gone}
use Rattle.path_clear.proofs.clear.cleared.Goals as goal

pub add_counts-dropped-requires : goal.add_counts-dropped-requires
add_counts-dropped-requires c =
    let a = c.args in
    few a.p (held a.cols.now) a.d c.requires.known c.requires.d_bound

pub zero_rest-requires : goal.zero_rest-requires
zero_rest-requires c =
    let a = c.args in
    (sound-within a.p (held a.cols.now) c.requires.known).1

pub returns-then-d-eq0-clause-outcome : goal.returns-then-d-eq0-clause-outcome
returns-then-d-eq0-clause-outcome c =
    let a = c.args in
    none-go a.p (held a.cols.now) a.d c.if-d-eq0.true c.zero_rest.ensures.columns

pub returns-then-d-eq0-clause-counts : goal.returns-then-d-eq0-clause-counts
returns-then-d-eq0-clause-counts c =
    let a = c.args in
    counts-gone a.p (held a.cols.now) a.d c.requires.d_bound c.reading-now.ensures c.add_counts-dropped.ensures

pub cut-path-requires-clause-counts : goal.cut-path-requires-clause-counts
cut-path-requires-clause-counts c =
    let a = c.args in
    counts-gone a.p (held a.cols.now) a.d c.requires.d_bound c.reading-now.ensures c.add_counts-dropped.ensures

pub returns-clause-outcome : goal.returns-clause-outcome
returns-clause-outcome c =
    let a = c.args in
    c.cut-path.ensures.outcome ∙ some_go a.p (held a.cols.now) a.d c.if-d-eq0.false

pub returns-clause-counts : goal.returns-clause-counts
returns-clause-counts c =
    let a = c.args in
    counts-gone a.p (held a.cols.now) a.d c.requires.d_bound c.reading-now.ensures c.add_counts-dropped.ensures
