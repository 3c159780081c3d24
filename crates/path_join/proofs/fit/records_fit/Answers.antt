-- `records_fit`: no list of more than 1025 links fits; of a shorter one the five kinds are asked in turn.
use native.Mathlib.Omega.{arith}
use mathlib.Core.Path.{sym}
use Rattle.link.specs.Table.{table}
use Rattle.path.specs.Records.{lent}
use Rattle.path.proofs.Clauses.{bounds}
use Rattle.path_join.proofs.Fitting.{too_long, all_fit}
use Rattle.path_join.proofs.fit.records_fit.Goals as goal

pub returns-then-list-gt1025 : goal.returns-then-list-gt1025
returns-then-list-gt1025 c =
    let a = c.args in
    sym (too_long a.train (table a.network.now) a.list.now a.p (lent a.cols.now) c.if-list-gt1025.true)

pub sum_limits-laid-requires : goal.sum_limits-laid-requires
sum_limits-laid-requires c = record { list_len_bound = c.if-list-gt1025.false; list_value = c.requires.list_value }

pub overflow_add-grown : goal.overflow_add-grown
overflow_add-grown c = record { fits = omega (arith, (bounds c.args.p (lent c.args.cols.now) c.requires.within_bounds).0, c.if-list-gt1025.false) }

pub overflow_add-grown-2 : goal.overflow_add-grown-2
overflow_add-grown-2 c = record { fits = omega (arith, (bounds c.args.p (lent c.args.cols.now) c.requires.within_bounds).1, c.if-list-gt1025.false, c.sum_counts-sum.ensures.grades_bound) }

pub overflow_add-grown-3 : goal.overflow_add-grown-3
overflow_add-grown-3 c = record { fits = omega (arith, (bounds c.args.p (lent c.args.cols.now) c.requires.within_bounds).2, c.if-list-gt1025.false, c.sum_counts-sum.ensures.curves_bound) }

pub overflow_add-grown-4 : goal.overflow_add-grown-4
overflow_add-grown-4 c = record { fits = omega (arith, (bounds c.args.p (lent c.args.cols.now) c.requires.within_bounds).3, c.if-list-gt1025.false, c.sum_limits-laid.ensures.upper_bound) }

pub overflow_add-grown-5 : goal.overflow_add-grown-5
overflow_add-grown-5 c = record { fits = omega (arith, (bounds c.args.p (lent c.args.cols.now) c.requires.within_bounds).4, c.if-list-gt1025.false, c.sum_counts-sum.ensures.powers_bound) }

pub overflow_mul-grown : goal.overflow_mul-grown
overflow_mul-grown c = record { fits = omega (arith, c.if-list-gt1025.false, c.sum_limits-laid.ensures.upper_bound) }

pub returns : goal.returns
returns c =
    let a = c.args in
    all_fit a.train (table a.network.now) a.list.now a.p (lent a.cols.now) _ c.sum_counts-sum.ensures.sums c.sum_limits-laid.ensures.sum c.within_bounds.ensures
