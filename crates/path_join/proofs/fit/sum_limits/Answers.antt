-- `sum_limits`: the counts from link k on and the sum before are the sum of all.
use Rattle.link.proofs.Known.{every_in}
use native.Mathlib.Omega.{arith}
use Rattle.link.specs.Table.{table}
use Rattle.path_speeds.specs.Limits.{sets_of, few_at, count_at}
use Rattle.path_join.proofs.Summed.{sum-next, sum_done}
use Rattle.path_join.proofs.fit.sum_limits.Goals as goal

pub loop-i-init : goal.loop-i-init
loop-i-init c = (omega arith, omega arith, omega arith)

pub link_limit_count-n-requires : goal.link_limit_count-n-requires
link_limit_count-n-requires c =
    let a = c.args in
    record { i_bound = omega (arith, c.type_inv.list c.loop-i.i-index); i_value = every_in (few_at a.train (sets_of (table a.network.now))) a.list.now c.loop-i.i-index 0 c.loop-i-test.true c.requires.list_value }

pub overflow_add-n : goal.overflow_add-n
overflow_add-n c = record { fits = omega (arith, c.loop-i.invariant.1, c.link_limit_count-n.ensures.upper_bound, c.loop-i-test.true, c.requires.list_len_bound) }

pub loop-i-preserved : goal.loop-i-preserved
loop-i-preserved c =
    let a = c.args in
    let o = c.loop-i in (
      sum-next (count_at a.train (sets_of (table a.network.now))) a.list.now o.i-index o.n c.loop-i-test.true o.invariant.0 c.link_limit_count-n.ensures.count,
      omega (arith, o.invariant.1, c.link_limit_count-n.ensures.upper_bound),
      omega (arith, c.loop-i-test.true),
    )

pub returns-clause-sum : goal.returns-clause-sum
returns-clause-sum c =
    let a = c.args in
    sum_done (count_at a.train (sets_of (table a.network.now))) a.list.now c.loop-i.i-index c.loop-i.n c.loop-i-test.false c.loop-i.invariant.0

pub returns-clause-upper_bound : goal.returns-clause-upper_bound
returns-clause-upper_bound c = omega (arith, c.loop-i.invariant.1, c.loop-i.invariant.2)
