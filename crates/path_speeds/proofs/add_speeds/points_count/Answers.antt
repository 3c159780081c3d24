-- `points_count`: the counts from point k on and the sum before are the sum of all.
use native.Mathlib.Nat.{sub-zero}
use native.Mathlib.Omega.{arith}
use mathlib.Core.Path.{ap, ◌∙◌}
use Rattle.link.specs.Lists.{every, up_from}
use Rattle.path.specs.Records.{point_at}
use Rattle.path.specs.Sound.{total}
use Rattle.link.specs.Table.{table}
use Rattle.path_speeds.specs.Limits.{sets_of, point_few, point_count}
use Rattle.link.proofs.Known.{every-next}
use Rattle.path.proofs.Counts.{range-total, range-total-end}
use Rattle.path_speeds.proofs.add_speeds.points_count.Goals as goal

pub loop-k-init : goal.loop-k-init
loop-k-init c =
    let a = c.args in
    let q = sets_of (table a.network.now) in
    let at = point_at a.offsets.now a.numbers.now in
    let all = ap (up_from at 0) (sub-zero a.count) in
    (ap (every (point_few a.train q)) all ∙ c.requires.count_value, omega arith, omega (arith, ap (total (point_count a.train q)) all))

pub link_limit_count-n-requires : goal.link_limit_count-n-requires
link_limit_count-n-requires c =
    let a = c.args in
    let q = sets_of (table a.network.now) in
    let at = point_at a.offsets.now a.numbers.now in record { i_bound = omega arith; i_value = ap (point_few a.train q) c.link_point_at-p.ensures ∙ (every-next at (point_few a.train q) c.loop-k.k a.count c.loop-k-test.true c.loop-k.invariant.0).0 }

pub overflow_add-n : goal.overflow_add-n
overflow_add-n c =
    let a = c.args in
    let q = sets_of (table a.network.now) in
    omega (arith, c.requires.count_bound, c.loop-k.invariant.1, c.link_limit_count-n.ensures.upper_bound)

pub loop-k-preserved : goal.loop-k-preserved
loop-k-preserved c =
    let a = c.args in
    let q = sets_of (table a.network.now) in
    let at = point_at a.offsets.now a.numbers.now in
    let k = c.loop-k.k in
    let count = point_count a.train q in (
      (every-next at (point_few a.train q) c.loop-k.k a.count c.loop-k-test.true c.loop-k.invariant.0).1,
      omega (arith, c.loop-k.invariant.1, c.link_limit_count-n.ensures.upper_bound),
      omega (arith, c.loop-k.invariant.2, c.link_limit_count-n.ensures.count, ap count c.link_point_at-p.ensures, range-total count at k a.count c.loop-k-test.true),
    )

pub returns-clause-count : goal.returns-clause-count
returns-clause-count c =
    let a = c.args in
    let q = sets_of (table a.network.now) in
    let at = point_at a.offsets.now a.numbers.now in
    omega (arith, c.loop-k.invariant.2, range-total-end (point_count a.train q) at c.loop-k.k a.count c.loop-k-test.false)

pub returns-clause-upper_bound : goal.returns-clause-upper_bound
returns-clause-upper_bound c = omega (arith, c.loop-k.invariant.1)
