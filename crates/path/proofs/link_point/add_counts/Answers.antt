-- `add_counts`: each sum with the counts from point i on is the sum of all.
use native.Mathlib.Omega.{arith}
use Rattle.ieee.proofs.Same.{zero-literal}
use Rattle.path.specs.Records.{grade_count_of, curve_count_of, power_count_of}
use Rattle.path.specs.Sound.{totals}
use Rattle.path.proofs.Counts.{counts-small, counted_none, counted-more, counted-all, counted-fits}
use Rattle.path.proofs.link_point.add_counts.Goals as goal

pub loop-i-init : goal.loop-i-init
loop-i-init c =
    let a = c.args in
    let os = a.offsets.now in
    let ns = a.numbers.now in
    (counted_none grade_count_of os ns a.n, counted_none curve_count_of os ns a.n, counted_none power_count_of os ns a.n)

pub link_point_at-p-requires : goal.link_point_at-p-requires
link_point_at-p-requires c = tt

pub overflow_add-grades : goal.overflow_add-grades
overflow_add-grades c =
    let a = c.args in
    let l = c.loop-i in
    let os = a.offsets.now in
    let ns = a.numbers.now in
    counted-fits grade_count_of os ns a.n (λ j. (counts-small os ns c.type_inv.numbers j).0) l.i l.grades c.requires (omega arith) c.link_point_at-p.ensures l.invariant.0

pub overflow_add-curves : goal.overflow_add-curves
overflow_add-curves c =
    let a = c.args in
    let l = c.loop-i in
    let os = a.offsets.now in
    let ns = a.numbers.now in
    counted-fits curve_count_of os ns a.n (λ j. (counts-small os ns c.type_inv.numbers j).1) l.i l.curves c.requires (omega arith) c.link_point_at-p.ensures l.invariant.1

pub overflow_add-powers : goal.overflow_add-powers
overflow_add-powers c =
    let a = c.args in
    let l = c.loop-i in
    let os = a.offsets.now in
    let ns = a.numbers.now in
    counted-fits power_count_of os ns a.n (λ j. (counts-small os ns c.type_inv.numbers j).2) l.i l.powers c.requires (omega arith) c.link_point_at-p.ensures l.invariant.2

pub loop-i-preserved : goal.loop-i-preserved
loop-i-preserved c =
    let a = c.args in
    let l = c.loop-i in
    let os = a.offsets.now in
    let ns = a.numbers.now in
    let e = c.link_point_at-p.ensures in (
      counted-more grade_count_of os ns a.n l.i l.grades (omega arith) e l.invariant.0,
      counted-more curve_count_of os ns a.n l.i l.curves (omega arith) e l.invariant.1,
      counted-more power_count_of os ns a.n l.i l.powers (omega arith) e l.invariant.2,
    )

pub returns : goal.returns
unfolding totals
returns c =
    let a = c.args in
    let l = c.loop-i in
    let os = a.offsets.now in
    let ns = a.numbers.now in
    let grades = counted-all grade_count_of os ns a.n l.i l.grades (omega arith) l.invariant.0 in
    let curves = counted-all curve_count_of os ns a.n l.i l.curves (omega arith) l.invariant.1 in
    let powers = counted-all power_count_of os ns a.n l.i l.powers (omega arith) l.invariant.2 in
    cc zero-literal
