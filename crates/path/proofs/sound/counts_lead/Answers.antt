-- `counts_lead`: before point i stand the sums, which are its first records, and the answer for the points before it.
use native.Mathlib.Omega.{arith}
use mathlib.Core.Path.{sym}
use Rattle.path.specs.Records.{grade_count_of, curve_count_of, power_count_of}
use Rattle.path.proofs.Counts.{counts-small, counted-small, counted-fits}
use Rattle.path.proofs.Lead.{led-none, led-more, grades-over, curves-over, led-all}
use Rattle.path.proofs.sound.counts_lead.Goals as goal

pub loop-i-init : goal.loop-i-init
loop-i-init c =
    let a = c.args in
    led-none a.p a.grades.now a.curves.now a.offsets.now a.numbers.now

pub returns-then-grade_count-g : goal.returns-then-grade_count-g
returns-then-grade_count-g c =
    let a = c.args in
    sym (grades-over a.p a.grades.now a.curves.now a.offsets.now a.numbers.now c.loop-i.invariant c.if-grade_count-g.true)

pub returns-then-curve_count-k : goal.returns-then-curve_count-k
returns-then-curve_count-k c =
    let a = c.args in
    sym (curves-over a.p a.grades.now a.curves.now a.offsets.now a.numbers.now c.loop-i.invariant c.if-curve_count-k.true)

pub link_point_within-q-requires : goal.link_point_within-q-requires
link_point_within-q-requires c = record { i_in_bounds = omega arith; i_in_bounds_2 = omega arith }

pub overflow_add-g : goal.overflow_add-g
overflow_add-g c =
    let a = c.args in
    let l = c.loop-i in
    let os = a.offsets.now in
    let ns = a.numbers.now in
    counted-fits grade_count_of os ns a.p.link_count (λ j. (counts-small os ns c.type_inv.numbers j).0) l.i l.g c.requires.link_count_bound (omega arith) c.link_point_within-q.ensures l.invariant.grades

pub overflow_add-k : goal.overflow_add-k
overflow_add-k c =
    let a = c.args in
    let l = c.loop-i in
    let os = a.offsets.now in
    let ns = a.numbers.now in
    counted-fits curve_count_of os ns a.p.link_count (λ j. (counts-small os ns c.type_inv.numbers j).1) l.i l.k c.requires.link_count_bound (omega arith) c.link_point_within-q.ensures l.invariant.curves

pub overflow_add-w : goal.overflow_add-w
overflow_add-w c =
    let a = c.args in
    let l = c.loop-i in
    let os = a.offsets.now in
    let ns = a.numbers.now in
    counted-fits power_count_of os ns a.p.link_count (λ j. (counts-small os ns c.type_inv.numbers j).2) l.i l.w c.requires.link_count_bound (omega arith) c.link_point_within-q.ensures l.invariant.powers

pub loop-i-preserved : goal.loop-i-preserved
loop-i-preserved c =
    let a = c.args in
    led-more
    a.p
    a.grades.now
    a.curves.now
    a.offsets.now
    a.numbers.now
    c.loop-i.invariant
    c.loop-i-test.true
    c.link_point_within-q.ensures
    c.offset_at-slope.ensures
    c.offset_at-bend.ensures

pub counts_add_up-requires : goal.counts_add_up-requires
counts_add_up-requires c =
    let a = c.args in
    let l = c.loop-i in
    let os = a.offsets.now in
    let ns = a.numbers.now in
    let n = a.p.link_count in record { grades_bound = counted-small grade_count_of os ns n (λ j. (counts-small os ns c.type_inv.numbers j).0) l.i l.g c.requires.link_count_bound l.invariant.grades; curves_bound = counted-small curve_count_of os ns n (λ j. (counts-small os ns c.type_inv.numbers j).1) l.i l.k c.requires.link_count_bound l.invariant.curves }

pub returns : goal.returns
returns c =
    let a = c.args in
    led-all a.p a.grades.now a.curves.now a.offsets.now a.numbers.now c.loop-i.invariant (omega arith) c.counts_add_up.ensures
