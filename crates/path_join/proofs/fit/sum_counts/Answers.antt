-- `sum_counts`: the counts from link k on and the sums before are the sums of all.
use native.Mathlib.Omega.{arith}
use mathlib.Core.Path.{ap, ◌∙◌}
use Rattle.link.specs.declared.network.LinkNumbers.{LinkNumbers}
use Rattle.path_stretches.specs.Stretches.{record_count}
use Rattle.path_join.specs.Listed.{grades_in, curves_in, powers_in}
use Rattle.path_join.proofs.Summed.{sum_fits, sum-next, sum_done, sum-small, counted, grades-small, curves-small, powers-small}
use Rattle.path_join.proofs.fit.sum_counts.Goals as goal

pub loop-i-init : goal.loop-i-init
loop-i-init c = (omega arith, omega arith, omega arith)

pub overflow_add-grades : goal.overflow_add-grades
overflow_add-grades c =
    let a = c.args in
    let at = c.loop-i in
    record { fits = sum_fits (grades_in a.links.now) a.list.now at.i-index at.grades c.loop-i-test.true at.invariant.0 (c.stretch_count-grades.ensures ∙ ap (λ (l : LinkNumbers). record_count l.elevs_count) c.link_numbers-l.ensures) (grades-small a.links.now c.type_inv.links) c.requires }

pub overflow_add-curves : goal.overflow_add-curves
overflow_add-curves c =
    let a = c.args in
    let at = c.loop-i in
    record { fits = sum_fits (curves_in a.links.now) a.list.now at.i-index at.curves c.loop-i-test.true at.invariant.1 (c.stretch_count-curves.ensures ∙ ap (λ (l : LinkNumbers). record_count l.headings_count) c.link_numbers-l.ensures) (curves-small a.links.now c.type_inv.links) c.requires }

pub overflow_add-powers : goal.overflow_add-powers
overflow_add-powers c =
    let a = c.args in
    let at = c.loop-i in
    record { fits = sum_fits (powers_in a.links.now) a.list.now at.i-index at.powers c.loop-i-test.true at.invariant.2 (ap (λ (l : LinkNumbers). l.powers_count) c.link_numbers-l.ensures) (powers-small a.links.now c.type_inv.links) c.requires }

pub loop-i-preserved : goal.loop-i-preserved
loop-i-preserved c =
    let a = c.args in
    let at = c.loop-i in (
      sum-next (grades_in a.links.now) a.list.now at.i-index at.grades c.loop-i-test.true at.invariant.0 (c.stretch_count-grades.ensures ∙ ap (λ (l : LinkNumbers). record_count l.elevs_count) c.link_numbers-l.ensures),
      sum-next (curves_in a.links.now) a.list.now at.i-index at.curves c.loop-i-test.true at.invariant.1 (c.stretch_count-curves.ensures ∙ ap (λ (l : LinkNumbers). record_count l.headings_count) c.link_numbers-l.ensures),
      sum-next (powers_in a.links.now) a.list.now at.i-index at.powers c.loop-i-test.true at.invariant.2 (ap (λ (l : LinkNumbers). l.powers_count) c.link_numbers-l.ensures),
    )

pub returns-clause-sums : goal.returns-clause-sums
returns-clause-sums c =
    let a = c.args in
    let at = c.loop-i in
    counted a.links.now a.list.now
    (sum_done (grades_in a.links.now) a.list.now at.i-index at.grades c.loop-i-test.false at.invariant.0)
    (sum_done (curves_in a.links.now) a.list.now at.i-index at.curves c.loop-i-test.false at.invariant.1)
    (sum_done (powers_in a.links.now) a.list.now at.i-index at.powers c.loop-i-test.false at.invariant.2)

pub returns-clause-grades_bound : goal.returns-clause-grades_bound
returns-clause-grades_bound c =
    let a = c.args in
    let at = c.loop-i in
    omega (arith, sum_done (grades_in a.links.now) a.list.now at.i-index at.grades c.loop-i-test.false at.invariant.0, sum-small (grades_in a.links.now) (grades-small a.links.now c.type_inv.links) a.list.now)

pub returns-clause-curves_bound : goal.returns-clause-curves_bound
returns-clause-curves_bound c =
    let a = c.args in
    let at = c.loop-i in
    omega (arith, sum_done (curves_in a.links.now) a.list.now at.i-index at.curves c.loop-i-test.false at.invariant.1, sum-small (curves_in a.links.now) (curves-small a.links.now c.type_inv.links) a.list.now)

pub returns-clause-powers_bound : goal.returns-clause-powers_bound
returns-clause-powers_bound c =
    let a = c.args in
    let at = c.loop-i in
    omega (arith, sum_done (powers_in a.links.now) a.list.now at.i-index at.powers c.loop-i-test.false at.invariant.2, sum-small (powers_in a.links.now) (powers-small a.links.now c.type_inv.links) a.list.now)
