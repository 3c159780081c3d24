-- `sound_path`: the counts lie within the columns, and then the clauses, the last of them first.
use mathlib.Core.Path.{ap}
use native.Mathlib.Omega.{arith}
use lib.ListN.{length}
use Rattle.lookup.proofs.Coeffs.{length-coeffs}
use Rattle.path.specs.Records.{lent}
use Rattle.path.proofs.Clauses.{some-link, some-records, bounds, room, joined}
use Rattle.path.proofs.sound.sound_path.Goals as goal

pub closes-requires : goal.closes-requires
closes-requires c = tt

pub closes-requires-2 : goal.closes-requires-2
closes-requires-2 c = tt

pub end_counts_zero-requires : goal.end_counts_zero-requires
end_counts_zero-requires c =
    let a = c.args in
    let l = lent a.cols.now in
    some-link a.p l c.requires.p_value

pub offsets_rise-requires : goal.offsets_rise-requires
offsets_rise-requires c =
    let a = c.args in
    let l = lent a.cols.now in record { n_nonzero = some-link a.p l c.requires.p_value; n_in_bounds = (room a.p l c.requires.in_columns).offsets }

pub numbers_real-requires : goal.numbers_real-requires
numbers_real-requires c =
    let a = c.args in
    let l = lent a.cols.now in
    let within = room a.p l c.requires.in_columns in record { n_nonzero = some-link a.p l c.requires.p_value; n_in_bounds = within.offsets; n_in_bounds_2 = within.numbers }

pub link_point_at-requires : goal.link_point_at-requires
link_point_at-requires c = tt

pub sorted_from-sorted-requires : goal.sorted_from-sorted-requires
sorted_from-sorted-requires c =
    let a = c.args in
    let l = lent a.cols.now in record { n_nonzero = (some-records a.p l c.requires.p_value).2; n_in_bounds = (room a.p l c.requires.in_columns).speeds }

pub new-grades-requires : goal.new-grades-requires
new-grades-requires c =
    let a = c.args in
    let l = lent a.cols.now in record { some = (some-records a.p l c.requires.p_value).0; in_column = (room a.p l c.requires.in_columns).grades }

pub new-curves-requires : goal.new-curves-requires
new-curves-requires c =
    let a = c.args in
    let l = lent a.cols.now in record { some = (some-records a.p l c.requires.p_value).1; in_column = (room a.p l c.requires.in_columns).curves }

pub counts_lead-lead-requires : goal.counts_lead-lead-requires
counts_lead-lead-requires c =
    let a = c.args in
    let l = lent a.cols.now in
    let within = room a.p l c.requires.in_columns in
    record {
      link_count_bound = (bounds a.p l c.requires.in_columns).0;
      link_count_in_bounds = within.offsets;
      link_count_in_bounds_2 = within.numbers;
      grade_count_in_list = omega (arith, ap length c.new-grades.ensures, length-coeffs a.p.grade_count a.cols.now.grades.now);
      curve_count_in_list = omega (arith, ap length c.new-curves.ensures, length-coeffs a.p.curve_count a.cols.now.curves.now);
    }

pub returns : goal.returns
returns c =
    let a = c.args in
    let l = lent a.cols.now in
    let led = rw (c.new-grades.ensures, c.new-curves.ensures) at c.counts_lead-lead.ensures in
    joined
    a.p
    l
    (some-link a.p l c.requires.p_value)
    c.closes.ensures
    c.closes-2.ensures
    c.end_counts_zero.ensures
    c.offsets_rise.ensures
    c.numbers_real.ensures
    c.link_point_at.ensures
    c.sorted_from-sorted.ensures
    led
