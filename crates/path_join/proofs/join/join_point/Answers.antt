-- `join_point`: the link by its numbers, one point more in the two columns.
use Rattle.path_stretches.proofs.Ended.{count-below}
use Prim.Native.Nat.{◌^◌}
use native.Mathlib.Omega.{arith}
use mathlib.Core.Path.{◌∙◌}
use Rattle.path_join.proofs.OnPoints.{point-joined}
use Rattle.path_join.proofs.join.join_point.Goals as goal

pub overflow_cast-grades : goal.overflow_cast-grades
overflow_cast-grades c = record { fits = omega (arith, c.stretch_count-grades.ensures, count-below c.link_numbers-l.result.elevs_count (2 ^ 32) (omega arith) (omega arith)) }

pub overflow_cast-curves : goal.overflow_cast-curves
overflow_cast-curves c = record { fits = omega (arith, c.stretch_count-curves.ensures, count-below c.link_numbers-l.result.headings_count (2 ^ 32) (omega arith) (omega arith)) }

pub returns : goal.returns
returns c =
    let a = c.args in
    point-joined a.network.now.links.now a.network.now.lengths.now a.offsets.now a.numbers.now a.n a.i c.requires.n_nonzero c.requires.n_in_bounds c.requires.n_in_bounds_2 c.requires.holds_points c.link_numbers-l.ensures c.get-base.ensures c.get.ensures c.stretch_count-grades.ensures c.stretch_count-curves.ensures c.put_record.ensures c.set.ensures c.put_record-2.ensures c.set.auto.col (c.put_record-2.auto.col ∙ c.put_record.auto.col)
