-- `record_range`: from the records that the points before it count, as many as it counts.
use mathlib.Core.Path.{refl}
use native.Mathlib.Omega.{arith}
use Rattle.path.specs.Sound.{is_curves}
use Rattle.path_link_records.proofs.LinkParts.{located, range-is}
use Rattle.path_link_records.proofs.link_records.record_range.Goals as goal

pub overflow_mul-from : goal.overflow_mul-from
overflow_mul-from c =
    let a = c.args in
    let sum = located (is_curves a.lines) a.offsets.now a.numbers.now a.k c.add_counts-before.ensures c.link_point_at-own.ensures c.count_of-from.ensures refl in
    omega (arith, sum, c.requires.numbers_bound)

pub overflow_mul-len : goal.overflow_mul-len
overflow_mul-len c =
    let a = c.args in
    let sum = located (is_curves a.lines) a.offsets.now a.numbers.now a.k c.add_counts-before.ensures c.link_point_at-own.ensures c.count_of-from.ensures c.count_of-len.ensures in
    omega (arith, sum, c.requires.numbers_bound)

pub returns : goal.returns
returns c =
    let a = c.args in
    range-is (is_curves a.lines) a.offsets.now a.numbers.now a.k c.add_counts-before.ensures c.link_point_at-own.ensures c.count_of-from.ensures c.count_of-len.ensures
