-- `link_point_within`: the offset and the four numbers as they are read.
use Prim.Native.Nat.{◌+◌, ◌*◌}
use native.Mathlib.Omega.{arith}
use Rattle.path.proofs.LinkPoints.{point-entries}
use Rattle.path.proofs.link_point.link_point_within.Goals as goal

pub overflow_cast-result : goal.overflow_cast-result
overflow_cast-result c = omega (arith, c.type_inv.numbers (4 * c.args.i))

pub overflow_cast-result-2 : goal.overflow_cast-result-2
overflow_cast-result-2 c = omega (arith, c.type_inv.numbers (4 * c.args.i + 1))

pub overflow_cast-result-3 : goal.overflow_cast-result-3
overflow_cast-result-3 c = omega (arith, c.type_inv.numbers (4 * c.args.i + 2))

pub returns : goal.returns
returns c =
    let a = c.args in
    point-entries a.offsets.now a.numbers.now a.i c.requires.i_in_bounds
