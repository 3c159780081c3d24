-- `lay`: zeros past the points, and then the limit.
use Prim.Native.Nat.{◌*◌, ◌≤◌}
use native.Mathlib.Omega.{arith}
use lib.ListN.{length}
use Rattle.speed.proofs.PointColumn.{next-zeroed}
use Rattle.rows.proofs.lay.Goals as goal

pub insert_speed-requires : goal.insert_speed-requires
insert_speed-requires c =
    let n = c.args.n in
    let l = c.args.col.now in
    let d = c.zero_from.new.col in
    let room : 2 * n ≤ length l = omega arith in
    let next = next-zeroed l d n room c.zero_from.ensures in record { n_nonzero = omega arith; n_in_bounds = omega (arith, c.zero_from.auto.col); holds = next.1 }
