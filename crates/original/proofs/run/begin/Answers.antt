-- `begin`: one point in a column of zeros, where it has room.
use native.Mathlib.Omega.{arith}
use Rattle.original.proofs.Followed.{no_room, begun}
use Rattle.original.proofs.run.begin.Goals as goal

pub returns-then-col-lt2 : goal.returns-then-col-lt2
returns-then-col-lt2 c =
    let a = c.args in
    no_room a.x.0 a.top.0 a.col.now c.zero_from.ensures (omega (arith, c.zero_from.auto.col))

pub returns : goal.returns
returns c =
    let a = c.args in
    begun a.x.0 a.top.0 a.col.now c.zero_from.ensures (omega (arith, c.zero_from.auto.col)) c.put_record.ensures
