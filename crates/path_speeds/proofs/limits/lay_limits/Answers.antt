-- `lay_limits`: what is left to lay from limit i on gives what was to be laid at first.
use Rattle.std.specs.Prelude.{Some}
use Prim.Native.Nat.{◌+◌}
use native.Mathlib.Omega.{arith}
use mathlib.Core.Path.{ap}
use lib.ListN.{length}
use Rattle.speed.specs.Becomes.{points_of}
use Rattle.speed.proofs.PointColumn.{becomes-as}
use Rattle.link.specs.Table.{limit_of}
use Rattle.path_speeds.specs.Limits.{lay_all, laying}
use Rattle.path_speeds.proofs.Lowered.{limits_end, to_lay, lay-next, lay-skip, lay-end, lay-whole, length_whole}
use Rattle.path_speeds.proofs.LayingLoop.{going-first, limits-next, limits-skip, limits-done}
use Rattle.path_speeds.proofs.limits.lay_limits.Goals as goal
use Rattle.path_speeds.proofs.limits.lay_limits.Goals.{then-l-top, else-l-top}

pub loop-i-init : goal.loop-i-init
loop-i-init c =
    let a = c.args in
    let limits = a.limits.now in
    let top = a.top.0 in
    let base = a.base.0 in
    let tail = c.tail_of-tail.result.0 in
    let ls = to_lay top base tail limits (limits_end a.s) a.s.limits_first in
    going-first a.speeds.now (length ls) (λ ps. lay_all ps ls) c.requires.some (omega (arith, c.requires.room, length_whole top base tail a.length.0 limits a.s c.tail_of-tail.ensures))

pub insert_speed-requires : goal.insert_speed-requires
insert_speed-requires c =
    let a = c.args in
    let limits = a.limits.now in
    let top = a.top.0 in
    let base = a.base.0 in
    let tail = c.tail_of-tail.result.0 in
    let i = c.loop-i.i in
    let g = c.loop-i.invariant in
    record { some = g.some; room = omega (arith, g.room, ap length (lay-next top base tail limits (limits_end a.s) i c.loop-i-test.true (limit_of c.speed_limit_at-l.result) c.speed_limit_at-l.ensures (limit_of c.placed.result) c.placed.ensures c.if-l-top.true)) }

pub loop-i-preserved : goal.loop-i-preserved
loop-i-preserved c =
    let a = c.args in
    let limits = a.limits.now in
    let top = a.top.0 in
    let base = a.base.0 in
    let tail = c.tail_of-tail.result.0 in
    let end = limits_end a.s in
    let o = c.loop-i in
    let goal = lay_all (points_of a.speeds.now) (to_lay top base tail limits end a.s.limits_first) in
    let left = to_lay top base tail limits end in
    let l = limit_of c.speed_limit_at-l.result in
    elim c.if-l-top.branch [
      | then-l-top w ↦
          rw w.speeds-is (limits-next a.speeds.now goal (left o.i) o.speeds o.invariant (limit_of w.placed.result) (left (o.i + 1)) w.insert_speed.new.self (lay-next top base tail limits end o.i c.loop-i-test.true l c.speed_limit_at-l.ensures (limit_of w.placed.result) w.placed.ensures w.if-l-top.true) w.insert_speed.ensures)
      | else-l-top w ↦ rw w.speeds-is (limits-skip a.speeds.now goal (left o.i) o.speeds o.invariant (left (o.i + 1)) (lay-skip top base tail limits end o.i c.loop-i-test.true l c.speed_limit_at-l.ensures w.if-l-top.false))
    ]

pub returns : goal.returns
returns c =
    let a = c.args in
    let limits = a.limits.now in
    let top = a.top.0 in
    let base = a.base.0 in
    let tail = c.tail_of-tail.result.0 in
    let end = limits_end a.s in
    let o = c.loop-i in
    let ps = points_of a.speeds.now in
    let left = to_lay top base tail limits end in
    let all = left a.s.limits_first in
    becomes-as (lay_all ps (laying top base a.length.0 limits (Some a.s)))
    (limits-done a.speeds.now (lay_all ps all) (left o.i) o.speeds o.invariant (lay-end top base tail limits end o.i c.loop-i-test.false))
    (ap (lay_all ps) (lay-whole top base tail a.length.0 limits a.s c.tail_of-tail.ensures))
