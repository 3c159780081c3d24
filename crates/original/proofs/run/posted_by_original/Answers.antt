-- `posted_by_original`: from point i on the speed is what it was from the first on.
use Prim.Native.Nat.{◌+◌}
use native.Mathlib.Omega.{arith}
use mathlib.Core.Path.{sym, ap, ◌∙◌}
use mathlib.Core.List.{List}
use lib.ListN.{drop}
use lib.Ieee as Ieee
use lib.Ieee.{Float}
use Rattle.ieee.specs.Number.{+0}
use Rattle.ieee.proofs.Same.{zero-literal}
use Rattle.si.specs.declared.Velocity.{Velocity}
use Rattle.speed.specs.Points.{Point, offset_at, speed_at}
use Rattle.speed.specs.Column.{points}
use Rattle.speed.specs.Posted.{posted}
use Rattle.speed.proofs.PointColumn.{length-points}
use Rattle.original.proofs.Followed.{points-there, points-missing, point-passed, point-ahead, points-end}
use Rattle.original.proofs.run.posted_by_original.Goals as goal
use Rattle.original.proofs.run.posted_by_original.Goals.{then-offset_at-x, else-offset_at-x}

pub returns-then-col-n : goal.returns-then-col-n
returns-then-col-n c = zero-literal ∙ sym (ap (λ (ps : List Point). posted c.args.x.0 ps +0) (points-missing c.args.col.now c.args.n (omega arith)))

pub loop-i-init : goal.loop-i-init
loop-i-init c = (omega arith, ap (posted c.args.x.0 (points c.args.n c.args.col.now)) zero-literal)

pub offset_at-requires : goal.offset_at-requires
offset_at-requires c = omega (arith, c.new-points.ensures.count)

pub speed_at-v-requires : goal.speed_at-v-requires
speed_at-v-requires c = omega (arith, c.new-points.ensures.count)

pub loop-i-preserved : goal.loop-i-preserved
loop-i-preserved c =
    let a = c.args in
    let o = c.loop-i in
    let x = a.x.0 in
    let ps = points a.n a.col.now in
    let l = length-points a.n a.col.now in
    let own = sym (ap (λ (y : Float). Ieee.le y x) (c.offset_at.ensures ∙ ap (λ (qs : List Point). offset_at qs o.i) c.new-points.ensures.are)) in
    elim c.if-offset_at-x.branch [
      | then-offset_at-x w ↦ (omega arith, ap (λ (t : Velocity). posted x (drop (o.i + 1) ps) t.0) w.v-is ∙ ap (posted x (drop (o.i + 1) ps)) (w.speed_at-v.ensures ∙ ap (λ (qs : List Point). speed_at qs o.i) c.new-points.ensures.are) ∙ sym (point-passed x ps o.i o.v.0 (omega arith) (own ∙ w.if-offset_at-x.true)) ∙ o.invariant.1)
      | else-offset_at-x w ↦ (omega arith, ap (λ (t : Velocity). posted x (drop (o.i + 1) ps) t.0) w.v-is ∙ sym (point-ahead x ps o.i o.v.0 (omega arith) (own ∙ w.if-offset_at-x.false)) ∙ o.invariant.1)
    ]

pub returns : goal.returns
returns c =
    let a = c.args in
    let o = c.loop-i in
    let ps = points a.n a.col.now in
    let l = length-points a.n a.col.now in
    sym (points-end a.x.0 ps o.i o.v.0 (omega arith)) ∙ o.invariant.1 ∙ sym (ap (λ (ps : List Point). posted a.x.0 ps +0) (points-there a.col.now a.n (omega arith)))
