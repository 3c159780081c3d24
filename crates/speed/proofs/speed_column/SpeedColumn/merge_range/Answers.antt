-- `merge_range`: at each turn what is left to merge gives what was to be merged at first.
use mathlib.Core.Path.{refl, sym, ap, ap₂, ◌∙◌}
use Prim.Native.Nat.{◌+◌, ◌-◌}
use native.Mathlib.Omega.{arith}
use mathlib.Core.List.{List}
use lib.Ieee.{Float}
use Rattle.ieee.specs.Speed.{min_speed}
use Rattle.speed.specs.Points.{Point, speed_at, set_speed, repeats}
use Rattle.speed.specs.Becomes.{points_of}
use Rattle.speed.specs.Insert.{merge, drop_repeat}
use Rattle.speed.proofs.PointColumn.{unchanged, becomes-as, becomes-next, becomes-on}
use Rattle.speed.proofs.InsertSteps.{merge-done, merge-removed, merge-stored}
use Rattle.speed.proofs.speed_column.SpeedColumn.merge_range.Goals as goal
use Rattle.speed.proofs.speed_column.SpeedColumn.merge_range.Goals.{then-repeats_before, else-repeats_before}

pub loop-init : goal.loop-init
loop-init c = (omega arith, unchanged _ _ refl, refl)

pub loop-preserved : goal.loop-preserved
loop-preserved c =
    let l = c.loop in
    let k = l.counter in
    let j = c.args.j in
    let v = c.args.v.0 in
    let ps = points_of l.self in
    let u = c.speed_at.ensures ∙ ap (λ (qs : List Point). speed_at qs l.a) c.points.ensures.are in
    let m = c.min_speed-w.ensures ∙ ap (λ (x : Float). min_speed x v) u in
    let tested = c.repeats_before.ensures ∙ ap₂ (λ (x : Float) (qs : List Point). repeats l.a x qs) m c.points-in-loop.ensures.are in
    elim c.if-repeats_before.branch [
      | then-repeats_before w ↦ rw (w.self-is, w.a-is) (
        omega (arith, l.invariant.0, c.loop-test.true, w.remove_point.ensures.count),
        becomes-on l.invariant.1 w.remove_point.ensures.becomes,
        l.invariant.2 ∙ merge-removed v j k l.a ps c.loop-test.true (sym tested ∙ w.if-repeats_before.true) ∙ ap (merge v (j - (k + 1)) l.a) (sym w.remove_point.ensures.becomes.holds),
      )
      | else-repeats_before w ↦ rw (w.self-is, w.a-is) (
        omega (arith, l.invariant.0, c.loop-test.true, w.set_speed.ensures.count),
        becomes-on l.invariant.1 w.set_speed.ensures.becomes,
        l.invariant.2 ∙ merge-stored v j k l.a ps c.loop-test.true (sym tested ∙ w.if-repeats_before.false)
            ∙ ap (merge v (j - (k + 1)) (l.a + 1)) (ap (λ (x : Float). set_speed l.a x ps) (sym m) ∙ sym w.set_speed.ensures.becomes.holds),
      )
    ]

pub returns : goal.returns
returns c =
    let l = c.loop in
    let a = c.args in
    becomes-as _ (becomes-next (drop_repeat l.a) l.invariant.1 c.drop_repeat.ensures) (sym (l.invariant.2 ∙ merge-done a.v.0 a.j l.counter l.a (points_of l.self) c.loop-test.false))
