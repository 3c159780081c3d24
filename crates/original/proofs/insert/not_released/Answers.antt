-- `not_released`: by whether the limit changes the speed before it.
use mathlib.Core.Path.{sym, ap, ap₂, ◌∙◌}
use Prim.Native.Nat.{◌+◌, ◌-◌}
use mathlib.Core.List.{List}
use lib.Ieee as Ieee
use lib.Ieee.{Float}
use Rattle.ieee.specs.Speed.{min_speed}
use Rattle.column.specs.Entries.{insert_at}
use Rattle.speed.specs.Points.{Point, point, speed_at}
use Rattle.speed.specs.Becomes.{points_of}
use Rattle.speed.specs.Insert.{drop_repeat}
use Rattle.speed.proofs.PointColumn.{becomes-as, becomes-next}
use Rattle.original.proofs.Inserted.{laid-before, same-before}
use Rattle.original.proofs.insert.not_released.Goals as goal

pub returns-then-u-w : goal.returns-then-u-w
returns-then-u-w c =
    let a = c.args in
    let ps = points_of a.col.now in
    let s = a.l.offset_start.0 in
    let v = a.l.speed.0 in
    let u = c.speed_at-u.ensures ∙ ap (λ (qs : List Point). speed_at qs (a.i - 1)) c.points.ensures.are in
    let w = c.min_speed-w.ensures ∙ ap (λ (x : Float). min_speed x v) u in
    becomes-as _ (becomes-next (drop_repeat (a.i + 1)) c.insert_point.ensures.becomes c.drop_repeat.ensures)
    (ap (λ (p : Point). drop_repeat (a.i + 1) (insert_at a.i p ps)) (c.new.ensures ∙ ap (point s) w)
    ∙ sym (laid-before s v a.i ps (sym (ap₂ Ieee.ne u w) ∙ c.if-u-w.true)))

pub returns-else-u-w : goal.returns-else-u-w
returns-else-u-w c =
    let a = c.args in
    let v = a.l.speed.0 in
    let u = c.speed_at-u.ensures ∙ ap (λ (qs : List Point). speed_at qs (a.i - 1)) c.points.ensures.are in
    let w = c.min_speed-w.ensures ∙ ap (λ (x : Float). min_speed x v) u in
    becomes-as _ c.drop_repeat-else-u-w.ensures (sym (same-before a.l.offset_start.0 v a.i (points_of a.col.now) (sym (ap₂ Ieee.ne u w) ∙ c.if-u-w.false)))
