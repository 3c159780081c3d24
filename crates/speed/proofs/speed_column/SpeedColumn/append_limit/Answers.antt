-- `append_limit`: by whether the limit changes the last speed.
use mathlib.Core.Path.{sym, ap, ap₂, ◌∙◌}
use Prim.Native.Nat.{◌-◌}
use mathlib.Core.List.{List}
use lib.Ieee as Ieee
use lib.Ieee.{Float}
use Rattle.ieee.specs.Speed.{min_speed}
use Rattle.speed.specs.Points.{Point, speed_at}
use Rattle.speed.specs.Becomes.{points_of}
use Rattle.speed.specs.Insert.{append_change}
use Rattle.speed.proofs.PointColumn.{length-points, unchanged, becomes-as}
use Rattle.speed.proofs.InsertSteps.{append-changed, append-same}
use Rattle.speed.proofs.speed_column.SpeedColumn.append_limit.Goals as goal

pub returns-then-u-w : goal.returns-then-u-w
returns-then-u-w c =
    let a = c.args in
    let n = a.self.now.count in
    let ps = points_of a.self.now in
    let s = a.l.offset_start.0 in
    let e = a.l.offset_end.0 in
    let v = a.l.speed.0 in
    let u = c.speed_at-u.ensures ∙ ap (λ (qs : List Point). speed_at qs (n - 1)) c.points.ensures.are in
    let w = c.min_speed-w.ensures ∙ ap (λ (x : Float). min_speed x v) u in
    becomes-as _ c.append_change.ensures
    (ap₂ (λ (x y : Float). append_change (n - 1) s e x y ps) u w ∙ sym (append-changed s e v ps n (length-points n a.self.now.col.now) (sym (ap₂ Ieee.ne u w) ∙ c.if-u-w.true)))

pub returns-else-u-w : goal.returns-else-u-w
returns-else-u-w c =
    let a = c.args in
    let n = a.self.now.count in
    let v = a.l.speed.0 in
    let u = c.speed_at-u.ensures ∙ ap (λ (qs : List Point). speed_at qs (n - 1)) c.points.ensures.are in
    let w = c.min_speed-w.ensures ∙ ap (λ (x : Float). min_speed x v) u in
    unchanged _ _ (sym (append-same a.l.offset_start.0 a.l.offset_end.0 v (points_of a.self.now) n (length-points n a.self.now.col.now) (sym (ap₂ Ieee.ne u w) ∙ c.if-u-w.false)))
