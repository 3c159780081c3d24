-- `lay_start`: by whether the start gets a point of its own.
use mathlib.Core.Path.{sym, ap, ap₂, ◌∙◌}
use Prim.Native.Nat.{◌+◌}
use mathlib.Core.List.{List}
use lib.Ieee as Ieee
use lib.Ieee.{Float}
use Rattle.ieee.specs.Speed.{min_speed}
use Rattle.column.specs.Entries.{insert_at}
use Rattle.speed.specs.Points.{Point, point, offset_at, speed_at}
use Rattle.speed.specs.Becomes.{points_of}
use Rattle.speed.specs.Insert.{lay_end}
use Rattle.speed.proofs.PointColumn.{becomes-as, becomes-next}
use Rattle.speed.proofs.InsertSteps.{start-laid, start-same, start-kept}
use Rattle.speed.proofs.speed_column.SpeedColumn.lay_start.Goals as goal
use Rattle.speed.proofs.speed_column.SpeedColumn.lay_start.Goals.{then-s-offset_at+else-u-w, else-s-offset_at}

pub returns-then-u-w : goal.returns-then-u-w
returns-then-u-w c =
    let a = c.args in
    let ps = points_of a.self.now in
    let s = a.l.offset_start.0 in
    let e = a.l.offset_end.0 in
    let v = a.l.speed.0 in
    let o = c.offset_at.ensures ∙ ap (λ (qs : List Point). offset_at qs a.i) c.points.ensures.are in
    let u = c.speed_at-u.ensures ∙ ap₂ speed_at c.points-then-s-offset_at.ensures.are c.saturating_sub.ensures in
    let w = c.min_speed-w.ensures ∙ ap (λ (x : Float). min_speed x v) u in
    becomes-as _ (becomes-next (lay_end e v (a.i + 1) (a.j + 1)) c.insert_point.ensures.becomes c.lay_end.ensures)
    (ap (λ (p : Point). lay_end e v (a.i + 1) (a.j + 1) (insert_at a.i p ps)) (c.new.ensures ∙ ap (point s) w)
    ∙ sym (start-laid s e v a.i a.j ps (sym (ap (Ieee.lt s) o) ∙ c.if-s-offset_at.true) (sym (ap₂ Ieee.ne u w) ∙ c.if-u-w.true)))

pub returns : goal.returns
returns c =
    let a = c.args in
    let ps = points_of a.self.now in
    let s = a.l.offset_start.0 in
    let e = a.l.offset_end.0 in
    let v = a.l.speed.0 in
    let o = c.offset_at.ensures ∙ ap (λ (qs : List Point). offset_at qs a.i) c.points.ensures.are in
    becomes-as _ c.lay_end-2.ensures
    (elim c.if-s-offset_at.branch [
      | then-s-offset_at+else-u-w w ↦
          let u = w.speed_at-u.ensures ∙ ap₂ speed_at w.points-then-s-offset_at.ensures.are w.saturating_sub.ensures in
          let m = w.min_speed-w.ensures ∙ ap (λ (x : Float). min_speed x v) u in
          sym (start-same s e v a.i a.j ps (sym (ap (Ieee.lt s) o) ∙ w.if-s-offset_at.true) (sym (ap₂ Ieee.ne u m) ∙ w.if-u-w.false))
      | else-s-offset_at w ↦ sym (start-kept s e v a.i a.j ps (sym (ap (Ieee.lt s) o) ∙ w.if-s-offset_at.false))
    ])
