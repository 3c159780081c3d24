-- `insert_speed`: by whether the last point is at or before the start.
use mathlib.Core.Path.{sym, ap, ◌∙◌}
use Prim.Native.Nat.{◌-◌}
use mathlib.Core.List.{List}
use lib.Ieee as Ieee
use lib.Ieee.{Float}
use Rattle.speed.specs.Points.{Point, offset_at}
use Rattle.speed.specs.Becomes.{points_of}
use Rattle.speed.proofs.PointColumn.{length-points, becomes-as}
use Rattle.speed.proofs.InsertSteps.{insert-append, insert-lay}
use Rattle.speed.proofs.speed_column.SpeedColumn.insert_speed.Goals as goal

pub returns-then-offset_at-l : goal.returns-then-offset_at-l
returns-then-offset_at-l c =
    let a = c.args in
    let n = a.self.now.count in
    let s = a.l.offset_start.0 in
    let o = c.offset_at.ensures ∙ ap (λ (qs : List Point). offset_at qs (n - 1)) c.points.ensures.are in
    becomes-as _ c.append_limit.ensures
    (sym (insert-append s a.l.offset_end.0 a.l.speed.0 (points_of a.self.now) n (length-points n a.self.now.col.now) (sym (ap (λ (x : Float). Ieee.le x s) o) ∙ c.if-offset_at-l.true)))

pub lay_limit-requires : goal.lay_limit-requires
lay_limit-requires c =
    let a = c.args in
    let n = a.self.now.count in
    let s = a.l.offset_start.0 in
    let o = c.offset_at.ensures ∙ ap (λ (qs : List Point). offset_at qs (n - 1)) c.points.ensures.are in
    record { some = c.requires.some; room = c.requires.room; before_last = sym (ap (λ (x : Float). Ieee.le x s) o) ∙ c.if-offset_at-l.false }

pub returns-else-offset_at-l : goal.returns-else-offset_at-l
returns-else-offset_at-l c =
    let a = c.args in
    let n = a.self.now.count in
    let s = a.l.offset_start.0 in
    let o = c.offset_at.ensures ∙ ap (λ (qs : List Point). offset_at qs (n - 1)) c.points.ensures.are in
    becomes-as _ c.lay_limit.ensures
    (sym (insert-lay s a.l.offset_end.0 a.l.speed.0 (points_of a.self.now) n (length-points n a.self.now.col.now) (sym (ap (λ (x : Float). Ieee.le x s) o) ∙ c.if-offset_at-l.false)))
