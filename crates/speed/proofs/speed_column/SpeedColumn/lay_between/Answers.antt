-- `lay_between`: by whether the limit has a length and changes the speed before it.
use mathlib.Core.Path.{◌≡◌, sym, ap, ap₂, ◌∙◌}
use mathlib.Core.Bool.{true, ◌&&◌}
use Prim.Native.Nat.{ℕ, ◌-◌}
use mathlib.Core.List.{List}
use lib.Ieee as Ieee
use lib.Ieee.{Float}
use Rattle.ieee.specs.Speed.{min_speed}
use Rattle.column.specs.Entries.{insert_at}
use Rattle.speed.specs.Points.{Point, point, speed_at}
use Rattle.speed.specs.Becomes.{points_of}
use Rattle.speed.specs.Insert.{splits, lay_between}
use Rattle.speed.proofs.PointColumn.{unchanged, becomes-as}
use Rattle.speed.proofs.InsertSteps.{between-laid, between-kept}
use Rattle.speed.proofs.speed_column.SpeedColumn.lay_between.Goals as goal

-- the speed before, and the smaller of it and the limit's, as they were read
module _ (s e v : Float) (i : ℕ) (ps : List Point) (u w : Float) (was : u ≡ speed_at ps (i - 1)) (low : w ≡ min_speed u v) where
  lowest : w ≡ min_speed (speed_at ps (i - 1)) v
  lowest = low ∙ ap (λ (x : Float). min_speed x v) was

  tested : splits s e v i ps ≡ (Ieee.lt s e && Ieee.ne u w)
  tested = sym (ap₂ (λ (x y : Float). Ieee.lt s e && Ieee.ne x y) was lowest)

  split : splits s e v i ps ≡ true → insert_at i (point s w) (insert_at i (point e u) ps) ≡ lay_between s e v i ps
  split t = ap₂ (λ (x y : Float). insert_at i (point s x) (insert_at i (point e y) ps)) lowest was ∙ sym (between-laid s e v i ps t)

pub returns-then-s-e : goal.returns-then-s-e
returns-then-s-e c =
    let a = c.args in
    let ps = points_of a.self.now in
    let s = a.l.offset_start.0 in
    let e = a.l.offset_end.0 in
    let v = a.l.speed.0 in
    let u = c.speed_at-was.result.0 in
    let w = c.min_speed-low.result.0 in
    let was = c.speed_at-was.ensures ∙ ap (λ (qs : List Point). speed_at qs (a.i - 1)) c.points.ensures.are in
    let low = c.min_speed-low.ensures in
    becomes-as _ c.insert_two.ensures.becomes
    (ap₂ (λ (p q : Point). insert_at a.i p (insert_at a.i q ps)) c.new.ensures c.new-then-s-e.ensures
    ∙ split s e v a.i ps u w was low (tested s e v a.i ps u w was low ∙ c.if-s-e.true))

pub returns-else-s-e : goal.returns-else-s-e
returns-else-s-e c =
    let a = c.args in
    let ps = points_of a.self.now in
    let s = a.l.offset_start.0 in
    let e = a.l.offset_end.0 in
    let v = a.l.speed.0 in
    let was = c.speed_at-was.ensures ∙ ap (λ (qs : List Point). speed_at qs (a.i - 1)) c.points.ensures.are in
    unchanged _ _ (sym (between-kept s e v a.i ps (tested s e v a.i ps c.speed_at-was.result.0 c.min_speed-low.result.0 was c.min_speed-low.ensures ∙ c.if-s-e.false)))
