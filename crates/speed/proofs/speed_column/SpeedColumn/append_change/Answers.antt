-- `append_change`: by where the last point lies, and the speed of the one before it.
use mathlib.Core.Path.{◌≡◌, sym, ap, ◌∙◌}
use Prim.Native.Nat.{◌+◌, ◌-◌}
use native.Mathlib.Omega.{arith}
use mathlib.Core.List.{List, [], ◌∷◌, ◌++◌, append_assoc}
use lib.ListN.{length, length-set}
use lib.Ieee as Ieee
use lib.Ieee.{Float}
use Rattle.column.specs.Entries.{insert_at}
use Rattle.speed.specs.Points.{Point, point, offset_at, set_speed, repeats}
use Rattle.speed.specs.Becomes.{points_of}
use Rattle.speed.proofs.PointColumn.{length-points, becomes-as, becomes-next}
use Rattle.speed.proofs.InsertSteps.{length_inserted, insert-end, change-after, change-moved, change-at}
use Rattle.speed.proofs.speed_column.SpeedColumn.append_change.Goals as goal

pub returns-then-offset_at-s : goal.returns-then-offset_at-s
returns-then-offset_at-s c =
    let a = c.args in
    let n = a.self.now.count in
    let ps = points_of a.self.now in
    let s = a.l.offset_start.0 in
    let e = a.l.offset_end.0 in
    let p = point s a.w.0 in
    let q = point e a.u.0 in
    let l = length-points n a.self.now.col.now in
    let o = c.offset_at.ensures ∙ ap (λ (qs : List Point). offset_at qs (n - 1)) c.points.ensures.are in
    let first = becomes-as (ps ++ p ∷ []) c.insert_point.ensures.becomes (ap (λ (p : Point). insert_at n p ps) c.new.ensures ∙ insert-end n p ps l) in
    let longer : length (ps ++ p ∷ []) ≡ n + 1 = sym (ap length (insert-end n p ps l)) ∙ omega (arith, length_inserted n p ps, l) in
    becomes-as _ (becomes-next (insert_at (n + 1) q) first (becomes-as _ c.insert_point-then-offset_at-s.ensures.becomes (ap (λ (q : Point). insert_at (n + 1) q (points_of c.insert_point.new.self)) c.new-then-offset_at-s.ensures)))
    (insert-end (n + 1) q (ps ++ p ∷ []) longer
    ∙ append_assoc ps (p ∷ []) (q ∷ [])
    ∙ sym (change-after (n - 1) s e a.u.0 a.w.0 ps (sym (ap (λ (x : Float). Ieee.lt x s) o) ∙ c.if-offset_at-s.true)))

pub returns-then-repeats_before : goal.returns-then-repeats_before
returns-then-repeats_before c =
    let a = c.args in
    let n = a.self.now.count in
    let s = a.l.offset_start.0 in
    let o = c.offset_at.ensures ∙ ap (λ (qs : List Point). offset_at qs (n - 1)) c.points.ensures.are in
    let r = c.repeats_before.ensures ∙ ap (repeats (n - 1) a.w.0) c.points-else-offset_at-s.ensures.are in
    becomes-as _ c.set_offset.ensures.becomes
    (sym (change-moved (n - 1) s a.l.offset_end.0 a.u.0 a.w.0 (points_of a.self.now) (sym (ap (λ (x : Float). Ieee.lt x s) o) ∙ c.if-offset_at-s.false) (sym r ∙ c.if-repeats_before.true)))

pub returns-else-repeats_before : goal.returns-else-repeats_before
returns-else-repeats_before c =
    let a = c.args in
    let n = a.self.now.count in
    let ps = points_of a.self.now in
    let s = a.l.offset_start.0 in
    let e = a.l.offset_end.0 in
    let q = point e a.u.0 in
    let qs = set_speed (n - 1) a.w.0 ps in
    let o = c.offset_at.ensures ∙ ap (λ (qs : List Point). offset_at qs (n - 1)) c.points.ensures.are in
    let r = c.repeats_before.ensures ∙ ap (repeats (n - 1) a.w.0) c.points-else-offset_at-s.ensures.are in
    let l : length qs ≡ n = length-set ps (n - 1) (point (offset_at ps (n - 1)) a.w.0) ∙ length-points n a.self.now.col.now in
    becomes-as _ (becomes-next (insert_at n q) c.set_speed.ensures.becomes (becomes-as _ c.insert_point-else-repeats_before.ensures.becomes (ap (λ (q : Point). insert_at n q (points_of c.set_speed.new.self)) c.new-else-repeats_before.ensures)))
    (insert-end n q qs l
    ∙ sym (change-at (n - 1) s e a.u.0 a.w.0 ps (sym (ap (λ (x : Float). Ieee.lt x s) o) ∙ c.if-offset_at-s.false) (sym r ∙ c.if-repeats_before.false)))
