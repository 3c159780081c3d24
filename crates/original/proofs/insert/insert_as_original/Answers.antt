-- `insert_as_original`: by whether the limit lies strictly between two points.
use Prim.Native.Nat.{ℕ}
use native.Mathlib.Omega.{arith}
use mathlib.Core.Path.{sym, ap, ◌∙◌}
use Rattle.speed.specs.Becomes.{points_of}
use Rattle.speed.specs.Insert.{first_from}
use Rattle.speed.proofs.PointColumn.{length-points, becomes-as}
use Rattle.original.specs.Original.{not_released, strictly_between}
use Rattle.original.proofs.Inserted.{found_inside, as-original, as-port}
use Rattle.original.proofs.insert.insert_as_original.Goals as goal

pub strictly_between-between-requires : goal.strictly_between-between-requires
strictly_between-between-requires c = omega (arith, c.requires.some, c.points.ensures.count)

pub not_released-requires : goal.not_released-requires
not_released-requires c =
    let a = c.args in
    let d = a.col.now in
    let s = a.l.offset_start.0 in
    let e = a.l.offset_end.0 in
    let tested = c.strictly_between-between.ensures ∙ ap (strictly_between s e) c.points.ensures.are in
    let first = c.first_from-i.ensures ∙ ap (first_from s) c.points-then-between.ensures.are in
    let inside = found_inside s e (points_of d) d.count (length-points d.count d.col.now) c.requires.some (sym tested ∙ c.if-between.true) in
    record { i_nonzero = omega (arith, inside.0, first); i_lt_count = omega (arith, inside.1, first); room = omega (arith, c.requires.room) }

pub returns-then-between : goal.returns-then-between
returns-then-between c =
    let a = c.args in
    let ps = points_of a.col.now in
    let s = a.l.offset_start.0 in
    let e = a.l.offset_end.0 in
    let v = a.l.speed.0 in
    let tested = c.strictly_between-between.ensures ∙ ap (strictly_between s e) c.points.ensures.are in
    let first = c.first_from-i.ensures ∙ ap (first_from s) c.points-then-between.ensures.are in
    becomes-as _ c.not_released.ensures (ap (λ (i : ℕ). not_released s v i ps) first ∙ sym (as-original s e v ps (sym tested ∙ c.if-between.true)))

pub returns-else-between : goal.returns-else-between
returns-else-between c =
    let a = c.args in
    let s = a.l.offset_start.0 in
    let e = a.l.offset_end.0 in
    let tested = c.strictly_between-between.ensures ∙ ap (strictly_between s e) c.points.ensures.are in
    becomes-as _ c.insert_speed.ensures (sym (as-port s e a.l.speed.0 (points_of a.col.now) (sym tested ∙ c.if-between.false)))
