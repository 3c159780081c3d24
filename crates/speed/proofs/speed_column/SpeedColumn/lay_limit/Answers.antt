-- `lay_limit`: the searches for the start and the end, and their bounds; by whether the limit lies strictly between two points.
use mathlib.Core.Path.{◌≡◌, refl, sym, ap, ap₂, ◌∙◌, subst}
use Prim.Native.Nat.{ℕ, ◌-◌, ◌<◌}
use native.Mathlib.Omega.{arith}
use mathlib.Core.Bool.{false}
use mathlib.Core.List.{List}
use lib.Dec.{T}
use lib.Ieee as Ieee
use lib.Ieee.{Float}
use Rattle.ieee.proofs.Order.{bool-ext, lt→le}
use lib.ListN.{length}
use Rattle.speed.specs.Points.{Point, offset_at}
use Rattle.speed.specs.declared.speed_column.SpeedColumn.{SpeedColumn}
use Rattle.speed.specs.Becomes.{points_of}
use Rattle.speed.specs.Insert.{first_from, last_from, between, lay_from, lay_limit}
use Rattle.speed.proofs.PointColumn.{length-points, becomes-as}
use Rattle.speed.proofs.InsertSteps.{first_below, last-le, between-some, from-between, from_start, limit-from}
use Rattle.speed.proofs.speed_column.SpeedColumn.lay_limit.Goals as goal

-- the last point is not at or before s: one at or after s is found, and from there on the limit is laid
module _ (d : SpeedColumn) (s : Float) {i : ℕ} {qs : List Point} (are : qs ≡ points_of d) (first : i ≡ first_from s qs) where
  i-is : i ≡ first_from s (points_of d)
  i-is = first ∙ ap (first_from s) are

  found : 0 < d.count → Ieee.le (offset_at (points_of d) (d.count - 1)) s ≡ false → i < d.count
  found some late =
      let n = length-points d.count d.col.now in
      let o = offset_at (points_of d) (d.count - 1) in
      let before : Ieee.lt o s ≡ false = bool-ext (Ieee.lt o s) false (λ t. subst T late (lt→le o s t)) (λ t. absurd t) in
      let last : Ieee.lt (offset_at (points_of d) (length (points_of d) - 1)) s ≡ false = rw n before in
      omega (arith, i-is, first_below s (points_of d) (omega arith) last)

  laid : (e v : Float) {j : ℕ} → j ≡ last_from e (d.count - 1) (points_of d) → lay_from s e v i j (points_of d) ≡ lay_limit s e v (points_of d)
  laid e v l = ap₂ (λ (i j : ℕ). lay_from s e v i j (points_of d)) i-is l ∙ sym (limit-from s e v (points_of d) d.count (length-points d.count d.col.now))

pub lies_between-requires : goal.lies_between-requires
lies_between-requires c =
    let s = c.args.l.offset_start.0 in
    omega (arith, found c.args.self.now s c.points.ensures.are c.first_from-i.ensures c.requires.some c.requires.before_last, c.points-2.ensures.count)

pub lay_between-requires : goal.lay_between-requires
lay_between-requires c =
    let s = c.args.l.offset_start.0 in
    record {
      i_nonzero = between-some s c.args.l.offset_end.0 c.first_from-i.result c.points-2.result (sym c.lies_between.ensures ∙ c.if-lies_between.true);
      i_lt_count = found c.args.self.now s c.points.ensures.are c.first_from-i.ensures c.requires.some c.requires.before_last;
      room = c.requires.room;
    }

pub returns-then-lies_between : goal.returns-then-lies_between
returns-then-lies_between c =
    let a = c.args in
    let d = a.self.now in
    let s = a.l.offset_start.0 in
    let e = a.l.offset_end.0 in
    let v = a.l.speed.0 in
    let i = c.first_from-i.result in
    let j = last_from e (d.count - 1) (points_of d) in
    let tested = sym (c.lies_between.ensures ∙ ap (between s e i) c.points-2.ensures.are) ∙ c.if-lies_between.true in
    becomes-as _ c.lay_between.ensures (sym (from-between s e v i j (points_of d) tested) ∙ laid d s c.points.ensures.are c.first_from-i.ensures e v refl)

pub lay_start-requires : goal.lay_start-requires
lay_start-requires c =
    let e = c.args.l.offset_end.0 in
    let qs = c.points-else-lies_between.result in
    record {
      i_lt_count = found c.args.self.now c.args.l.offset_start.0 c.points.ensures.are c.first_from-i.ensures c.requires.some c.requires.before_last;
      j_lt_count = omega (arith, c.requires.some, last-le e (length qs - 1) qs, c.last_from-j.ensures, c.points-else-lies_between.ensures.count);
      room = c.requires.room;
    }

pub returns-else-lies_between : goal.returns-else-lies_between
returns-else-lies_between c =
    let a = c.args in
    let d = a.self.now in
    let s = a.l.offset_start.0 in
    let e = a.l.offset_end.0 in
    let v = a.l.speed.0 in
    let i = c.first_from-i.result in
    let j = c.last_from-j.result in
    let last = c.last_from-j.ensures ∙ ap₂ (λ (k : ℕ) (qs : List Point). last_from e (k - 1) qs) c.points-else-lies_between.ensures.count c.points-else-lies_between.ensures.are in
    let tested = sym (c.lies_between.ensures ∙ ap (between s e i) c.points-2.ensures.are) ∙ c.if-lies_between.false in
    becomes-as _ c.lay_start.ensures (sym (from_start s e v i j (points_of d) tested) ∙ laid d s c.points.ensures.are c.first_from-i.ensures e v last)
