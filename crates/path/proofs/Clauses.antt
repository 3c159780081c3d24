-- Question 2 of a path that is read out of its columns, clause by clause.
use Prim.Native.Nat.{ℕ, ◌+◌, ◌*◌, ◌/◌, ◌≤◌, ◌<◌}
use native.Mathlib.Nat.{le_trans, mul-le-mul_left, mul-div-le}
use mathlib.Core.Path.{◌≡◌, refl, sym, ap, ◌∙◌}
use mathlib.Core.Bool.{Bool, true, false, not, ◌&&◌, ◌||◌, and_assoc, and_comm}
use lib.Dec.{eqb, leb}
use native.Mathlib.Omega.{arith}
use borrow.Author.Tests.{eqb-true, leb-true}
use Rattle.speed.specs.Column.{points}
use Rattle.lookup.specs.Coeff.{coeffs}
use Rattle.link.proofs.Known.{and_both}
use Rattle.path.specs.declared.path_tpc.PathTpc.{PathTpc}
use Rattle.path.specs.declared.link_point.LinkPoint.{LinkPoint}
use Rattle.path.specs.Records.{Columns, is_within_all, link_points, point_at, no_link_point, offset_of, grade_count_of, curve_count_of, power_count_of, path_of}
use Rattle.path.specs.Sound.{one_of_each, within_bounds, spare, add_up, totals, closes, end_counts_zero, offsets_rise, numbers_real, links_sound, sorted_from, count_of, first_at_offset, counts_add_up, closed_at_infinity, sound_path, sound}
use Rattle.path.proofs.LinkPoints.{link_at}
use Rattle.path.proofs.ReadBack.{counted, Within}

pub within_all : (n bound a b : ℕ) → is_within_all n bound a b ≡ true → (n ≤ bound) × (n ≤ a) × (n ≤ b)
within_all n bound a b e =
    let t = and_both _ _ e in
    let u = and_both _ _ t.1 in
    (leb-true n bound t.0, leb-true n a u.0, leb-true n b u.1)

-- n records of w entries, where so many whole records fit
pub times : (w n k : ℕ) → n ≤ k / w → w * n ≤ k
times w n k h = le_trans (mul-le-mul_left w h) (mul-div-le k w)

-- the last clause is asked beside the first one
last-first : (a b d e f : Bool) → ((a && f) && (b && (d && e))) ≡ (a && (b && (d && (e && f))))
last-first false b d e f = refl
last-first true b d e f = and_comm f (b && (d && e)) ∙ and_assoc b (d && e) f ∙ ap (λ (t : Bool). b && t) (and_assoc d e f)

module _ (p : PathTpc) (c : Columns) where
  -- ---- the answer, question by question
  pub sound_none : one_of_each p ≡ false → sound p c ≡ false
  unfolding sound
  sound_none e = rw e

  module _ (one : one_of_each p ≡ true) where
    pub sound-past : within_bounds p c ≡ false → sound p c ≡ false
    unfolding sound
    sound-past e = rw (one, e)

    pub sound_more : within_bounds p c ≡ true → sound p c ≡ sound_path (path_of p c)
    unfolding sound
    sound_more e = rw (one, e)

  pub sound-within : sound p c ≡ true → (one_of_each p ≡ true) × (within_bounds p c ≡ true)
  unfolding sound
  sound-within e =
      let t = and_both _ _ e in
      (t.0, (and_both _ _ t.1).0)

  -- ---- what the counts are once they are judged
  pub some-link : one_of_each p ≡ true → 0 < p.link_count
  unfolding one_of_each
  some-link e = leb-true 1 p.link_count (and_both _ _ e).0

  pub some-records : one_of_each p ≡ true → (0 < p.grade_count) × (0 < p.curve_count) × (0 < p.speed_count)
  unfolding one_of_each
  some-records e =
      let l = and_both (leb 1 p.link_count) _ e in
      let g = and_both (leb 1 p.grade_count) _ l.1 in
      let k = and_both (leb 1 p.curve_count) (leb 1 p.speed_count) g.1 in
      (leb-true 1 p.grade_count g.0, leb-true 1 p.curve_count k.0, leb-true 1 p.speed_count k.1)

  module _ (e : within_bounds p c ≡ true) where
    -- the counts lie within their bounds
    pub bounds : (p.link_count ≤ 1025) × (p.grade_count ≤ 16384) × (p.curve_count ≤ 16384) × (p.speed_count ≤ 4096) × (p.power_count ≤ 1024)
    unfolding within_bounds
    bounds =
        let l = and_both _ _ e in
        let g = and_both _ _ l.1 in
        let k = and_both _ _ g.1 in
        let s = and_both _ _ k.1 in
        ((within_all _ _ _ _ l.0).0, (within_all _ _ _ _ g.0).0, (within_all _ _ _ _ k.0).0, (within_all _ _ _ _ s.0).0, (within_all _ _ _ _ s.1).0)

    -- and within the columns
    pub room : Within p c
    unfolding within_bounds
    room =
        let l = and_both _ _ e in
        let g = and_both _ _ l.1 in
        let k = and_both _ _ g.1 in
        let s = and_both _ _ k.1 in
        let links = within_all _ _ _ _ l.0 in
        let powers = within_all _ _ _ _ s.1 in
        record {
          offsets = links.1;
          numbers = times 4 _ _ links.2;
          grades = times 3 _ _ (within_all _ _ _ _ g.0).1;
          curves = times 3 _ _ (within_all _ _ _ _ k.0).1;
          speeds = times 2 _ _ (within_all _ _ _ _ s.0).1;
          powers = times 3 _ _ powers.1;
          districts = powers.2;
        }

  -- ---- the other clauses
  pub clauses :
      0 < p.link_count
      → sound_path (path_of p c) ≡ add_up p (totals (link_points p.link_count c.offsets c.numbers))
      && ((not p.is_finished || (closes (coeffs p.grade_count c.grades) && closes (coeffs p.curve_count c.curves)))
      && (links_sound (link_points p.link_count c.offsets c.numbers)
      && (sorted_from (offset_of (point_at c.offsets c.numbers 0)) (points p.speed_count c.speeds)
      && (first_at_offset (count_of false) 0 (link_points p.link_count c.offsets c.numbers) (coeffs p.grade_count c.grades)
      && first_at_offset (count_of true) 0 (link_points p.link_count c.offsets c.numbers) (coeffs p.curve_count c.curves)))))
  unfolding sound_path path_of counts_add_up closed_at_infinity
  clauses h = cc (counted p c, link_at p.link_count c.offsets c.numbers 0 no_link_point h)

  -- the answers of the clauses, joined as the code joins them
  pub joined :
      {first : LinkPoint} {lead g k ended rise real sorted : Bool}
      → 0 < p.link_count
      → g ≡ closes (coeffs p.grade_count c.grades)
      → k ≡ closes (coeffs p.curve_count c.curves)
      → ended ≡ end_counts_zero (link_points p.link_count c.offsets c.numbers)
      → rise ≡ offsets_rise (link_points p.link_count c.offsets c.numbers)
      → real ≡ numbers_real (link_points p.link_count c.offsets c.numbers)
      → first ≡ point_at c.offsets c.numbers 0
      → sorted ≡ sorted_from (offset_of first) (points p.speed_count c.speeds)
      → lead
      ≡ (add_up p (totals (link_points p.link_count c.offsets c.numbers))
      && (first_at_offset (count_of false) 0 (link_points p.link_count c.offsets c.numbers) (coeffs p.grade_count c.grades)
      && first_at_offset (count_of true) 0 (link_points p.link_count c.offsets c.numbers) (coeffs p.curve_count c.curves)))
      → (lead && ((not p.is_finished || (g && k)) && ((ended && (rise && real)) && sorted))) ≡ sound_path (path_of p c)
  unfolding links_sound
  joined {sorted = sorted} h e₁ e₂ e₃ e₄ e₅ e₆ e₇ e₈ =
      let ps = link_points p.link_count c.offsets c.numbers in
      let grades = coeffs p.grade_count c.grades in
      let curves = coeffs p.curve_count c.curves in
      cc (
        clauses h,
        e₁,
        e₂,
        e₃,
        e₄,
        e₅,
        e₆,
        e₇,
        e₈,
        last-first (add_up p (totals ps)) (not p.is_finished || (closes grades && closes curves)) (links_sound ps) sorted (first_at_offset (count_of false) 0 ps grades && first_at_offset (count_of true) 0 ps curves),
      )

-- ---- the counts of the link points

-- q counts no more records than the path has
abbrev pub Fewer : PathTpc → LinkPoint → Type 0
Fewer p q = (grade_count_of q ≤ p.grade_count) × (curve_count_of q ≤ p.curve_count) × (power_count_of q ≤ p.power_count)

counts-fewer : (p : PathTpc) (q : LinkPoint) → add_up p q ≡ true → Fewer p q
unfolding add_up
counts-fewer p q e =
    let g = and_both (eqb (grade_count_of q + spare p.is_finished) p.grade_count) _ e in
    let k = and_both (eqb (curve_count_of q + spare p.is_finished) p.curve_count) (eqb (power_count_of q) p.power_count) g.1 in (
      omega (arith, eqb-true (grade_count_of q + spare p.is_finished) p.grade_count g.0),
      omega (arith, eqb-true (curve_count_of q + spare p.is_finished) p.curve_count k.0),
      omega (arith, eqb-true (power_count_of q) p.power_count k.1),
    )

pub sound-fewer : (p : PathTpc) (c : Columns) → sound p c ≡ true → Fewer p (totals (link_points p.link_count c.offsets c.numbers))
sound-fewer p c e =
    let w = sound-within p c e in
    let sums = (and_both _ _ (sym (clauses p c (some-link p c w.0)) ∙ sym (sound_more p c w.0 w.1) ∙ e)).0 in
    counts-fewer p (totals (link_points p.link_count c.offsets c.numbers)) sums
