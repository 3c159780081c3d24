-- A path that matches its book and keeps its own counts and numbers is finite and sound, once it is written.
use Prim.Native.Nat.{ℕ, zero, suc, ◌+◌, ◌-◌, ◌≤◌, ◌<◌}
use native.Mathlib.Nat.{not-suc-le-zero, le_of_suc-le-suc}
use native.Mathlib.Omega.{arith}
use mathlib.Core.Path.{◌≡◌, refl, sym, ap, ap₂, ◌∙◌, subst}
use mathlib.Core.Logic.{inl, inr}
use mathlib.Core.Bool.{Bool, true, false, ◌&&◌}
use mathlib.Core.List.{List, [], ◌∷◌, map}
use lib.Dec.{T, eqb}
use lib.ListN.{length, get_or, take, length-map}
use lib.Seq.{take_all}
use lib.Ieee as Ieee
use lib.Ieee.{Float, nan}
use lib.Ieee.Bits.{is_true}
use lib.Ieee.Scale.{finite}
use borrow.Author.Tests.{eqb-true}
use Rattle.ieee.specs.Number.{real, all_finite}
use Rattle.ieee.proofs.Order.{eq_refl}
use Rattle.ieee.proofs.Sum.{finite-real}
use Rattle.ieee.proofs.Round.{split}
use Rattle.speed.specs.Points.{Point, offset_at}
use Rattle.speed.specs.Posted.{Sorted}
use Rattle.lookup.specs.declared.path_res_coeff.PathResCoeff.{PathResCoeff}
use Rattle.lookup.specs.Coeff as coeff
use Rattle.link.specs.declared.train_params.TrainParams.{TrainParams}
use Rattle.link.proofs.Known.{and_both}
use Rattle.path.specs.declared.link_point.LinkPoint.{LinkPoint}
use Rattle.path.specs.Records.{Columns, offset_of, grade_count_of, curve_count_of, power_count_of, link_point_at, end_point, Path, record_of}
use Rattle.path.specs.Sound.{one_of_each, within_bounds, total, spare, end_counts_zero, rise_from, offsets_rise, links_sound, stands_there, count_of, first_at_offset, sound_path}
use Rattle.path.proofs.Counts.{total-next}
use Rattle.path.proofs.WrittenSound.{Own, Stays, in-order-from, points-some, add-up, spare-some, one_each}
use Rattle.path_clear.proofs.Rising.{points-finite}
use Rattle.book.specs.Book.{Book, first_end}
use Rattle.book.specs.Claims.{Offset, Offsets, RisingFrom, Rising, Claims}
use Rattle.book.proofs.Matching.{Matched, Begun, Grounded}
use Rattle.book.proofs.Ends.{first-offset}
use Rattle.path.proofs.Written.{point_numbers, FinitePath, written-sound, written-finite}
use Rattle.book.proofs.LinkEnds.{end-offset}

-- ---- from the book's ends

offset-in : (es : List Float) (k : ℕ) → Offsets es → k < length es → Offset (get_or es k nan)
offset-in [] k h l = absurd (not-suc-le-zero l)
offset-in (e ∷ es) zero h l = h.0
offset-in (e ∷ es) (suc k) h l = offset-in es k h.1 (le_of_suc-le-suc l)

ends-finite : (es : List Float) → Offsets es → all_finite es ≡ true
unfolding all_finite
ends-finite [] h = refl
ends-finite (e ∷ es) h = ap₂ ◌&&◌ (is_true (finite e) h.0.is_finite) (ends-finite es h.1)

rise-from : (o : Float) (ps : List LinkPoint) → RisingFrom o (map offset_of ps) → rise_from o ps ≡ true
unfolding rise_from
rise-from o [] h = refl
rise-from o (p ∷ ps) h = ap₂ ◌&&◌ (is_true (Ieee.lt o (offset_of p)) h.0) (rise-from (offset_of p) ps h.1)

rises : (ps : List LinkPoint) → Rising (map offset_of ps) → offsets_rise ps ≡ true
unfolding offsets_rise
rises [] h = refl
rises (p ∷ ps) h = rise-from (offset_of p) ps h

-- ---- each link's first record

-- record `at` is the first of these points'
first-all : (count : LinkPoint → ℕ) (gs : List PathResCoeff) (at : ℕ) (ps : List LinkPoint)
    → ((k : ℕ) → k < length ps → stands_there gs (at + total count (take k ps)) (offset_of (link_point_at ps k)) ≡ true)
    → first_at_offset count at ps gs ≡ true
unfolding first_at_offset total
first-all count gs at [] h = refl
first-all count gs at (p ∷ ps) h =
    let here : at + 0 ≡ at = omega arith in
    ap₂ ◌&&◌
    (ap (λ (k : ℕ). stands_there gs k (offset_of p)) (sym here) ∙ h 0 (omega arith))
    (first-all count gs (at + count p) ps (λ k l.
    let e : at + count p + total count (take k ps) ≡ at + (count p + total count (take k ps)) = omega arith in
    ap (λ (j : ℕ). stands_there gs j (offset_of (link_point_at ps k))) e ∙ h (suc k) (omega arith)))

module _ (count : LinkPoint → ℕ) (ps : List LinkPoint) (gs : List PathResCoeff) (es : List Float) (over : ℕ)
    (e : map offset_of ps ≡ es) (good : Offsets es) (none : count (end_point ps) ≡ 0) (b : Begun count ps gs es over) where
  long : length es ≡ length ps
  long = ap length (sym e) ∙ length-map ps offset_of

  -- to the bit
  first-is : (k : ℕ) → k < length ps → coeff.offset_at gs (total count (take k ps)) ≡ get_or es k nan
  first-is k h = elim (split (k + 1) (length ps)) [
    | inl l ↦ b.begin k (omega (arith, long))
    | inr l ↦ last-is l
  ]
    where
      last-is : length ps ≤ k + 1 → coeff.offset_at gs (total count (take k ps)) ≡ get_or es k nan
      last-is l =
          let i : k ≡ length ps - 1 = omega arith in
          let j : length es - 1 ≡ k = omega (arith, long) in
          let whole : take (suc k) ps ≡ ps = take_all (suc k) ps (omega arith) in
          let same : total count (take k ps) ≡ total count ps = omega (arith, total-next count k ps h, ap (total count) whole, none, ap (λ (m : ℕ). count (link_point_at ps m)) i) in
          ap (coeff.offset_at gs) same ∙ b.last ∙ ap (λ (m : ℕ). get_or es m nan) j

  pub first-at : first_at_offset count 0 ps gs ≡ true
  first-at = first-all count gs 0 ps (λ k h.
      let z : 0 + total count (take k ps) ≡ total count (take k ps) = omega arith in
      let o = offset_of (link_point_at ps k) in
      let is : get_or es k nan ≡ o = ap (λ (l : List Float). get_or l k nan) (sym e) ∙ end-offset ps k h in
      let fine : T (real o) = subst (λ (x : Float). T (real x)) is (finite-real (get_or es k nan) (offset-in es k good (omega (arith, long))).is_finite) in
      ap (λ (m : ℕ). stands_there gs m o) z ∙ ap (λ (x : Float). Ieee.eq x o) (first-is k h ∙ is) ∙ is_true (Ieee.eq o o) (eq_refl o fine))

-- ---- the counts

end-count : (ps : List LinkPoint) → end_counts_zero ps ≡ true → (curves : Bool) → count_of curves (end_point ps) ≡ 0
unfolding end_counts_zero
end-count ps e true = let p = end_point ps in eqb-true (curve_count_of p) 0 (and_both (eqb (curve_count_of p) 0) (eqb (power_count_of p) 0) (and_both (eqb (grade_count_of p) 0) _ e).1).0
end-count ps e false = let p = end_point ps in eqb-true (grade_count_of p) 0 (and_both (eqb (grade_count_of p) 0) _ e).0

-- ---- the whole path
module _ (train : TrainParams) (b : Book) (after : Path) (claims : Claims train b) (matched : Matched after b) (grounded : Grounded after b) (own : Own after) where
  abbrev ps : List LinkPoint
  ps = after.links

  some-links : 0 < length ps
  some-links = omega (arith, claims.some_end, ap length matched.links, length-map ps offset_of)

  abbrev begins : Float
  begins = offset_of (link_point_at ps 0)

  first-end : first_end b.ends ≡ begins
  first-end = ap (λ (l : List Float). get_or l 0 nan) (sym matched.links) ∙ end-offset ps 0 some-links

  begins-real : T (real begins)
  begins-real = subst (λ (x : Float). T (real x)) first-end (finite-real (first_end b.ends) (first-offset b.ends claims.some_end claims.ends-good).is_finite)

  points-begin : offset_at after.speeds 0 ≡ begins
  points-begin = ap (λ (l : List Point). offset_at l 0) matched.points ∙ claims.starts ∙ first-end

  after_one : one_of_each (record_of after) ≡ true
  after_one =
      one_each after some-links
      (omega (arith, grounded.grades.counted, spare-some after.finished))
      (omega (arith, grounded.curves.counted, spare-some after.finished))
      (points-some begins after.speeds points-begin begins-real)

  after-firsts : (curves : Bool) (gs : List PathResCoeff) → Begun (count_of curves) ps gs b.ends (spare after.finished) → first_at_offset (count_of curves) 0 ps gs ≡ true
  after-firsts curves gs g = first-at (count_of curves) ps gs b.ends (spare after.finished) matched.links claims.ends-good (end-count ps own.end-zero curves) g

  after-sound : sound_path after ≡ true
  unfolding sound_path links_sound
  after-sound =
      ap₂ ◌&&◌ (add-up after grounded.grades.counted grounded.curves.counted own.powers-counted)
      (ap₂ ◌&&◌ own.closed
      (ap₂ ◌&&◌ (ap₂ ◌&&◌ own.end-zero (ap₂ ◌&&◌ (rises ps (subst Rising (sym matched.links) claims.ends-rise)) own.numbers))
      (ap₂ ◌&&◌ (in-order-from begins after.speeds points-begin begins-real (subst Sorted (sym matched.points) claims.in_order))
      (ap₂ ◌&&◌ (after-firsts false after.grades grounded.grades) (after-firsts true after.curves grounded.curves)))))

  after-finite : FinitePath after
  after-finite =
      record {
        offsets = ap all_finite matched.links ∙ ends-finite b.ends claims.ends-good;
        grades = own.grades-finite;
        curves = own.curves-finite;
        speeds = ap (λ (l : List Point). all_finite (point_numbers l)) matched.points ∙ points-finite Offset (λ o g. g.is_finite) b.points claims.points-good;
        powers = own.powers-finite;
      }

  pub stays : (c : Columns) → within_bounds (record_of after) c ≡ true → Stays c after
  stays c h = (written-finite c after h after-finite, written-sound c after h after_one after-sound)
