-- Clauses of question 2 without the first link points: offsets that rise, finite speed points, and each link's first record.
use Prim.Native.Nat.{ℕ, zero, suc, ◌+◌, ◌<◌}
use native.Mathlib.Nat.{le_of_suc-le-suc}
use native.Mathlib.Omega.{arith}
use mathlib.Core.Path.{◌≡◌, refl, ap, ap₂, ◌∙◌}
use mathlib.Core.Bool.{true, ◌&&◌}
use mathlib.Core.List.{List, [], ◌∷◌, map}
use lib.Dec.{T}
use lib.ListN.{length, take, drop}
use lib.Seq.{get_or-drop, drop-nil}
use lib.Ieee as Ieee
use lib.Ieee.{Float}
use lib.Ieee.Bits.{is_true}
use lib.Ieee.Scale.{finite}
use Rattle.ieee.specs.Number.{all_finite}
use Rattle.ieee.proofs.Order.{lt_trans, of-true}
use Rattle.column.specs.Records.{flat}
use Rattle.speed.specs.Points.{Point}
use Rattle.speed_laws.specs.Words.{Every, Finite}
use Rattle.lookup.specs.declared.path_res_coeff.PathResCoeff.{PathResCoeff}
use Rattle.lookup.specs.Coeff as coeff
use Rattle.link.proofs.Known.{and_both}
use Rattle.path.specs.declared.link_point.LinkPoint.{LinkPoint}
use Rattle.path.specs.Records.{offset_of, no_link_point, link_point_at}
use Rattle.path.specs.Sound.{total, rise_from, offsets_rise, first_at_offset}
use Rattle.path.proofs.Written.{point_numbers}

-- ---- offsets that rise

pub rise-drop : (d : ℕ) (ps : List LinkPoint) → offsets_rise ps ≡ true → offsets_rise (drop d ps) ≡ true
unfolding offsets_rise
rise-drop zero ps e = e
rise-drop (suc d) [] e = refl
rise-drop (suc d) (p ∷ []) e = ap offsets_rise (drop-nil d)
rise-drop (suc d) (p ∷ q ∷ ps) e = rise-drop d (q ∷ ps) (and_both (Ieee.lt (offset_of p) (offset_of q)) _ e).1

-- every one of these is after o
after-all : (o : Float) (k : ℕ) (ps : List LinkPoint) → rise_from o ps ≡ true → k < length ps → T (Ieee.lt o (offset_of (link_point_at ps k)))
unfolding rise_from
after-all o k [] e h = absurd (omega arith)
after-all o zero (p ∷ ps) e h = of-true (and_both (Ieee.lt o (offset_of p)) _ e).0
after-all o (suc k) (p ∷ ps) e h =
    let t = and_both (Ieee.lt o (offset_of p)) _ e in
    lt_trans o (offset_of p) (offset_of (link_point_at ps k)) (of-true t.0) (after-all (offset_of p) k ps t.1 (le_of_suc-le-suc h))

pub after_first : (k : ℕ) (ps : List LinkPoint) → offsets_rise ps ≡ true → suc k < length ps → T (Ieee.lt (offset_of (link_point_at ps 0)) (offset_of (link_point_at ps (suc k))))
unfolding offsets_rise
after_first k [] e h = absurd (omega arith)
after_first k (p ∷ ps) e h = after-all (offset_of p) k ps e (le_of_suc-le-suc h)

pub point-drop : (d k : ℕ) (ps : List LinkPoint) → link_point_at (drop d ps) k ≡ link_point_at ps (d + k)
point-drop d k ps = get_or-drop d ps k no_link_point

-- ---- finite offsets

pub offset-finite : (k : ℕ) (ps : List LinkPoint) → all_finite (map offset_of ps) ≡ true → k < length ps → T (finite (offset_of (link_point_at ps k)))
unfolding all_finite
offset-finite k [] e h = absurd (omega arith)
offset-finite zero (p ∷ ps) e h = of-true (and_both (finite (offset_of p)) _ e).0
offset-finite (suc k) (p ∷ ps) e h = offset-finite k ps (and_both (finite (offset_of p)) _ e).1 (le_of_suc-le-suc h)

pub offsets-drop : (d : ℕ) (ps : List LinkPoint) → all_finite (map offset_of ps) ≡ true → all_finite (map offset_of (drop d ps)) ≡ true
unfolding all_finite
offsets-drop zero ps e = e
offsets-drop (suc d) [] e = refl
offsets-drop (suc d) (p ∷ ps) e = offsets-drop d ps (and_both (finite (offset_of p)) _ e).1

-- ---- speed points

pub points-finite : (O : Float → Type 0) → ((o : Float) → O o → Finite o) → (ps : List Point) → Every O Finite ps → all_finite (point_numbers ps) ≡ true
unfolding all_finite flat
points-finite O f [] h = refl
points-finite O f (p ∷ ps) h = ap₂ ◌&&◌ (is_true (finite p.offset) (f p.offset h.0)) (ap₂ ◌&&◌ (is_true (finite p.speed) h.1) (points-finite O f ps h.2))

pub points-every : (ps : List Point) → all_finite (point_numbers ps) ≡ true → Every Finite Finite ps
unfolding all_finite flat
points-every [] e = tt
points-every (p ∷ ps) e =
    let a = and_both (finite p.offset) _ e in
    let b = and_both (finite p.speed) _ a.1 in
    (of-true a.0, of-true b.0, points-every ps b.1)

-- ---- each link's first record

module _ (count : LinkPoint → ℕ) where
  -- of the points from the d-th on
  first-later : (gs : List PathResCoeff) (d at : ℕ) (ps : List LinkPoint) → first_at_offset count at ps gs ≡ true → first_at_offset count (at + total count (take d ps)) (drop d ps) gs ≡ true
  unfolding first_at_offset total
  first-later gs zero at ps e = ap (λ (k : ℕ). first_at_offset count k ps gs) (omega arith) ∙ e
  first-later gs (suc d) at [] e = refl
  first-later gs (suc d) at (p ∷ ps) e =
      let k : at + (count p + total count (take d ps)) ≡ at + count p + total count (take d ps) = omega arith in
      ap (λ (i : ℕ). first_at_offset count i (drop d ps) gs) k
      ∙ first-later gs d (at + count p) ps (and_both (Ieee.eq (coeff.offset_at gs at) (offset_of p)) _ e).1

  -- where the first k records go
  first-less : (k at : ℕ) (ps : List LinkPoint) (gs : List PathResCoeff) → first_at_offset count at ps (drop k gs) ≡ first_at_offset count (k + at) ps gs
  unfolding first_at_offset
  first-less k at [] gs = refl
  first-less k at (p ∷ ps) gs =
      let i : k + (at + count p) ≡ k + at + count p = omega arith in
      ap₂ ◌&&◌ (ap (λ (g : PathResCoeff). Ieee.eq (coeff.stands_at g) (offset_of p)) (get_or-drop k gs at coeff.no_coeff))
      (first-less k (at + count p) ps gs ∙ ap (λ (j : ℕ). first_at_offset count j ps gs) i)

  pub first-drop : (d : ℕ) (ps : List LinkPoint) (gs : List PathResCoeff) → first_at_offset count 0 ps gs ≡ true → first_at_offset count 0 (drop d ps) (drop (total count (take d ps)) gs) ≡ true
  first-drop d ps gs e =
      let n = total count (take d ps) in
      let i : n + 0 ≡ 0 + n = omega arith in
      first-less n 0 (drop d ps) gs ∙ ap (λ (k : ℕ). first_at_offset count k (drop d ps) gs) i ∙ first-later gs d 0 ps e
