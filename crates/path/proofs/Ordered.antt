-- Question 2's passes over link points and speed points: `ok` is the answer for the records before i, and the records from i on are left.
use Prim.Native.Nat.{ℕ, suc, ◌+◌, ◌-◌, ◌≤◌, ◌<◌}
use native.Mathlib.Numerals.{add-one}
use native.Mathlib.Omega.{arith}
use mathlib.Core.Path.{◌≡◌, sym, ap, ap₂, ◌∙◌}
use mathlib.Core.Bool.{Bool, true, false, ◌&&◌, and-true, and_assoc}
use mathlib.Core.List.{List, ◌∷◌}
use lib.Dec.{eqb}
use lib.ListN.{length, drop, get_or, drop_of_length-le}
use lib.Seq.{drop-cons}
use borrow.Author.Tests.{eq-eqb, ne_eqb}
use lib.Ieee as Ieee
use lib.Ieee.{Float}
use Rattle.ieee.specs.Number.{+0}
use Rattle.column.specs.Records.{record_at, two}
use Rattle.column.proofs.Bridge.{record-at}
use Rattle.speed.specs.Points.{nowhere}
use Rattle.speed.specs.Column.{pair, points}
use Rattle.speed.proofs.PointColumn.{pair-lawful, length-points}
use Rattle.link.specs.Lists.{every}
use Rattle.path.specs.declared.link_point.LinkPoint.{LinkPoint}
use Rattle.path.specs.Records.{number_of, point_at, link_points, no_link_point, link_point_at}
use Rattle.path.specs.Sound.{rise_from, offsets_rise, numbered, all_numbered, numbers_real, never_fall, sorted_from}
use Rattle.path.proofs.LinkPoints.{length-links, links_from, links-next, links-more, links-none, link_at}

module _ (os : List Float) (ns : List ℕ) (n : ℕ) where
  -- ---- the offsets rise
  abbrev pub risen : Bool → ℕ → Bool
  risen ok i = ok && rise_from (get_or os (i - 1) +0) (links_from os ns n i)

  pub rise-first : 0 < n → offsets_rise (link_points n os ns) ≡ risen true 1
  unfolding offsets_rise link_points
  rise-first h =
      let e : n ≡ suc (n - 1) = omega arith in
      ap (λ (k : ℕ). offsets_rise (link_points k os ns)) e

  module _ (ok : Bool) (i : ℕ) where
    pub rise-more : {a b : Float} → i < n → a ≡ get_or os (i - 1) +0 → b ≡ get_or os i +0 → risen ok i ≡ risen (ok && Ieee.lt a b) (i + 1)
    unfolding rise_from
    rise-more h e f =
        let back : i + 1 - 1 ≡ i = omega arith in
        rw (links-more os ns n i h, e, f, back) (sym (and_assoc ok _ _))

    pub rise-end : n ≤ i → risen ok i ≡ ok
    unfolding rise_from
    rise-end h = rw (links-none os ns n i h) (and-true ok)

    -- ---- every point has a number
    pub number_more : {p : LinkPoint} → i < n → p ≡ point_at os ns i → (ok && all_numbered (links_from os ns n i)) ≡ ((ok && numbered p) && all_numbered (links_from os ns n (i + 1)))
    unfolding every
    number_more h e = rw (links-next os ns n i h e) (sym (and_assoc ok _ _))

    pub number-end : n ≤ i → (ok && all_numbered (links_from os ns n i)) ≡ ok
    unfolding every
    number-end h = rw (links-none os ns n i h) (and-true ok)

  -- ---- the numbers are real
  point-from-end : (k : ℕ) → 0 < k → k ≤ n → link_point_at (link_points n os ns) (length (link_points n os ns) - k) ≡ point_at os ns (n - k)
  point-from-end k h g = ap (λ (j : ℕ). link_point_at (link_points n os ns) (j - k)) (length-links n os ns) ∙ link_at n os ns (n - k) no_link_point (omega arith)

  pub real-one : n ≡ 1 → numbers_real (link_points n os ns) ≡ eqb (number_of (point_at os ns (n - 1))) 0
  unfolding numbers_real
  real-one e = rw (point-from-end 1 (omega arith) (omega arith), eq-eqb (length (link_points n os ns)) 1 (length-links n os ns ∙ e))

  pub real-fail : (n ≡ 1 → ⊥) → all_numbered (link_points n os ns) ≡ false → numbers_real (link_points n os ns) ≡ false
  unfolding numbers_real
  real-fail h t = rw (ne_eqb (length (link_points n os ns)) 1 (λ e. h (sym (length-links n os ns) ∙ e)), t)

  pub real-more : 1 < n → all_numbered (link_points n os ns) ≡ true → numbers_real (link_points n os ns) ≡ eqb (number_of (point_at os ns (n - 1))) (number_of (point_at os ns (n - 2)))
  unfolding numbers_real
  real-more h t =
      rw (ne_eqb (length (link_points n os ns)) 1 (λ e. omega (arith, length-links n os ns)), t, point-from-end 1 (omega arith) (omega arith), point-from-end 2 (omega arith) (omega arith))

-- ---- speed points in order
module _ (c : List Float) (n : ℕ) where
  points-more : (i : ℕ) → i < n → drop i (points n c) ≡ record_at pair c i ∷ drop (i + 1) (points n c)
  points-more i h =
      drop-cons (points n c) i nowhere (omega (arith, length-points n c))
      ∙ ap₂ ◌∷◌ (record-at pair pair-lawful n c i nowhere h) (ap (λ (k : ℕ). drop k (points n c)) (sym (add-one i)))

  abbrev pub sorted : Bool → ℕ → Bool
  sorted ok i = ok && never_fall (record_at two c (i - 1)).0 (drop i (points n c))

  pub sorted-first : (o : Float) {a : Float} → 0 < n → a ≡ (record_at two c 0).0 → sorted_from o (points n c) ≡ sorted (Ieee.eq a o) 1
  unfolding sorted_from record_at
  sorted-first o h e = ap (sorted_from o) (points-more 0 h) ∙ rw e

  module _ (ok : Bool) (i : ℕ) where
    pub sorted_more : {a b : Float} → i < n → a ≡ (record_at two c (i - 1)).0 → b ≡ (record_at two c i).0 → sorted ok i ≡ sorted (ok && Ieee.le a b) (i + 1)
    unfolding never_fall record_at
    sorted_more h e f =
        let back : i + 1 - 1 ≡ i = omega arith in
        rw (points-more i h, e, f, back) (sym (and_assoc ok _ _))

    pub sorted-end : n ≤ i → sorted ok i ≡ ok
    unfolding never_fall
    sorted-end h =
        let g : length (points n c) ≤ i = omega (arith, length-points n c) in
        rw (drop_of_length-le (points n c) g) (and-true ok)
