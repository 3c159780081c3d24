-- Counts of link points, one point more at a time, and the offsets of the records that they count.
use Prim.Native.Nat.{ℕ, zero, suc, ◌+◌, ◌*◌, ◌≤◌, ◌<◌, ◌^◌, ◌-◌}
use native.Mathlib.Nat.{le_of_suc-le-suc}
use native.Mathlib.Omega.{arith}
use mathlib.Core.Path.{◌≡◌, refl, sym, ap, ap₂, ◌∙◌}
use mathlib.Core.Bool.{Bool, true, false, ◌&&◌}
use mathlib.Core.List.{List, [], ◌∷◌}
use lib.ListN.{length, get_or, take}
use lib.Ieee.{Float}
use mir.Syntax.{w32, w64}
use mir.Val.{Fits}
use Rattle.column.specs.Records.{record_at, three}
use Rattle.column.proofs.ByEntry.{four-entries}
use Rattle.column.proofs.Bridge.{length-records, record-at}
use Rattle.lookup.specs.declared.path_res_coeff.PathResCoeff.{PathResCoeff}
use Rattle.lookup.specs.Coeff.{triple, coeffs, no_coeff, stands_at, offset_at}
use Rattle.lookup.proofs.Coeffs.{triple-lawful}
use Rattle.path.specs.declared.link_point.LinkPoint.{LinkPoint}
use Rattle.path.specs.Records.{offset_of, grade_count_of, curve_count_of, power_count_of, point_at, link_points, no_link_point, link_point_at, last_coeff}
use Rattle.path.specs.Sound.{total, totals, stands_there, count_of, first_at_offset}
use Rattle.path.proofs.Numbers.{take-links}
use Rattle.path.proofs.LinkPoints.{length-links, link_at, links_from, links-all, links-next, links-more, links-none}
use Rattle.link.specs.Lists.{up_from}
use Rattle.link.proofs.Loops.{range-more, range_none}

-- ---- the offset of record i of m
pub offset-of : (m : ℕ) (c : List Float) (i : ℕ) → i < m → offset_at (coeffs m c) i ≡ (record_at three c i).0
unfolding record_at
offset-of m c i h = ap stands_at (record-at triple triple-lawful m c i no_coeff h)

-- the last record
pub last-record : (m : ℕ) (col : List Float) → 0 < m → last_coeff (coeffs m col) ≡ record_at triple col (m - 1)
last-record m col h =
    ap (λ (k : ℕ). get_or (coeffs m col) (k - 1) no_coeff) (length-records triple triple-lawful m col)
    ∙ record-at triple triple-lawful m col (m - 1) no_coeff (omega arith)

-- ---- each count is an entry of a column of u32
pub counts-small :
    (os : List Float) (ns : List ℕ)
    → ((k : ℕ) → Fits w32 (get_or ns k 0))
    → (i : ℕ)
    → (grade_count_of (point_at os ns i) < 2 ^ 32) × (curve_count_of (point_at os ns i) < 2 ^ 32) × (power_count_of (point_at os ns i) < 2 ^ 32)
counts-small os ns known i = rw (four-entries ns i) ((known (4 * i)).fits, (known (4 * i + 1)).fits, (known (4 * i + 2)).fits)

-- ---- the sum of a count
module _ (count : LinkPoint → ℕ) (os : List Float) (ns : List ℕ) (n : ℕ) where
  -- s is the sum before point i
  abbrev pub Counted : ℕ → ℕ → Type 0
  Counted i s = s + total count (links_from os ns n i) ≡ total count (link_points n os ns)

  pub counted_none : Counted 0 0
  counted_none = omega (arith, ap (total count) (links-all os ns n))

  -- one point more
  pub counted-more : (i s : ℕ) {p : LinkPoint} → i < n → p ≡ point_at os ns i → Counted i s → Counted (i + 1) (s + count p)
  unfolding total
  counted-more i s h e sum = omega (arith, sum, ap (total count) (links-next os ns n i h e))

  -- every point
  pub counted-all : (i s : ℕ) → n ≤ i → Counted i s → s ≡ total count (link_points n os ns)
  unfolding total
  counted-all i s h sum = omega (arith, sum, ap (total count) (links-none os ns n i h))

  -- ---- a sum of small counts is small
  module _ (small : (i : ℕ) → count (point_at os ns i) < 2 ^ 32) where
    left-small : (k i : ℕ) → i + k ≡ n → total count (links_from os ns n i) ≤ k * 2 ^ 32
    unfolding total
    left-small zero i h = omega (arith, ap (total count) (links-none os ns n i (omega arith)))
    left-small (suc k) i h = omega (arith, ap (total count) (links-more os ns n i (omega arith)), small i, left-small k (i + 1) (omega arith))

    pub total-small : total count (link_points n os ns) ≤ n * 2 ^ 32
    total-small = omega (arith, ap (total count) (links-all os ns n), left-small n 0 (omega arith))

    pub counted-small : (i s : ℕ) → n ≤ 1025 → Counted i s → s < 2 ^ 43
    counted-small i s room sum = omega (arith, total-small, sum)

    pub counted-fits : (i s : ℕ) {p : LinkPoint} → n ≤ 1025 → i < n → p ≡ point_at os ns i → Counted i s → Fits w64 (s + count p)
    counted-fits i s room h e sum = record { fits = omega (arith, total-small, counted-more i s h e sum) }

-- ---- the sum of a count over a range
module _ (count : LinkPoint → ℕ) (at : ℕ → LinkPoint) (i end : ℕ) where
  pub range-total : i < end → total count (up_from at i (end - i)) ≡ count (at i) + total count (up_from at (i + 1) (end - (i + 1)))
  unfolding total
  range-total h = ap (total count) (range-more at i end h)

  pub range-total-end : end ≤ i → total count (up_from at i (end - i)) ≡ 0
  unfolding total
  range-total-end h = ap (total count) (range_none at i end h)

-- ---- the sum of figures that fit in a u32
pub total-bound : (count : LinkPoint → ℕ) (ps : List LinkPoint) → ((p : LinkPoint) → count p < 2 ^ 32) → total count ps ≤ length ps * 2 ^ 32
unfolding total
total-bound count [] h = omega arith
total-bound count (p ∷ ps) h = omega (arith, h p, total-bound count ps h)

-- ---- the first points
module _ (count : LinkPoint → ℕ) where
  pub total-fewer : (k : ℕ) (ps : List LinkPoint) → total count (take k ps) ≤ total count ps
  unfolding total
  total-fewer zero ps = omega arith
  total-fewer (suc k) [] = omega arith
  total-fewer (suc k) (p ∷ ps) = omega (arith, total-fewer k ps)

  pub total-next : (k : ℕ) (ps : List LinkPoint) → k < length ps → total count (take (suc k) ps) ≡ total count (take k ps) + count (link_point_at ps k)
  unfolding total
  total-next k [] h = absurd (omega arith)
  total-next zero (p ∷ ps) h = omega arith
  total-next (suc k) (p ∷ ps) h = omega (arith, total-next k ps (le_of_suc-le-suc h))

  module _ (os : List Float) (ns : List ℕ) where
    pub links-fewer : (k n : ℕ) → k ≤ n → total count (link_points k os ns) ≤ total count (link_points n os ns)
    links-fewer k n h = omega (arith, total-fewer k (link_points n os ns), ap (total count) (take-links k n os ns h))

    -- of one point more
    pub links-one-more : (k : ℕ) → total count (link_points (k + 1) os ns) ≡ total count (link_points k os ns) + count (point_at os ns k)
    links-one-more k =
        let ps = link_points (suc k) os ns in
        ap (λ (n : ℕ). total count (link_points n os ns)) (omega arith)
        ∙ ap (total count) (sym (take-links (suc k) (suc k) os ns (omega arith)))
        ∙ total-next k ps (omega (arith, length-links (suc k) os ns))
        ∙ ap₂ (λ (qs : List LinkPoint) (p : LinkPoint). total count qs + count p) (take-links k (suc k) os ns (omega arith)) (link_at (suc k) os ns k no_link_point (omega arith))

-- the counts of either kind, added up
pub count-of-totals : (curves : Bool) (ps : List LinkPoint) → count_of curves (totals ps) ≡ total (count_of curves) ps
unfolding totals
count-of-totals true ps = refl
count-of-totals false ps = refl

-- ---- each point's first record, record `at` for point i, at its offset
module _ (count : LinkPoint → ℕ) (gs : List PathResCoeff) (os : List Float) (ns : List ℕ) (n i at : ℕ) where
  pub first_more :
      {p : LinkPoint}
      → i < n
      → p ≡ point_at os ns i
      → first_at_offset count at (links_from os ns n i) gs ≡ (stands_there gs at (offset_of p) && first_at_offset count (at + count p) (links_from os ns n (i + 1)) gs)
  unfolding first_at_offset
  first_more h e = rw (links-next os ns n i h e)

  pub first-end : n ≤ i → first_at_offset count at (links_from os ns n i) gs ≡ true
  unfolding first_at_offset
  first-end h = rw (links-none os ns n i h)
