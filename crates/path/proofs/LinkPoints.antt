-- Link points in their two columns: single ones, one more at a time, and read back as they were written.
use Prim.Native.Nat.{ℕ, zero, suc, ◌+◌, ◌-◌, ◌*◌, ◌≤◌, ◌<◌}
use native.Mathlib.Nat.{add-zero, sub-zero, not-suc-le-zero, le_of_suc-le-suc}
use native.Mathlib.Omega.{arith}
use mathlib.Core.Path.{◌≡◌, refl, sym, ap, ap₂, ◌∙◌}
use mathlib.Core.List.{List, [], ◌∷◌, ◌++◌, map}
use lib.ListN.{length, get_or, drop}
use lib.Seq.{get_or-drop, drop-drop}
use lib.Ieee.{Float, nan}
use Rattle.ieee.specs.Number.{+0}
use Rattle.column.specs.Records.{record_at, flat, four}
use Rattle.column.proofs.ByEntry.{four-entries}
use Rattle.column.proofs.Filling.{get_d-within}
use Rattle.path.specs.declared.link_point.LinkPoint.{LinkPoint}
use Rattle.path.specs.Records.{link_point, offset_of, four_of, point_at, link_points, no_link_point, link_point_at, end_point}

-- the first point of the columns from i on is point i
pub point-after : (os : List Float) (ns : List ℕ) (i : ℕ) → point_at (drop i os) (drop (4 * i) ns) 0 ≡ point_at os ns i
unfolding record_at
point-after os ns i =
    ap (λ (o : Float). link_point o (record_at four (drop (4 * i) ns) 0).0 (record_at four (drop (4 * i) ns) 0).1 (record_at four (drop (4 * i) ns) 0).2 (record_at four (drop (4 * i) ns) 0).3)
    (get_or-drop i os 0 +0 ∙ ap (λ (k : ℕ). get_or os k +0) (add-zero i))

pub length-links : (n : ℕ) (os : List Float) (ns : List ℕ) → length (link_points n os ns) ≡ n
unfolding link_points
length-links zero os ns = refl
length-links (suc n) os ns = ap suc (length-links n (drop 1 os) (drop 4 ns))

module _ (os : List Float) (ns : List ℕ) where
  -- ---- one point more at a time
  -- the points from i on
  abbrev pub links_from : ℕ → ℕ → List LinkPoint
  links_from n i = link_points (n - i) (drop i os) (drop (4 * i) ns)

  pub links-more : (n i : ℕ) → i < n → links_from n i ≡ point_at os ns i ∷ links_from n (i + 1)
  unfolding link_points
  links-more n i h =
      let e : n - i ≡ suc (n - (i + 1)) = omega arith in
      let f : 4 * i + 4 ≡ 4 * (i + 1) = omega arith in
      ap (λ (k : ℕ). link_points k (drop i os) (drop (4 * i) ns)) e
      ∙ ap₂ ◌∷◌ (point-after os ns i)
      (ap₂ (λ (a : List Float) (b : List ℕ). link_points (n - (i + 1)) a b) (drop-drop 1 i os) (drop-drop 4 (4 * i) ns ∙ ap (λ (k : ℕ). drop k ns) f))

  pub links-none : (n i : ℕ) → n ≤ i → links_from n i ≡ []
  unfolding link_points
  links-none n i h =
      let e : n - i ≡ 0 = omega arith in
      ap (λ (k : ℕ). link_points k (drop i os) (drop (4 * i) ns)) e

  pub links-all : (n : ℕ) → links_from n 0 ≡ link_points n os ns
  links-all n = ap (λ (k : ℕ). link_points k os ns) (sub-zero n)

  -- the points without the first d
  pub links-drop : (n d : ℕ) → d ≤ n → drop d (link_points n os ns) ≡ links_from n d
  links-drop n zero h = sym (links-all n)
  links-drop n (suc d) h =
      let e : suc d ≡ d + 1 = omega arith in
      ap (λ (k : ℕ). drop k (link_points n os ns)) e
      ∙ sym (drop-drop 1 d (link_points n os ns))
      ∙ ap (drop 1) (links-drop n d (omega arith) ∙ links-more n d (omega arith))
      ∙ ap (links_from n) (sym e)

  -- the points from i on, where p is point i
  pub links-next : (n i : ℕ) {p : LinkPoint} → i < n → p ≡ point_at os ns i → links_from n i ≡ p ∷ links_from n (i + 1)
  links-next n i h e = links-more n i h ∙ ap (λ (q : LinkPoint). q ∷ links_from n (i + 1)) (sym e)

-- ---- single points
-- by its entries
pub point-entries : (os : List Float) (ns : List ℕ) (i : ℕ) → i < length os → link_point (get_or os i nan) (get_or ns (4 * i) 0) (get_or ns (4 * i + 1) 0) (get_or ns (4 * i + 2) 0) (get_or ns (4 * i + 3) 0) ≡ point_at os ns i
point-entries os ns i h = rw (four-entries ns i, get_d-within os i nan +0 h)

point-next : (os : List Float) (ns : List ℕ) (i : ℕ) → point_at (drop 1 os) (drop 4 ns) i ≡ point_at os ns (suc i)
unfolding record_at
point-next os ns i =
    let e : 4 + 4 * i ≡ 4 * suc i = omega arith in
    let f : 1 + i ≡ suc i = omega arith in
    let o : get_or (drop 1 os) i +0 ≡ get_or os (suc i) +0 = get_or-drop 1 os i +0 ∙ ap (λ (k : ℕ). get_or os k +0) f in
    let q : drop (4 * i) (drop 4 ns) ≡ drop (4 * suc i) ns = drop-drop (4 * i) 4 ns ∙ ap (λ (k : ℕ). drop k ns) e in
    ap₂ (λ (x : Float) (l : List ℕ). link_point x (get_or l 0 0) (get_or l 1 0) (get_or l 2 0) (get_or l 3 0)) o q

pub link_at : (n : ℕ) (os : List Float) (ns : List ℕ) (i : ℕ) (d : LinkPoint) → i < n → get_or (link_points n os ns) i d ≡ point_at os ns i
unfolding link_points
link_at zero os ns i d h = absurd (not-suc-le-zero h)
link_at (suc n) os ns zero d h = refl
link_at (suc n) os ns (suc i) d h = link_at n (drop 1 os) (drop 4 ns) i d (le_of_suc-le-suc h) ∙ point-next os ns i

pub end-at : (n : ℕ) (os : List Float) (ns : List ℕ) → 0 < n → end_point (link_points n os ns) ≡ point_at os ns (n - 1)
end-at n os ns h = ap (λ (k : ℕ). link_point_at (link_points n os ns) (k - 1)) (length-links n os ns) ∙ link_at n os ns (n - 1) no_link_point (omega arith)

-- ---- what was written is read back
pub links-back : (ps : List LinkPoint) (xs : List Float) (ys : List ℕ) → link_points (length ps) (map offset_of ps ++ xs) (flat four (map four_of ps) ++ ys) ≡ ps
unfolding link_points flat record_at
links-back [] xs ys = refl
links-back (p ∷ ps) xs ys = ap (λ (l : List LinkPoint). p ∷ l) (links-back ps xs ys)
