-- Laws of zeros past the entries: filling and zeroing, one store at a time.
use Prim.Native.Nat.{ℕ, zero, suc, ◌+◌, ◌-◌, ◌≤◌, ◌<◌, min}
use native.Mathlib.Numerals.{add-one}
use native.Mathlib.Nat.{not-suc-le-zero, le_of_suc-le-suc}
use native.Mathlib.Omega.{arith}
use mathlib.Core.Path.{◌≡◌, refl, sym, ap, ◌∙◌}
use mathlib.Core.Logic.{inl, inr}
use mathlib.Core.List.{List, [], ◌∷◌, ◌++◌, append-nil, append_assoc, map}
use lib.ListN.{length, take, drop, get_or, set, replicate, length-append, length-set, length-take, length-replicate, take-append-drop}
use lib.Seq.{take-suc-set, take_all, take-length, drop-set-lt, set-append_seam}
use Rattle.ieee.proofs.Round.{split}
use Rattle.column.specs.Entries.{filled, zero_from, zero_range}

module _ {A : Type 0} where
  -- within a list the default does not matter
  pub get_d-within : (l : List A) (i : ℕ) (a b : A) → i < length l → get_or l i a ≡ get_or l i b
  get_d-within [] i a b h = absurd (not-suc-le-zero h)
  get_d-within (x ∷ l) zero a b h = refl
  get_d-within (x ∷ l) (suc i) a b h = get_d-within l i a b (le_of_suc-le-suc h)

  pub take_min : (n : ℕ) (l : List A) → take (min n (length l)) l ≡ take n l
  take_min n l = elim (split n (length l)) [
    | inl h ↦ let e : min n (length l) ≡ n = omega arith in rw e
    | inr h ↦ let e : min n (length l) ≡ length l = omega arith in rw e (take-length l ∙ sym (take_all n l h))
  ]

module _ {A : Type 0} (z : A) where
  -- ---- filled
  pub length-filled : (n : ℕ) (es : List A) → length es ≤ n → length (filled z n es) ≡ n
  unfolding filled
  length-filled n es h = length-append es (replicate (n - length es) z) ∙ omega (arith, length-replicate (n - length es) z)

  -- filled up again to where they were filled up
  pub filled-again : (n : ℕ) (es : List A) → filled z (length (filled z n es)) es ≡ filled z n es
  unfolding filled
  filled-again n es =
      let e : length (es ++ replicate (n - length es) z) - length es ≡ n - length es = omega (arith, length-append es (replicate (n - length es) z), length-replicate (n - length es) z) in
      ap (λ (k : ℕ). es ++ replicate k z) e

  -- ---- from a place to the end
  pub zero_is : (i : ℕ) (l : List A) → zero_from z i l ≡ take i l ++ replicate (length l - i) z
  unfolding zero_from filled
  zero_is i l =
      let e : length l - length (take i l) ≡ length l - i = omega (arith, length-take i l) in
      rw e

  -- nothing is left
  pub zero-none : (l : List A) (i : ℕ) → length l ≤ i → zero_from z i l ≡ l
  zero-none l i h =
      let e : length l - i ≡ 0 = omega arith in
      zero_is i l ∙ rw (e, take_all i l) (append-nil l)

  replicate_more : (a b m : ℕ) → a + b ≡ m → replicate a z ++ replicate b z ≡ replicate m z
  replicate_more zero b m h = let e : b ≡ m = omega arith in ap (λ (k : ℕ). replicate k z) e
  replicate_more (suc a) b m h =
      let e : m ≡ suc (a + b) = omega arith in
      ap (λ (l : List A). z ∷ l) (replicate_more a b (a + b) refl) ∙ ap (λ (k : ℕ). replicate k z) (sym e)

  -- all entries zeroed: zeros of any number, and zeros after them
  pub zeros-filled : (k : ℕ) (l : List A) → k ≤ length l → zero_from z 0 l ≡ filled z (length l) (replicate k z)
  unfolding filled
  zeros-filled k l h = zero_is 0 l ∙ sym (replicate_more k (length l - length (replicate k z)) (length l - 0) (omega (arith, length-replicate k z)))

  -- ---- a stretch
  -- one entry is zeroed, and the rest of the stretch is left to do
  pub range-more : (l : List A) (i to : ℕ) → i < to → i < length l → zero_range z (i + 1) to (set l i z) ≡ zero_range z i to l
  unfolding zero_range
  range-more l i to h k =
      let m = min to (length l) - (i + 1) in
      let e : min to (length l) - i ≡ suc m = omega arith in
      let f : i + suc m ≡ i + 1 + m = omega arith in
      let g : i < i + 1 + m = omega arith in
      rw (length-set, e, f, drop-set-lt (i + 1 + m) l i z, add-one, take-suc-set) (simp append_assoc)

  -- nothing of the stretch is left
  pub range_none : (l : List A) (i to : ℕ) → min to (length l) ≤ i → zero_range z i to l ≡ l
  unfolding zero_range
  range_none l i to h =
      let e : min to (length l) - i ≡ 0 = omega arith in
      let f : i + 0 ≡ i = omega arith in
      rw (e, f) (take-append-drop i l)

  -- a stretch that lies inside
  pub range_inside : (l : List A) (from to : ℕ) → from ≤ to → to ≤ length l → zero_range z from to l ≡ take from l ++ (replicate (to - from) z ++ drop to l)
  unfolding zero_range
  range_inside l from to h k =
      let e : min to (length l) ≡ to = omega arith in
      let f : from + (to - from) ≡ to = omega arith in
      rw (e, f)

-- one entry behind those of a filled list
pub push-entry : {A : Type 0} (z : A) (n : ℕ) (es : List A) (x : A) → length es < n → set (filled z n es) (length es) x ≡ filled z n (es ++ x ∷ [])
unfolding filled
push-entry z n es x h =
    let k = n - suc (length es) in
    let e : n - length es ≡ suc k = omega arith in
    let f : k ≡ n - length (es ++ x ∷ []) = omega (arith, length-append es (x ∷ [])) in
    ap (λ (j : ℕ). set (es ++ replicate j z) (length es) x) e
    ∙ set-append_seam es z (replicate k z) x
    ∙ sym (append_assoc es (x ∷ []) (replicate k z))
    ∙ ap (λ (j : ℕ). (es ++ x ∷ []) ++ replicate j z) f

-- one element replaced, and every one mapped
pub set-map : {A B : Type 0} (f : A → B) (l : List A) (i : ℕ) (y : A) → set (map f l) i (f y) ≡ map f (set l i y)
set-map f [] i y = refl
set-map f (x ∷ l) zero y = refl
set-map f (x ∷ l) (suc i) y = ap (λ (r : List _). f x ∷ r) (set-map f l i y)
