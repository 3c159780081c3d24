-- How a pass over a range goes on: one element more, the first that fails, and none left.
use Rattle.std.proofs.Common.{◌≡◌, ℕ, zero, suc, ◌+◌, ◌-◌, ◌<◌, ◌≤◌, Bool, true, false, ◌&&◌, List, [], ◌∷◌, ◌++◌, map, length, get_or, take, drop, MatchOption, Option, zero-add, sym, refl, ap, ◌∙◌, ap₂, le_of_suc-le-suc, not-suc-le-zero, add-one, arith, Some, None}
use Rattle.std.specs.List.{list_all, range_with_len}
use mathlib.Core.Bool.{and_assoc, false≢true}
use Rattle.link.specs.Lists.{every, up_from, first_no, first_no_from}

module _ {A : Type 0} (at : ℕ → A) where
  -- ---- the range
  pub length-range : (start n : ℕ) → length (up_from at start n) ≡ n
  unfolding up_from
  length-range start zero = refl
  length-range start (suc n) = ap suc (length-range (suc start) n)

  pub range_at : (start n k : ℕ) (d : A) → k < n → get_or (up_from at start n) k d ≡ at (start + k)
  unfolding up_from
  range_at start zero k d h = absurd (not-suc-le-zero h)
  range_at start (suc n) zero d h = ap at (omega arith)
  range_at start (suc n) (suc k) d h = range_at (suc start) n k d (le_of_suc-le-suc h) ∙ ap at (omega arith)

  -- a range from `first` on, `count` long, by its end
  pub whole-range : (first count : ℕ) → up_from at first (first + count - first) ≡ up_from at first count
  whole-range first count = ap (up_from at first) (omega arith)

  -- one element more
  pub range-more : (i end : ℕ) → i < end → up_from at i (end - i) ≡ at i ∷ up_from at (i + 1) (end - (i + 1))
  unfolding up_from
  range-more i end h =
      let e : end - i ≡ suc (end - (i + 1)) = omega arith in
      ap (up_from at i) e ∙ ap (λ (k : ℕ). at i ∷ up_from at k (end - (i + 1))) (sym (add-one i))

  -- none left
  pub range_none : (i end : ℕ) → end ≤ i → up_from at i (end - i) ≡ []
  unfolding up_from
  range_none i end h =
      let e : end - i ≡ 0 = omega arith in
      ap (up_from at i) e

  -- ---- each element passes
  module _ (ok : A → Bool) (i end : ℕ) where
    pub every-pass : i < end → ok (at i) ≡ true → every ok (up_from at i (end - i)) ≡ every ok (up_from at (i + 1) (end - (i + 1)))
    unfolding every
    every-pass h t = rw (range-more i end h, t)

    pub every-fail : i < end → ok (at i) ≡ false → every ok (up_from at i (end - i)) ≡ false
    unfolding every
    every-fail h t = rw (range-more i end h, t)

    pub every-end : end ≤ i → every ok (up_from at i (end - i)) ≡ true
    unfolding every
    every-end h = rw (range_none i end h)

    -- one more, with an answer so far
    pub every_more : (so_far : Bool) → i < end → (so_far && every ok (up_from at i (end - i))) ≡ ((so_far && ok (at i)) && every ok (up_from at (i + 1) (end - (i + 1))))
    unfolding every
    every_more so_far h = rw (range-more i end h) (sym (and_assoc so_far (ok (at i)) _))

  -- ---- the first that does not pass
  module _ (ok : A → Bool) (i end : ℕ) where
    pub first-pass : i < end → ok (at i) ≡ true → first_no_from i (map ok (up_from at i (end - i))) ≡ first_no_from (i + 1) (map ok (up_from at (i + 1) (end - (i + 1))))
    unfolding first_no_from
    first-pass h t = rw (range-more i end h, t, add-one i)

    pub first-fail : i < end → ok (at i) ≡ false → first_no_from i (map ok (up_from at i (end - i))) ≡ Some i
    unfolding first_no_from
    first-fail h t = rw (range-more i end h, t)

    pub first-end : end ≤ i → first_no_from i (map ok (up_from at i (end - i))) ≡ None
    unfolding first_no_from
    first-end h = rw (range_none i end h)

-- ---- each element passes, as `all` asks them in turn
pub every-range : {A : Type 0} (at : ℕ → A) (ok : A → Bool) (first n : ℕ) → list_all (λ k. ok (at k)) (range_with_len first n) ≡ every ok (up_from at first n)
unfolding every up_from
every-range at ok first zero = refl
every-range at ok first (suc n) = ap (λ (b : Bool). ok (at first) && b) (ap (λ (k : ℕ). list_all (λ k. ok (at k)) (range_with_len k n)) (add-one first) ∙ every-range at ok (suc first) n)

-- ---- the first that does not pass, as a search over the positions finds it
module _ {A : Type 0} (at : ℕ → A) (ok : A → Bool) where
  abbrev PassBelow : ℕ → ℕ → Type 0
  PassBelow start end = (k : ℕ) → start ≤ k → k < end → ok (at k) ≡ true

  first-from : (start n : ℕ) (r : Option ℕ)
      → MatchOption r (PassBelow start (start + n)) (λ i. (start ≤ i) × (i < start + n) × (ok (at i) ≡ false) × PassBelow start i)
      → r ≡ first_no_from start (map ok (up_from at start n))
  unfolding first_no_from up_from
  first-from start zero None h = refl
  first-from start zero (Some i) h = absurd (omega (arith, h.0, h.1))
  first-from start (suc n) None h =
      rw (h start (omega arith) (omega arith)) (first-from (suc start) n None (λ k low high. h k (omega arith) (omega arith)))
  first-from start (suc n) (Some i) h =
      here (ok (at start)) refl (λ low. first-from (suc start) n (Some i) (low, omega (arith, h.1), h.2, λ k least most. h.3 k (omega arith) most))
    where
      here : (b : Bool) → ok (at start) ≡ b → (suc start ≤ i → Some i ≡ first_no_from (suc start) (map ok (up_from at (suc start) n))) → Some i ≡ first_no_from start (map ok (up_from at start (suc n)))
      here true e rest =
          let other : start ≡ i → ⊥ = λ q. false≢true (sym h.2 ∙ ap (λ (k : ℕ). ok (at k)) (sym q) ∙ e) in
          rw e (rest (omega (arith, h.0, other)))
      here false e rest =
          let not-before : start < i → ⊥ = λ l. false≢true (sym e ∙ h.3 start (omega arith) l) in
          rw e (ap Some (omega (arith, h.0, not-before)))

  pub first-found : (count : ℕ) (r : Option ℕ)
      → MatchOption r (PassBelow 0 count) (λ i. (0 ≤ i) × (i < count) × (ok (at i) ≡ false) × PassBelow 0 i)
      → r ≡ first_no (map ok (up_from at 0 count))
  first-found count r h = first-from 0 count r (rw zero-add h)

-- ---- parts of a range
module _ {A : Type 0} (at : ℕ → A) where
  pub take_range : (k n start : ℕ) → k ≤ n → take k (up_from at start n) ≡ up_from at start k
  unfolding up_from
  take_range zero n start h = refl
  take_range (suc k) zero start h = absurd (not-suc-le-zero h)
  take_range (suc k) (suc n) start h = ap (λ (l : List A). at start ∷ l) (take_range k n (suc start) (le_of_suc-le-suc h))

  pub drop-range : (s n start : ℕ) → s ≤ n → drop s (up_from at start n) ≡ up_from at (start + s) (n - s)
  unfolding up_from
  drop-range zero n start h =
      let a : start ≡ start + 0 = omega arith in
      let b : n ≡ n - 0 = omega arith in
      ap₂ (up_from at) a b
  drop-range (suc s) zero start h = absurd (not-suc-le-zero h)
  drop-range (suc s) (suc n) start h =
      let a : suc start + s ≡ start + suc s = omega arith in
      let b : n - s ≡ suc n - suc s = omega arith in
      drop-range s n (suc start) (le_of_suc-le-suc h) ∙ ap₂ (up_from at) a b

-- a range by its last element
pub range_last : {A : Type 0} (at : ℕ → A) (first k : ℕ) → up_from at first (suc k) ≡ up_from at first k ++ at (first + k) ∷ []
unfolding up_from
range_last at first zero = ap (λ (i : ℕ). at i ∷ []) (omega arith)
range_last at first (suc k) = ap (◌∷◌ (at first)) (range_last at (suc first) k ∙ ap (λ (i : ℕ). up_from at (suc first) k ++ at i ∷ []) (omega arith))

-- each element changed
pub map_range : {A B : Type 0} (f : A → B) (at : ℕ → A) (start n : ℕ) → map f (up_from at start n) ≡ up_from (λ k. f (at k)) start n
unfolding up_from
map_range f at start zero = refl
map_range f at start (suc n) = ap (λ l. f (at start) ∷ l) (map_range f at (suc start) n)

-- the range from i on, where p is element i
pub range-next : {A : Type 0} (at : ℕ → A) (i end : ℕ) → i < end → (p : A) → p ≡ at i → up_from at i (end - i) ≡ p ∷ up_from at (i + 1) (end - (i + 1))
range-next at i end h p e = range-more at i end h ∙ ap (λ x. x ∷ up_from at (i + 1) (end - (i + 1))) (sym e)
