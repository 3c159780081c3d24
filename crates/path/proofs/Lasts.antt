-- The last of a list, which goes with whatever else a call changes, and the sums and numbers of lists in two parts.
use Prim.Native.Nat.{ℕ, zero, suc, ◌+◌, ◌-◌, ◌<◌}
use native.Mathlib.Omega.{arith}
use mathlib.Core.Path.{◌≡◌, refl, sym, ap, ap₂, ◌∙◌}
use mathlib.Core.Bool.{Bool, true, false, ◌&&◌, and-true, and_assoc, or-false}
use mathlib.Core.List.{List, [], ◌∷◌, ◌++◌}
use lib.ListN.{length, get_or, set, take, drop, length-append, length-drop}
use lib.Seq.{get_or_at, get_or-drop, drop-nil}
use lib.Dec.{eqb}
use borrow.Author.Tests.{eq-eqb, ne_eqb}
use lib.Ieee.Scale.{finite}
use Rattle.ieee.specs.Number.{all_finite}
use Rattle.column.specs.Records.{flat}
use Rattle.lookup.specs.declared.path_res_coeff.PathResCoeff.{PathResCoeff}
use Rattle.lookup.specs.Coeff.{stands_at, closes_well}
use Rattle.link.specs.Lists.{every}
use Rattle.link.specs.Table.{PowerLimit}
use Rattle.link.proofs.Known.{and_both}
use Rattle.path.specs.declared.link_point.LinkPoint.{LinkPoint}
use Rattle.path.specs.Records.{number_of, link_point_at}
use Rattle.path.specs.Sound.{total, all_numbered, numbers_real}
use Rattle.path.proofs.Written.{values_finite, records_finite, power_numbers}

-- ---- the last of a list
module _ {A : Type 0} (d : A) where
  abbrev pub last_of : List A → A
  last_of l = get_or l (length l - 1) d

  pub last-next : (x y : A) (l : List A) → last_of (x ∷ y ∷ l) ≡ last_of (y ∷ l)
  last-next x y l =
      let i : length (x ∷ y ∷ l) - 1 ≡ suc (length (y ∷ l) - 1) = omega arith in
      ap (λ (k : ℕ). get_or (x ∷ y ∷ l) k d) i

  pub last_more : (l : List A) (x : A) → last_of (l ++ x ∷ []) ≡ x
  last_more l x = get_or_at l x [] d (length (l ++ x ∷ []) - 1) (omega (arith, length-append l (x ∷ [])))

  -- the one j before the end, of what is left without the first k
  pub from_end : (j k : ℕ) (l : List A) → k + j < length l → get_or (drop k l) (length (drop k l) - suc j) d ≡ get_or l (length l - suc j) d
  from_end j k l h = get_or-drop k l (length (drop k l) - suc j) d ∙ ap (λ (i : ℕ). get_or l i d) (omega (arith, length-drop k l))

-- ---- what every element passes
module _ {A : Type 0} (ok : A → Bool) where
  pub every_append : (xs ys : List A) → every ok (xs ++ ys) ≡ (every ok xs && every ok ys)
  unfolding every
  every_append [] ys = refl
  every_append (x ∷ xs) ys = ap (λ (b : Bool). ok x && b) (every_append xs ys) ∙ sym (and_assoc (ok x) (every ok xs) (every ok ys))

  pub every_take : (k : ℕ) (xs : List A) → every ok xs ≡ true → every ok (take k xs) ≡ true
  unfolding every
  every_take zero xs e = refl
  every_take (suc k) [] e = refl
  every_take (suc k) (x ∷ xs) e = let t = and_both (ok x) _ e in ap₂ ◌&&◌ t.0 (every_take k xs t.1)

  pub every_drop : (k : ℕ) (xs : List A) → every ok xs ≡ true → every ok (drop k xs) ≡ true
  unfolding every
  every_drop zero xs e = e
  every_drop (suc k) [] e = refl
  every_drop (suc k) (x ∷ xs) e = every_drop k xs (and_both (ok x) _ e).1

  pub every_set : (xs : List A) (i : ℕ) (a : A) → every ok xs ≡ true → ok a ≡ true → every ok (set xs i a) ≡ true
  unfolding every
  every_set [] i a e k = refl
  every_set (x ∷ xs) zero a e k = ap₂ ◌&&◌ k (and_both (ok x) _ e).1
  every_set (x ∷ xs) (suc i) a e k = let t = and_both (ok x) _ e in ap₂ ◌&&◌ t.0 (every_set xs i a t.1 k)

  pub every-last : (d : A) (xs : List A) → ok d ≡ true → every ok xs ≡ true → ok (last_of d xs) ≡ true
  unfolding every
  every-last d [] k e = k
  every-last d (x ∷ []) k e = (and_both (ok x) _ e).0
  every-last d (x ∷ y ∷ xs) k e = ap ok (last-next d x y xs) ∙ every-last d (y ∷ xs) k (and_both (ok x) _ e).1

-- ---- sums of counts
module _ (count : LinkPoint → ℕ) where
  pub total-append : (ps qs : List LinkPoint) → total count (ps ++ qs) ≡ total count ps + total count qs
  unfolding total
  total-append [] qs = omega arith
  total-append (p ∷ ps) qs = omega (arith, total-append ps qs)

  pub total-split : (k : ℕ) (ps : List LinkPoint) → total count ps ≡ total count (take k ps) + total count (drop k ps)
  unfolding total
  total-split zero ps = omega arith
  total-split (suc k) [] = omega arith
  total-split (suc k) (p ∷ ps) = omega (arith, total-split k ps)

-- ---- link numbers

-- two points or more, whose end point has the number before it
pub real-many : (ps : List LinkPoint) (n : ℕ) → length ps ≡ suc (suc n) → all_numbered ps ≡ true → number_of (link_point_at ps (suc n)) ≡ number_of (link_point_at ps n) → numbers_real ps ≡ true
unfolding numbers_real
real-many ps n e all alike =
    let many : eqb (length ps) 1 ≡ false = ne_eqb (length ps) 1 (λ k. omega arith) in
    let one : length ps - 1 ≡ suc n = omega arith in
    let two : length ps - 2 ≡ n = omega arith in
    rw (many, one, two, all) (eq-eqb (number_of (link_point_at ps (suc n))) (number_of (link_point_at ps n)) alike)

-- ---- finite records

-- a record whose three numbers are finite
abbrev pub whole_finite : PathResCoeff → Bool
whole_finite g = finite (stands_at g) && values_finite g

pub open-finite : (gs : List PathResCoeff) → records_finite false gs ≡ every whole_finite gs
unfolding records_finite every
open-finite [] = refl
open-finite (g ∷ []) = ap (λ (b : Bool). b && values_finite g) (or-false (finite (stands_at g))) ∙ sym (and-true (whole_finite g))
open-finite (g ∷ h ∷ gs) = ap (λ (b : Bool). whole_finite g && b) (open-finite (h ∷ gs))

-- one record more, which may close the list
pub close-finite : (closes : Bool) (gs : List PathResCoeff) (x : PathResCoeff) → every whole_finite gs ≡ true → (closes_well closes (stands_at x) && values_finite x) ≡ true → records_finite closes (gs ++ x ∷ []) ≡ true
unfolding records_finite every
close-finite closes [] x f e = e
close-finite closes (g ∷ []) x f e = ap₂ ◌&&◌ (and_both (whole_finite g) _ f).0 e
close-finite closes (g ∷ h ∷ gs) x f e = let t = and_both (whole_finite g) _ f in ap₂ ◌&&◌ t.0 (close-finite closes (h ∷ gs) x t.1 e)

pub drop-finite : (closes : Bool) (k : ℕ) (gs : List PathResCoeff) → records_finite closes gs ≡ true → records_finite closes (drop k gs) ≡ true
unfolding records_finite
drop-finite closes zero gs e = e
drop-finite closes (suc k) [] e = refl
drop-finite closes (suc k) (g ∷ []) e = ap (records_finite closes) (drop-nil k)
drop-finite closes (suc k) (g ∷ h ∷ gs) e = drop-finite closes k (h ∷ gs) (and_both (whole_finite g) _ e).1

pub drop-powers : (k : ℕ) (ls : List PowerLimit) → all_finite (power_numbers ls) ≡ true → all_finite (power_numbers (drop k ls)) ≡ true
unfolding all_finite flat
drop-powers zero ls e = e
drop-powers (suc k) [] e = refl
drop-powers (suc k) (l ∷ ls) e =
    let a = and_both (finite l.limit.start) _ e in
    let b = and_both (finite l.limit.end) _ a.1 in
    drop-powers k ls (and_both (finite l.limit.value) _ b.1).1
