-- Grade and curve records in a column: the layout is lawful, an entry is a record's offset, question 1 entry by entry and record by record,
-- and a value that is finite.
use Prim.Native.Nat.{ℕ, suc, ◌+◌, ◌-◌, ◌*◌, ◌≤◌, ◌<◌}
use native.Mathlib.Omega.{arith}
use native.Mathlib.Nat.{add-zero}
use mathlib.Core.Path.{◌≡◌, refl, sym, ap, ap₂, ◌∙◌}
use mathlib.Core.Bool.{Bool, true, false, ◌&&◌, and-true}
use mathlib.Core.List.{List, [], ◌∷◌, ◌++◌}
use lib.ListN.{length, take, drop, get_or, drop_of_length-le}
use lib.Seq.{take_all, drop-cons, get_or-drop}
use lib.Ieee.{Float, nan, div, of_bits, binary64}
use lib.Ieee.Scale.{finite}
use lib.Dec.{T}
use Rattle.ieee.specs.Number.{+0, +∞, ◌⊖◌, ◌⊗◌, all_finite}
use Rattle.ieee.proofs.Finite.{add-finite-r, mul-finite-r}
use Rattle.column.specs.Records.{record_at, flat}
use Rattle.column.proofs.Filling.{get_d-within}
use Rattle.column.proofs.Bridge.{Lawful, length-records, record-at}
use Rattle.lookup.specs.declared.path_res_coeff.PathResCoeff.{PathResCoeff}
use Rattle.lookup.specs.Coeff.{res_coeff_record, triple, coeffs, no_coeff, coeff_at, stands_at, coefficient_of, net_of, offset_at, res_val, closes_well, closing_finite, coeffs_finite}

pub triple-lawful : Lawful triple
triple-lawful = record { length-pack = λ g. refl; unpack-pack = λ g l. refl; pack-unpack = back }
  where
    back : (l : List Float) → 3 ≤ length l → triple.pack (triple.unpack l) ≡ take 3 l
    back [] h = absurd (omega arith)
    back (a ∷ []) h = absurd (omega arith)
    back (a ∷ b ∷ []) h = absurd (omega arith)
    back (a ∷ b ∷ c ∷ l) h = refl

pub length-coeffs : (n : ℕ) (c : List Float) → length (coeffs n c) ≡ n
length-coeffs n c = length-records triple triple-lawful n c

-- a list that is the first n records of a column has n records
pub count-of : (n : ℕ) (c : List Float) (rs : List PathResCoeff) → coeffs n c ≡ rs → n ≡ length rs
count-of n c rs e = sym (length-coeffs n c) ∙ ap length e

-- 1.0 / 0.0
pub infinity : div binary64 (of_bits binary64 4607182418800017408) (of_bits binary64 0) ≡ +∞
unfolding div of_bits
infinity = refl

-- the three entries from 3 i on are record i
entry_at : (c : List Float) (i k : ℕ) → 3 * i + k < length c → get_or c (3 * i + k) nan ≡ get_or (drop (3 * i) c) k +0
entry_at c i k h = get_d-within c (3 * i + k) nan +0 h ∙ sym (get_or-drop (3 * i) c k +0)

pub coeff-entries :
    (n : ℕ) (c : List Float) (i : ℕ)
    → i < n
    → 3 * n ≤ length c
    → res_coeff_record (get_or c (3 * i) nan) (get_or c (3 * i + 1) nan) (get_or c (3 * i + 2) nan) ≡ coeff_at (coeffs n c) i
unfolding record_at
coeff-entries n c i h k =
    let first : get_or c (3 * i) nan ≡ get_or (drop (3 * i) c) 0 +0 = ap (λ (j : ℕ). get_or c j nan) (sym (add-zero (3 * i))) ∙ entry_at c i 0 (omega arith) in
    let second = entry_at c i 1 (omega arith) in
    let third = entry_at c i 2 (omega arith) in
    rw (first, second, third) (sym (record-at triple triple-lawful n c i no_coeff h))

-- the first of them is its offset
pub offset-entry : (n : ℕ) (c : List Float) (i : ℕ) → i < n → 3 * n ≤ length c → get_or c (3 * i) nan ≡ offset_at (coeffs n c) i
offset-entry n c i h k = ap stands_at (coeff-entries n c i h k)

-- ---- question 1
-- one record or more
finite-some : (closes : Bool) (n : ℕ) (c : List Float) → 0 < n → coeffs_finite closes n c ≡ (all_finite (take (3 * (n - 1)) c) && closing_finite closes (take 3 (drop (3 * (n - 1)) c)))
unfolding coeffs_finite
finite-some closes n c h =
    let e : n ≡ suc (n - 1) = omega arith in
    ap (λ (k : ℕ). coeffs_finite closes k c) e

-- the column ends before the last record
pub finite-short : (closes : Bool) (n : ℕ) (c : List Float) → 0 < n → length c ≤ 3 * (n - 1) → coeffs_finite closes n c ≡ all_finite c
unfolding closing_finite
finite-short closes n c h k =
    let m = 3 * (n - 1) in
    finite-some closes n c h
    ∙ ap₂ (λ (a b : List Float). all_finite a && closing_finite closes (take 3 b)) (take_all m c k) (drop_of_length-le c k)
    ∙ and-true (all_finite c)

-- the two entries after the last offset, as far as they are there
rest-finite : (l : List Float) → all_finite (take 2 l) ≡ (finite (get_or l 0 +0) && finite (get_or l 1 +0))
unfolding all_finite
rest-finite [] = refl
rest-finite (a ∷ []) = refl
rest-finite (a ∷ b ∷ l) = ap (λ (t : Bool). finite a && t) (and-true (finite b))

closing-entries : (closes : Bool) (c : List Float) (k : ℕ) → k < length c
    → closing_finite closes (take 3 (drop k c)) ≡ (closes_well closes (get_or c k nan) && (finite (get_or c (k + 1) +0) && finite (get_or c (k + 2) +0)))
unfolding closing_finite
closing-entries closes c k h =
    let r = drop (suc k) c in
    let a : get_or r 0 +0 ≡ get_or c (k + 1) +0 = get_or-drop (suc k) c 0 +0 ∙ ap (λ (j : ℕ). get_or c j +0) (omega arith) in
    let b : get_or r 1 +0 ≡ get_or c (k + 2) +0 = get_or-drop (suc k) c 1 +0 ∙ ap (λ (j : ℕ). get_or c j +0) (omega arith) in
    ap (λ (l : List Float). closing_finite closes (take 3 l)) (drop-cons c k nan h)
    ∙ ap (λ (t : Bool). closes_well closes (get_or c k nan) && t) (rest-finite r ∙ ap₂ (λ (x y : Float). finite x && finite y) a b)

-- the last record begins inside the column
pub finite-entries : (closes : Bool) (n : ℕ) (c : List Float) → 0 < n → 3 * (n - 1) < length c
    → coeffs_finite closes n c
    ≡ (all_finite (take (3 * (n - 1)) c) && (closes_well closes (get_or c (3 * (n - 1)) nan) && (finite (get_or c (3 * (n - 1) + 1) +0) && finite (get_or c (3 * (n - 1) + 2) +0))))
finite-entries closes n c h k = finite-some closes n c h ∙ ap (λ (b : Bool). all_finite (take (3 * (n - 1)) c) && b) (closing-entries closes c (3 * (n - 1)) k)

-- ---- question 1 of records side by side, with l behind them
regroup : (a b c x y : Bool) → ((a && (b && (c && x))) && y) ≡ ((a && (b && c)) && (x && y))
regroup true true true x y = refl
regroup true true false x y = refl
regroup true false c x y = refl
regroup false b c x y = refl

module _ (closes : Bool) (l : List Float) where
  pub finite-none : coeffs_finite closes 0 l ≡ true
  unfolding coeffs_finite
  finite-none = refl

  -- the last record, whose offset may be +infinity where the list closes so
  pub finite-last : (g : PathResCoeff) → coeffs_finite closes 1 (flat triple (g ∷ []) ++ l) ≡ (closes_well closes (stands_at g) && (finite (coefficient_of g) && finite (net_of g)))
  unfolding coeffs_finite closing_finite all_finite flat
  finite-last g = ap (λ (b : Bool). closes_well closes (stands_at g) && (finite (coefficient_of g) && b)) (and-true (finite (net_of g)))

  -- one that another follows
  pub finite-more : (g h : PathResCoeff) (gs : List PathResCoeff)
      → coeffs_finite closes (length (g ∷ h ∷ gs)) (flat triple (g ∷ h ∷ gs) ++ l)
      ≡ ((finite (stands_at g) && (finite (coefficient_of g) && finite (net_of g))) && coeffs_finite closes (length (h ∷ gs)) (flat triple (h ∷ gs) ++ l))
  unfolding coeffs_finite all_finite flat
  finite-more g h gs =
      let rest = flat triple (h ∷ gs) ++ l in
      let m = 3 * length gs in
      let e : 3 * suc (length gs) ≡ suc (suc (suc m)) = omega arith in
      let all = stands_at g ∷ coefficient_of g ∷ net_of g ∷ rest in
      ap (λ (k : ℕ). all_finite (take k all) && closing_finite closes (take 3 (drop k all))) e
      ∙ regroup (finite (stands_at g)) (finite (coefficient_of g)) (finite (net_of g)) (all_finite (take m rest)) (closing_finite closes (take 3 (drop m rest)))

-- ---- a value is finite only where every result on the way is
pub value-way : (g : PathResCoeff) (x : Float) → T (finite (res_val g x)) → T (finite (x ⊖ stands_at g)) × T (finite (coefficient_of g ⊗ (x ⊖ stands_at g)))
unfolding res_val
value-way g x t =
    let product = add-finite-r (net_of g) (coefficient_of g ⊗ (x ⊖ stands_at g)) t in
    (mul-finite-r (coefficient_of g) (x ⊖ stands_at g) product, product)
