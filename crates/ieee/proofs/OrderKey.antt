-- The place of a value in the order, as a natural number: of values that fit one format and are no NaN, `le`, `lt` and `eq` are `≤`, `<` and `≡` of their keys. So `omega` proves what follows from order alone.
use mathlib.Core.Path.{◌≡◌, refl, sym, ap, ap₂, ◌∙◌, subst, subst₂}
use mathlib.Core.Logic.{inl, inr, ◌↔◌}
use Prim.Native.Nat.{ℕ, zero, suc, ◌+◌, ◌-◌, ◌*◌, ◌/◌, ◌^◌, ◌≤◌, ◌<◌, min}
use native.Mathlib.Nat.{le_of_eq, lt_of_not-le, not-le_of_lt, le_antisymm, mul_comm, mul_assoc, mul_right_comm, add-mul, mul-le-mul_right, le_of_mul-le-mul_right, mul-div_cancel, mul-pos, zero-mul}
use native.Mathlib.Omega.{arith}
use mathlib.Core.Bool.{Bool, true, false, cond}
use lib.IntN.{ℤ}
use lib.Dec.{T, not_T}
use lib.Pow.{pow-add, pow_pos}
use lib.Ieee.{Float, nan, inf, fin, Format, binary64, emax, low, up, down, lt, le, eq, fits}
use lib.Ieee.Fits.{down_pos}
use lib.Ieee.Scale.{overflow}
use Rattle.ieee.proofs.Order.{plus, less, plus-mul, less-mul, le→cross, cross→le, le-real-l, le-real-r, le_antisym, eq→le, eq→ge, not-le, lt_not_le, lt-real-l, lt-real-r, eq-real-l, eq-real-r, inf-least, inf_greatest, lt-or-le, le_lt_trans, lt-le-trans}
use Rattle.ieee.proofs.Sizes.{smaller-l, smaller-r, size_fits, real-size}
use Rattle.ieee.proofs.Speed.{min_speed-size}
use Rattle.ieee.proofs.Round.{fit, shift, shifted, below-overflow}
use Rattle.ieee.specs.Number.{real, size}
use Rattle.ieee.specs.Speed.{smaller, min_speed}

-- the size of a finite value in units of the format's smallest value
abbrev pub count : Format → ℕ → ℤ → ℕ
count f m e = m * up e * 2 ^ low f / down e

unfoldable pub key : Format → Float → ℕ
key f nan = 0
key f (inf s) = cond s 0 (overflow f + overflow f)
key f (fin s m e) = cond s (overflow f - count f m e) (overflow f + count f m e)

-- of a value that fits the division is exact, and the size is below the overflow
pub count-exact : (f : Format) (s : Bool) (m : ℕ) (e : ℤ) → T (fits f (fin s m e)) → (count f m e * down e ≡ m * up e * 2 ^ low f) × (count f m e < overflow f)
count-exact f s zero e h =
    let z : 0 * up e * 2 ^ low f ≡ 0 * down e = simp zero-mul in
    let n : count f 0 e ≡ 0 = ap (λ (k : ℕ). k / down e) z ∙ mul-div_cancel 0 (down_pos e) in
    (ap (λ (k : ℕ). k * down e) n ∙ sym z, subst (λ (k : ℕ). k < overflow f) (sym n) (pow_pos (low f + suc (emax f))))
count-exact f s (suc m) e h =
    let k = fit f s m e h in
    let g = shift f e k.lowest in
    let z : suc m * up e * 2 ^ low f ≡ suc m * 2 ^ g.0 * down e = shifted (suc m) (up e) (down e) g.0 (2 ^ low f) g.1 in
    let n : count f (suc m) e ≡ suc m * 2 ^ g.0 = ap (λ (k : ℕ). k / down e) z ∙ mul-div_cancel (suc m * 2 ^ g.0) (down_pos e) in (
      ap (λ (k : ℕ). k * down e) n ∙ sym z,
      subst (λ (k : ℕ). k < overflow f) (sym n) (rw (pow-add 2 (low f) (suc (emax f))) (below-overflow (suc m) (up e) (down e) g.0 (2 ^ low f) (2 ^ suc (emax f)) (pow_pos (low f)) g.1 k.range)),
    )

-- ---- the order of two finite values, by their counts
pub common : (a n d l : ℕ) → n * d ≡ a * l → (s : Bool) → plus s a * l ≡ plus s n * d
common a n d l h s = sym (plus-mul s a l) ∙ ap (plus s) (sym h) ∙ plus-mul s n d

pub common' : (a n d l : ℕ) → n * d ≡ a * l → (s : Bool) → less s a * l ≡ less s n * d
common' a n d l h s = sym (less-mul s a l) ∙ ap (less s) (sym h) ∙ less-mul s n d

-- p / d in place of its count P: p * l ≡ P * d
to-counts : (p n d p' n' d' P N P' N' l : ℕ) → 0 < d → 0 < d' → 0 < l → p * l ≡ P * d → n * l ≡ N * d → p' * l ≡ P' * d' → n' * l ≡ N' * d' → (p * d' + n' * d ≤ p' * d + n * d') ↔ (P + N' ≤ P' + N)
to-counts p n d p' n' d' P N P' N' l D D' L e1 e2 e3 e4 =
    let a1 : p * d' * l ≡ P * (d * d') = mul_right_comm p d' l ∙ ap (λ (z : ℕ). z * d') e1 ∙ mul_assoc P d d' in
    let a2 : n * d' * l ≡ N * (d * d') = mul_right_comm n d' l ∙ ap (λ (z : ℕ). z * d') e2 ∙ mul_assoc N d d' in
    let a3 : p' * d * l ≡ P' * (d * d') = mul_right_comm p' d l ∙ ap (λ (z : ℕ). z * d) e3 ∙ mul_assoc P' d' d ∙ ap (λ (z : ℕ). P' * z) (mul_comm d' d) in
    let a4 : n' * d * l ≡ N' * (d * d') = mul_right_comm n' d l ∙ ap (λ (z : ℕ). z * d) e4 ∙ mul_assoc N' d' d ∙ ap (λ (z : ℕ). N' * z) (mul_comm d' d) in
    let b : (p * d' + n' * d) * l ≡ (P + N') * (d * d') = add-mul (p * d') (n' * d) l ∙ ap₂ ◌+◌ a1 a4 ∙ sym (add-mul P N' (d * d')) in
    let c : (p' * d + n * d') * l ≡ (P' + N) * (d * d') = add-mul (p' * d) (n * d') l ∙ ap₂ ◌+◌ a3 a2 ∙ sym (add-mul P' N (d * d')) in (
      λ h. le_of_mul-le-mul_right (subst₂ (λ (x y : ℕ). x ≤ y) b c (mul-le-mul_right l h)) (mul-pos D D'),
      λ h. le_of_mul-le-mul_right (subst₂ (λ (x y : ℕ). x ≤ y) (sym b) (sym c) (mul-le-mul_right (d * d') h)) L,
    )

pub by-counts : (f : Format) (s : Bool) (m : ℕ) (e : ℤ) (t : Bool) (n : ℕ) (d : ℤ) → T (fits f (fin s m e)) → T (fits f (fin t n d)) → T (le (fin s m e) (fin t n d)) ↔ (plus s (count f m e) + less t (count f n d) ≤ plus t (count f n d) + less s (count f m e))
by-counts f s m e t n d p q =
    let l = 2 ^ low f in
    let g = (count-exact f s m e p).0 in
    let h = (count-exact f t n d q).0 in
    let k = to-counts (plus s (m * up e)) (less s (m * up e)) (down e) (plus t (n * up d)) (less t (n * up d)) (down d) (plus s (count f m e)) (less s (count f m e)) (plus t (count f n d)) (less t (count f n d)) l
    (down_pos e) (down_pos d) (pow_pos (low f)) (common (m * up e) (count f m e) (down e) l g s) (common' (m * up e) (count f m e) (down e) l g s) (common (n * up d) (count f n d) (down d) l h t) (common' (n * up d) (count f n d) (down d) l h t) in
    (λ x. k.0 (le→cross (fin s m e) (fin t n d) tt tt x), λ x. cross→le (fin s m e) (fin t n d) tt tt (k.1 x))

placed : (s t : Bool) (a b v : ℕ) → a < v → b < v → (plus s a + less t b ≤ plus t b + less s a) ↔ (cond s (v - a) (v + a) ≤ cond t (v - b) (v + b))
placed true true a b v A B = (λ h. omega arith, λ h. omega arith)
placed true false a b v A B = (λ h. omega arith, λ h. omega arith)
placed false true a b v A B = (λ h. omega arith, λ h. omega arith)
placed false false a b v A B = (λ h. omega arith, λ h. omega arith)

key-fin : (f : Format) (s : Bool) (m : ℕ) (e : ℤ) (t : Bool) (n : ℕ) (d : ℤ) → T (fits f (fin s m e)) → T (fits f (fin t n d)) → T (le (fin s m e) (fin t n d)) ↔ (key f (fin s m e) ≤ key f (fin t n d))
unfolding key
key-fin f s m e t n d p q =
    let a = by-counts f s m e t n d p q in
    let b = placed s t (count f m e) (count f n d) (overflow f) (count-exact f s m e p).1 (count-exact f t n d q).1 in
    (λ x. b.0 (a.0 x), λ x. a.1 (b.1 x))

key-range : (f : Format) (s : Bool) (m : ℕ) (e : ℤ) → T (fits f (fin s m e)) → (0 < key f (fin s m e)) × (key f (fin s m e) < overflow f + overflow f)
unfolding key
key-range f s m e h = go s (count f m e) (overflow f) (count-exact f s m e h).1
  where
    go : (s : Bool) (a v : ℕ) → a < v → (0 < cond s (v - a) (v + a)) × (cond s (v - a) (v + a) < v + v)
    go true a v A = (omega arith, omega arith)
    go false a v A = (omega arith, omega arith)

key-least : (f : Format) → key f (inf true) ≡ 0
unfolding key
key-least f = refl

key-greatest : (f : Format) → key f (inf false) ≡ overflow f + overflow f
unfolding key
key-greatest f = refl

pub key-le : (f : Format) (x y : Float) → T (fits f x) → T (fits f y) → T (real x) → T (real y) → T (le x y) ↔ (key f x ≤ key f y)
key-le f nan y h k p q = absurd p
key-le f (inf s) nan h k p q = absurd q
key-le f (fin s m e) nan h k p q = absurd q
key-le f (inf true) (inf t) h k p q = (λ l. omega (arith, key-least f), λ l. inf-least (inf t) tt)
key-le f (inf true) (fin t n d) h k p q = (λ l. omega (arith, key-least f), λ l. inf-least (fin t n d) tt)
key-le f (inf false) (inf true) h k p q = (λ l. let z : ⊥ = unfold le in l in absurd z, λ l. let z : ⊥ = omega (arith, key-least f, key-greatest f, pow_pos (low f + suc (emax f))) in absurd z)
key-le f (inf false) (inf false) h k p q = (λ l. omega arith, λ l. inf-least' tt)
  where
    inf-least' : Unit {0} → T (le (inf false) (inf false))
    inf-least' u = unfold le in tt
key-le f (inf false) (fin t n d) h k p q = (λ l. let z : ⊥ = unfold le in l in absurd z, λ l. let z : ⊥ = omega (arith, key-greatest f, key-range f t n d k) in absurd z)
key-le f (fin s m e) (inf true) h k p q = (λ l. let z : ⊥ = unfold le in l in absurd z, λ l. let z : ⊥ = omega (arith, key-least f, key-range f s m e h) in absurd z)
key-le f (fin s m e) (inf false) h k p q = (λ l. omega (arith, key-greatest f, key-range f s m e h), λ l. inf_greatest (fin s m e) tt)
key-le f (fin s m e) (fin t n d) h k p q = key-fin f s m e t n d h k

-- ---- in the forms that `omega` takes: `omega (arith, lt→key f x y h k l)`
module _ (f : Format) (x y : Float) (h : T (fits f x)) (k : T (fits f y)) where
  pub le→key : T (le x y) → key f x ≤ key f y
  le→key l = (key-le f x y h k (le-real-l x y l) (le-real-r x y l)).0 l

  pub lt→key : T (lt x y) → key f x < key f y
  lt→key l =
      let p = lt-real-l x y l in
      let q = lt-real-r x y l in
      lt_of_not-le λ g. lt_not_le x y l ((key-le f y x k h q p).1 g)

  pub eq→key : T (eq x y) → key f x ≡ key f y
  eq→key l = le_antisymm (le→key (eq→le x y l)) ((key-le f y x k h (eq-real-r x y l) (eq-real-l x y l)).0 (eq→ge x y l))

  module _ (p : T (real x)) (q : T (real y)) where
    pub key→le : key f x ≤ key f y → T (le x y)
    key→le l = (key-le f x y h k p q).1 l

    pub key→lt : key f x < key f y → T (lt x y)
    key→lt l = not-le y x q p (not_T (le y x) λ g. not-le_of_lt l ((key-le f y x k h q p).0 g))

    pub key→eq : key f x ≡ key f y → T (eq x y)
    key→eq l = le_antisym x y (key→le (le_of_eq l)) ((key-le f y x k h q p).1 (le_of_eq (sym l)))

-- ---- the smaller of two has the smaller key, and `omega` reads `min`
pub key-smaller : (f : Format) (x y : Float) → T (fits f x) → T (fits f y) → T (real x) → T (real y) → key f (smaller x y) ≡ min (key f x) (key f y)
key-smaller f x y h k p q = elim (lt-or-le y x q p) [
  | inl l ↦ rw (smaller-r x y l) (omega (arith, lt→key f y x k h l))
  | inr l ↦ rw (smaller-l x y l) (omega (arith, le→key f x y h k l))
]

pub key-speed : (f : Format) (a b : Float) → T (fits f a) → T (fits f b) → T (real a) → T (real b) → key f (size (min_speed a b)) ≡ min (key f (size a)) (key f (size b))
key-speed f a b h k p q = rw (min_speed-size a b) (key-smaller f (size a) (size b) (size_fits f a h) (size_fits f b k) (rw real-size p) (rw real-size q))

-- a chain of mixed tests, the quick way
example : (x y z w : Float) → T (fits binary64 x) → T (fits binary64 y) → T (fits binary64 z) → T (fits binary64 w) → T (real x) → T (real w) → T (le x y) → T (lt y z) → T (le z w) → T (lt x w)
example x y z w a b c d p q h k l = key→lt binary64 x w a d p q (omega (arith, le→key binary64 x y a b h, lt→key binary64 y z b c k, le→key binary64 z w c d l))

-- the same with no format, by search
example' : (x y z w : Float) → T (le x y) → T (lt y z) → T (le z w) → T (lt x w)
example' x y z w h k l = search (le_lt_trans, lt-le-trans)
