-- The size of a float, which is the number without its sign; the smaller of two; and `min_speed`, the smaller size, negative where one of the two is.
use mathlib.Core.Path.{◌≡◌, refl, sym, ap, ap₂, ◌∙◌, subst}
use mathlib.Core.Logic.{◌⊎◌, inl, inr}
use Prim.Native.Nat.{ℕ, zero, suc, ◌+◌, ◌*◌, ◌≤◌}
use native.Mathlib.Nat.{zero-lt-suc, add_comm}
use native.Mathlib.Omega.{arith}
use mathlib.Core.Bool.{Bool, true, false, not, ◌&&◌, ◌||◌, beq, cond}
use lib.IntN.{ℤ}
use lib.Dec.{T, ltb, eqb, eqb→eq, not_T}
use lib.Ieee.{Float, nan, inf, fin, Format, up, down, level, below, neg, lt, le, eq, fits}
use lib.Ieee.Fits.{up_pos, eq→eqb, and_i, and_l}
use lib.Ieee.Bits.{is_true, is_false, cond_no}
use Rattle.ieee.proofs.Order.{or_split, bool-ext, le_trans, le_refl, lt→le, lt_not_le, le_antisym, eq-sym, eq_trans, eq_refl, lt_trans, of-true, le-real-l, le-real-r, lt-or-le, eq-cong, cross→le, le→cross, pos-part, neg-part}
use Rattle.ieee.proofs.Same.{eq-zero, zero-of-product}
use Rattle.ieee.specs.Number.{real, sign, is_zero, zero_of, size}
use Rattle.ieee.specs.Speed.{smaller}

-- ---- sign, size and negation as data
pub neg-neg : (x : Float) → neg (neg x) ≡ x
unfolding neg
neg-neg nan = refl
neg-neg (inf true) = refl
neg-neg (inf false) = refl
neg-neg (fin true m e) = refl
neg-neg (fin false m e) = refl

pub size-size : (x : Float) → size (size x) ≡ size x
size-size nan = refl
size-size (inf s) = refl
size-size (fin s m e) = refl

pub size-neg : (x : Float) → size (neg x) ≡ size x
unfolding neg
size-neg nan = refl
size-neg (inf s) = refl
size-neg (fin s m e) = refl

pub sign-size : (x : Float) → sign (size x) ≡ false
sign-size nan = refl
sign-size (inf s) = refl
sign-size (fin s m e) = refl

pub sign-neg : (x : Float) → T (real x) → sign (neg x) ≡ not (sign x)
unfolding neg
sign-neg nan p = absurd p
sign-neg (inf s) p = refl
sign-neg (fin s m e) p = refl

-- a value is its sign and its size
pub restore : (x : Float) → cond (sign x) (neg (size x)) (size x) ≡ x
unfolding neg
restore nan = refl
restore (inf true) = refl
restore (inf false) = refl
restore (fin true m e) = refl
restore (fin false m e) = refl

pub size-clear : (x : Float) → sign x ≡ false → size x ≡ x
size-clear x h = ap (λ (b : Bool). cond b (neg (size x)) (size x)) (sym h) ∙ restore x

pub size-set : (x : Float) → sign x ≡ true → size x ≡ neg x
size-set x h = sym (neg-neg (size x)) ∙ ap neg (ap (λ (b : Bool). cond b (neg (size x)) (size x)) (sym h) ∙ restore x)

pub by_parts : (x y : Float) → sign x ≡ sign y → size x ≡ size y → x ≡ y
by_parts x y h k = sym (restore x) ∙ ap₂ (λ (b : Bool) (z : Float). cond b (neg z) z) h k ∙ restore y

pub real-size : (x : Float) → real (size x) ≡ real x
real-size nan = refl
real-size (inf s) = refl
real-size (fin s m e) = refl

pub real-neg : (x : Float) → real (neg x) ≡ real x
unfolding neg
real-neg nan = refl
real-neg (inf s) = refl
real-neg (fin s m e) = refl

pub zero-size : (x : Float) → is_zero (size x) ≡ is_zero x
zero-size nan = refl
zero-size (inf s) = refl
zero-size (fin s m e) = refl

pub size_fits : (f : Format) (x : Float) → T (fits f x) → T (fits f (size x))
unfolding fits
size_fits f nan h = tt
size_fits f (inf s) h = tt
size_fits f (fin s zero e) h = h
size_fits f (fin s (suc m) e) h = h

-- ---- negation turns the order round
below-neg : (s : Bool) (a : ℕ) (t : Bool) (b : ℕ) → below (not s) a (not t) b ≡ below t b s a
below-neg false a false b = refl
below-neg false a true b = ap (ltb 0) (add_comm a b)
below-neg true a false b = refl
below-neg true a true b = refl

pub lt-neg : (x y : Float) → lt (neg x) (neg y) ≡ lt y x
unfolding lt neg
lt-neg nan nan = refl
lt-neg nan (inf t) = refl
lt-neg nan (fin t n d) = refl
lt-neg (inf s) nan = refl
lt-neg (inf true) (inf true) = refl
lt-neg (inf true) (inf false) = refl
lt-neg (inf false) (inf true) = refl
lt-neg (inf false) (inf false) = refl
lt-neg (inf s) (fin t n d) = refl
lt-neg (fin s m e) nan = refl
lt-neg (fin s m e) (inf true) = refl
lt-neg (fin s m e) (inf false) = refl
lt-neg (fin s m e) (fin t n d) = below-neg s (m * up e * down d) t (n * up d * down e)

beq-not : (s t : Bool) → beq (not s) (not t) ≡ beq s t
beq-not true true = refl
beq-not true false = refl
beq-not false true = refl
beq-not false false = refl

pub eq-neg : (x y : Float) → eq (neg x) (neg y) ≡ eq x y
unfolding eq neg
eq-neg nan y = refl
eq-neg (inf s) nan = refl
eq-neg (inf s) (inf t) = beq-not s t
eq-neg (inf s) (fin t n d) = refl
eq-neg (fin s m e) nan = refl
eq-neg (fin s m e) (inf t) = refl
eq-neg (fin s m e) (fin t n d) = ap (λ (b : Bool). eqb (m * up e * down d) (n * up d * down e) && (b || eqb (m * up e * down d) 0)) (beq-not s t)

-- ---- the order by signs and sizes
-- `0.0 <= x`
le-zero-fin : (s t : Bool) (m : ℕ) (e : ℤ) → le (zero_of s) (fin t m e) ≡ (not t || eqb m 0)
le-zero-fin s false m e = is_true (le (zero_of s) (fin false m e)) (cross→le (zero_of s) (fin false m e) tt tt (go s))
  where
    go : (s : Bool) → pos-part (zero_of s) * down e + 0 * 1 ≤ m * up e * 1 + neg-part (zero_of s) * down e
    go true = omega arith
    go false = omega arith
le-zero-fin s true m e =
    bool-ext (le (zero_of s) (fin true m e)) (eqb m 0)
    (λ h. eq→eqb (zero-of-product m (up e) 1 (up_pos e) (zero-lt-suc 0) (go s (le→cross (zero_of s) (fin true m e) tt tt h))))
    (λ h. cross→le (zero_of s) (fin true m e) tt tt (og s (eqb→eq m 0 h)))
  where
    go : (s : Bool) → pos-part (zero_of s) * down e + m * up e * 1 ≤ 0 * 1 + neg-part (zero_of s) * down e → m * up e * 1 ≡ 0
    go true h = omega arith
    go false h = omega arith

    og : (s : Bool) → m ≡ 0 → pos-part (zero_of s) * down e + m * up e * 1 ≤ 0 * 1 + neg-part (zero_of s) * down e
    og true z = rw z (omega arith)
    og false z = rw z (omega arith)

pub le-zero : (x : Float) (s : Bool) → T (real x) → le (zero_of s) x ≡ (not (sign x) || is_zero x)
le-zero nan s p = absurd p
le-zero (inf true) s p = unfold le in refl
le-zero (inf false) s p = unfold le in refl
le-zero (fin t m e) s p = le-zero-fin s t m e

-- what is not negative has its sign clear, or is a zero: then it is its own size, as a number
pub size-nonneg : (x : Float) (s : Bool) → T (real x) → T (le (zero_of s) (size x))
size-nonneg x s p = of-true (le-zero (size x) s (rw real-size p) ∙ ap (λ (b : Bool). not b || is_zero (size x)) (sign-size x))

pub eq-size : (x : Float) → T (real x) → T (not (sign x) || is_zero x) → T (eq (size x) x)
eq-size x p h = elim (or_split (not (sign x)) (is_zero x) h) [
  | inl c ↦ subst (λ (z : Float). T (eq z x)) (sym (size-clear x (is_false (sign x) c))) (eq_refl x p)
  | inr z ↦ eq_trans (size x) (zero_of false) x (of-true (eq-zero (size x) false ∙ zero-size x ∙ is_true (is_zero x) z)) (eq-sym x (zero_of false) (of-true (eq-zero x false ∙ is_true (is_zero x) z)))
]

pub nonneg-size : (x : Float) (s : Bool) → T (le (zero_of s) x) → T (eq (size x) x)
nonneg-size x s h = let p = le-real-r (zero_of s) x h in eq-size x p (subst T (le-zero x s p) h)

level-size : (s : Bool) (a : ℕ) (t : Bool) (b : ℕ) → T (level s a t b) → T (level false a false b)
level-size s a t b h = and_i (eqb a b) true (and_l (eqb a b) (beq s t || eqb a 0) h) tt

level-sign : (s : Bool) (a b : ℕ) → T (level false a false b) → T (level s a s b)
level-sign true a b h = h
level-sign false a b h = h

pub size-cong : (x y : Float) → T (eq x y) → T (eq (size x) (size y))
unfolding eq
size-cong nan y h = absurd h
size-cong (inf s) nan h = absurd h
size-cong (inf s) (inf t) h = tt
size-cong (inf s) (fin t n d) h = absurd h
size-cong (fin s m e) nan h = absurd h
size-cong (fin s m e) (inf t) h = absurd h
size-cong (fin s m e) (fin t n d) h = level-size s (m * up e * down d) t (n * up d * down e) h

-- equal sizes and one sign
pub eq-by-parts : (x y : Float) → sign x ≡ sign y → T (eq (size x) (size y)) → T (eq x y)
unfolding eq
eq-by-parts nan y g h = absurd h
eq-by-parts (inf s) nan g h = absurd h
eq-by-parts (inf s) (inf t) g h = subst (λ (b : Bool). T (beq s b)) g (own s)
  where
    own : (s : Bool) → T (beq s s)
    own true = tt
    own false = tt
eq-by-parts (inf s) (fin t n d) g h = absurd h
eq-by-parts (fin s m e) nan g h = absurd h
eq-by-parts (fin s m e) (inf t) g h = absurd h
eq-by-parts (fin s m e) (fin t n d) g h = subst (λ (b : Bool). T (level s (m * up e * down d) b (n * up d * down e))) g (level-sign s (m * up e * down d) (n * up d * down e) h)

pub eq-zeros : (x y : Float) → T (is_zero x) → T (is_zero y) → T (eq x y)
eq-zeros x y p q = eq_trans x (zero_of false) y (of-true (eq-zero x false ∙ is_true (is_zero x) p)) (eq-sym y (zero_of false) (of-true (eq-zero y false ∙ is_true (is_zero y) q)))

pub zero-cong : (x y : Float) → T (eq x y) → is_zero x ≡ is_zero y
zero-cong x y h = sym (eq-zero x false) ∙ eq-cong x y (zero_of false) (zero_of false) h (unfold eq in tt) ∙ eq-zero y false

-- ---- the smaller of two, the first where they are equal
pub smaller-is : (x y : Float) → (smaller x y ≡ x) ⊎ (smaller x y ≡ y)
unfolding smaller
smaller-is x y = go (lt y x)
  where
    go : (b : Bool) → (cond b y x ≡ x) ⊎ (cond b y x ≡ y)
    go true = inr refl
    go false = inl refl

-- what it is, by the order
pub smaller-l : (x y : Float) → T (le x y) → smaller x y ≡ x
unfolding smaller
smaller-l x y h = cond_no (lt y x) y x (not_T (lt y x) λ l. lt_not_le y x l h)

pub smaller-r : (x y : Float) → T (lt y x) → smaller x y ≡ y
unfolding smaller
smaller-r x y h = ap (λ (b : Bool). cond b y x) (is_true (lt y x) h)

pub smaller-idem : (x : Float) → smaller x x ≡ x
smaller-idem x = elim (smaller-is x x) [ inl e ↦ e | inr e ↦ e ]

module _ (x y : Float) (p : T (real x)) (q : T (real y)) where
  pub smaller-le-l : T (le (smaller x y) x)
  smaller-le-l = elim (lt-or-le y x q p) [
    | inl l ↦ rw (smaller-r x y l) (lt→le y x l)
    | inr l ↦ rw (smaller-l x y l) (le_refl x p)
  ]

  pub smaller-le-r : T (le (smaller x y) y)
  smaller-le-r = elim (lt-or-le y x q p) [
    | inl l ↦ rw (smaller-r x y l) (le_refl y q)
    | inr l ↦ rw (smaller-l x y l) l
  ]

  pub real-smaller : T (real (smaller x y))
  real-smaller = elim (smaller-is x y) [ inl e ↦ rw e p | inr e ↦ rw e q ]

pub smaller-glb : (z x y : Float) → T (le z x) → T (le z y) → T (le z (smaller x y))
smaller-glb z x y h k = elim (smaller-is x y) [ inl e ↦ rw e h | inr e ↦ rw e k ]

pub smaller-mono : (x x' y y' : Float) → T (le x x') → T (le y y') → T (le (smaller x y) (smaller x' y'))
smaller-mono x x' y y' h k =
    let p = le-real-l x x' h in
    let q = le-real-l y y' k in
    smaller-glb (smaller x y) x' y' (le_trans (smaller x y) x x' (smaller-le-l x y p q) h) (le_trans (smaller x y) y y' (smaller-le-r x y p q) k)

pub smaller-comm : (x y : Float) → T (real x) → T (real y) → T (eq (smaller x y) (smaller y x))
smaller-comm x y p q =
    le_antisym (smaller x y) (smaller y x)
    (smaller-glb (smaller x y) y x (smaller-le-r x y p q) (smaller-le-l x y p q))
    (smaller-glb (smaller y x) x y (smaller-le-r y x q p) (smaller-le-l y x q p))

-- the same, and not only equal as numbers: of equal ones it is the first either way
pub smaller-assoc : (x y z : Float) → T (real x) → T (real y) → T (real z) → smaller (smaller x y) z ≡ smaller x (smaller y z)
smaller-assoc x y z p q r = elim (lt-or-le y x q p) [
  | inl yx ↦ elim (lt-or-le z y r q) [
    | inl zy ↦ ap (λ (w : Float). smaller w z) (smaller-r x y yx) ∙ smaller-r y z zy ∙ sym (ap (smaller x) (smaller-r y z zy) ∙ smaller-r x z (lt_trans z y x zy yx))
    | inr yz ↦ ap (λ (w : Float). smaller w z) (smaller-r x y yx) ∙ smaller-l y z yz ∙ sym (ap (smaller x) (smaller-l y z yz) ∙ smaller-r x y yx)
  ]
  | inr xy ↦ elim (lt-or-le z y r q) [
    | inl zy ↦ ap (λ (w : Float). smaller w z) (smaller-l x y xy) ∙ sym (ap (smaller x) (smaller-r y z zy))
    | inr yz ↦ ap (λ (w : Float). smaller w z) (smaller-l x y xy) ∙ smaller-l x z (le_trans x y z xy yz) ∙ sym (ap (smaller x) (smaller-l y z yz) ∙ smaller-l x y xy)
  ]
]

pub smaller-fits : (f : Format) (x y : Float) → T (fits f x) → T (fits f y) → T (fits f (smaller x y))
smaller-fits f x y p q = elim (smaller-is x y) [ inl e ↦ rw e p | inr e ↦ rw e q ]

pub le-neg : (x y : Float) → le (neg x) (neg y) ≡ le y x
unfolding le
le-neg x y = ap₂ ◌||◌ (lt-neg x y) (eq-neg x y ∙ eq_flip x y)
  where
    eq_flip : (x y : Float) → eq x y ≡ eq y x
    eq_flip x y = bool-ext (eq x y) (eq y x) (eq-sym x y) (eq-sym y x)

neg-zero : (s : Bool) → neg (zero_of (not s)) ≡ zero_of s
unfolding neg
neg-zero true = refl
neg-zero false = refl

pub zero-neg : (x : Float) → is_zero (neg x) ≡ is_zero x
unfolding neg
zero-neg nan = refl
zero-neg (inf s) = refl
zero-neg (fin s m e) = refl

not-not : (s : Bool) → not (not s) ≡ s
not-not true = refl
not-not false = refl

-- `x <= 0.0`
pub ge-zero : (x : Float) (s : Bool) → T (real x) → le x (zero_of s) ≡ (sign x || is_zero x)
ge-zero x s p =
    ap₂ le (sym (neg-neg x)) (sym (neg-zero s))
    ∙ le-neg (neg x) (zero_of (not s))
    ∙ le-zero (neg x) (not s) (rw real-neg p)
    ∙ ap₂ (λ (b z : Bool). not b || z) (sign-neg x p) (zero-neg x)
    ∙ ap (λ (b : Bool). b || is_zero x) (not-not (sign x))

-- what is negative, or -0, is at most what is not
pub le-signs : (x y : Float) → T (real x) → T (real y) → sign x ≡ true → sign y ≡ false → T (le x y)
le-signs x y p q h k =
    le_trans x (zero_of false) y
    (of-true (ge-zero x false p ∙ ap (λ (b : Bool). b || is_zero x) h))
    (of-true (le-zero y false q ∙ ap (λ (b : Bool). not b || is_zero y) k))
