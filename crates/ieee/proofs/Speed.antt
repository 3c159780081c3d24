-- `min_speed`: both sign bits clear, the smaller; otherwise minus the smaller size. Its sign bit is the or of the two, and its size the smaller size: all its laws follow from these two.
use mathlib.Core.Path.{◌≡◌, refl, sym, ap, ap₂, ◌∙◌, subst}
use mathlib.Core.Logic.{◌⊎◌, inl, inr}
use mathlib.Core.Bool.{Bool, true, false, not, ◌&&◌, ◌||◌, cond, false≢true}
use lib.Dec.{T}
use lib.Ieee.Scale.{finite}
use lib.Ieee.{Float, nan, inf, fin, Format, neg, le, eq, fits}
use lib.Ieee.Fits.{neg-fits, cond-fits}
use lib.Ieee.Bits.{is_true}
use Rattle.ieee.proofs.Order.{le_trans, le_antisym, eq→le, eq→ge, eq_refl, of-true, le-real-l, le-real-r, eq-real-l, eq-real-r}
use Rattle.ieee.proofs.Same.{same, eq-zero, eq-sign}
use Rattle.ieee.proofs.Sizes.{size-size, size-neg, sign-size, sign-neg, size-clear, by_parts, real-size, zero-size, size_fits, size-nonneg, size-cong, eq-by-parts, eq-zeros, zero-cong, smaller-is, smaller-l, smaller-idem, smaller-le-l, smaller-le-r, real-smaller, smaller-mono, smaller-comm, smaller-assoc, smaller-fits}
use Rattle.ieee.specs.Number.{real, sign, is_zero, zero_of, size}
use Rattle.ieee.specs.Speed.{smaller, min_speed}

or_comm : (s t : Bool) → (s || t) ≡ (t || s)
or_comm true true = refl
or_comm true false = refl
or_comm false true = refl
or_comm false false = refl

or_assoc : (s t u : Bool) → ((s || t) || u) ≡ (s || (t || u))
or_assoc true t u = refl
or_assoc false t u = refl

or-idem : (s : Bool) → (s || s) ≡ s
or-idem true = refl
or-idem false = refl

zero_or_not : (b : Bool) → T b ⊎ T (not b)
zero_or_not true = inl tt
zero_or_not false = inr tt

-- one of two of a kind is of that kind
smaller-all : (P : Float → Type 0) (x y : Float) → P x → P y → P (smaller x y)
smaller-all P x y p q = elim (smaller-is x y) [ inl e ↦ subst P (sym e) p | inr e ↦ subst P (sym e) q ]

-- ---- the two laws that say what it is
pub min_speed-clear : (a b : Float) → sign a ≡ false → sign b ≡ false → min_speed a b ≡ smaller a b
unfolding min_speed
min_speed-clear a b p q = ap₂ (λ (s t : Bool). cond (not s && not t) (smaller a b) (neg (smaller (size a) (size b)))) p q

pub min_speed-set : (a b : Float) → sign a || sign b ≡ true → min_speed a b ≡ neg (smaller (size a) (size b))
unfolding min_speed
min_speed-set a b h = go (sign a) (sign b) h
  where
    go : (s t : Bool) → s || t ≡ true → cond (not s && not t) (smaller a b) (neg (smaller (size a) (size b))) ≡ neg (smaller (size a) (size b))
    go true t h = refl
    go false true h = refl
    go false false h = absurd (false≢true h)

-- both signs, or one of them: the cases of every proof below
cases : (s t : Bool) → ((s ≡ false) × (t ≡ false)) ⊎ (s || t ≡ true)
cases true t = inr refl
cases false true = inr refl
cases false false = inl (refl, refl)

pub min_speed-size : (a b : Float) → size (min_speed a b) ≡ smaller (size a) (size b)
min_speed-size a b = elim (cases (sign a) (sign b)) [
  | inl c ↦ ap size (min_speed-clear a b c.0 c.1) ∙ smaller-all (λ (z : Float). size z ≡ z) a b (size-clear a c.0) (size-clear b c.1) ∙ ap₂ smaller (sym (size-clear a c.0)) (sym (size-clear b c.1))
  | inr c ↦ ap size (min_speed-set a b c) ∙ size-neg (smaller (size a) (size b)) ∙ smaller-all (λ (z : Float). size z ≡ z) (size a) (size b) (size-size a) (size-size b)
]

pub min_speed-sign : (a b : Float) → T (real a) → T (real b) → sign (min_speed a b) ≡ (sign a || sign b)
min_speed-sign a b p q = elim (cases (sign a) (sign b)) [
  | inl c ↦ ap sign (min_speed-clear a b c.0 c.1) ∙ smaller-all (λ (z : Float). sign z ≡ false) a b c.0 c.1 ∙ sym (ap₂ ◌||◌ c.0 c.1)
  | inr c ↦
      ap sign (min_speed-set a b c) ∙ sign-neg (smaller (size a) (size b)) (real-smaller (size a) (size b) (rw real-size p) (rw real-size q))
      ∙ ap not (smaller-all (λ (z : Float). sign z ≡ false) (size a) (size b) (sign-size a) (sign-size b)) ∙ sym c
]

pub min_speed-fits : (f : Format) (a b : Float) → T (fits f a) → T (fits f b) → T (fits f (min_speed a b))
unfolding min_speed
min_speed-fits f a b p q = cond-fits f (not (sign a) && not (sign b)) (smaller a b) (neg (smaller (size a) (size b))) (smaller-fits f a b p q) (neg-fits f (smaller (size a) (size b)) (smaller-fits f (size a) (size b) (size_fits f a p) (size_fits f b q)))

module _ (a b : Float) (p : T (real a)) (q : T (real b)) where
  mp : T (real (size a))
  mp = rw real-size p

  mq : T (real (size b))
  mq = rw real-size q

  pub min_speed-real : T (real (min_speed a b))
  min_speed-real = subst T (real-size (min_speed a b)) (rw (min_speed-size a b) (real-smaller (size a) (size b) mp mq))

  -- ---- its size is at most each size, and is one of them
  pub min_speed-le-l : T (le (size (min_speed a b)) (size a))
  min_speed-le-l = rw (min_speed-size a b) (smaller-le-l (size a) (size b) mp mq)

  pub min_speed-le-r : T (le (size (min_speed a b)) (size b))
  min_speed-le-r = rw (min_speed-size a b) (smaller-le-r (size a) (size b) mp mq)

  -- ---- in either order
  pub min_speed-comm : T (eq (min_speed a b) (min_speed b a))
  min_speed-comm =
      eq-by-parts (min_speed a b) (min_speed b a) (min_speed-sign a b p q ∙ or_comm (sign a) (sign b) ∙ sym (min_speed-sign b a q p))
      (rw (min_speed-size a b, min_speed-size b a) (smaller-comm (size a) (size b) mp mq))

pub min_speed-is : (a b : Float) → (size (min_speed a b) ≡ size a) ⊎ (size (min_speed a b) ≡ size b)
min_speed-is a b = rw (min_speed-size a b) (smaller-is (size a) (size b))

-- ---- idempotent and associative, as data
pub min_speed-idem : (a : Float) → T (real a) → min_speed a a ≡ a
min_speed-idem a p = by_parts (min_speed a a) a (min_speed-sign a a p p ∙ or-idem (sign a)) (min_speed-size a a ∙ smaller-idem (size a))

pub min_speed-assoc : (a b c : Float) → T (real a) → T (real b) → T (real c) → min_speed (min_speed a b) c ≡ min_speed a (min_speed b c)
min_speed-assoc a b c p q r =
    by_parts (min_speed (min_speed a b) c) (min_speed a (min_speed b c))
    (min_speed-sign (min_speed a b) c (min_speed-real a b p q) r
    ∙ ap (λ (s : Bool). s || sign c) (min_speed-sign a b p q)
    ∙ or_assoc (sign a) (sign b) (sign c)
    ∙ ap (λ (s : Bool). sign a || s) (sym (min_speed-sign b c q r))
    ∙ sym (min_speed-sign a (min_speed b c) p (min_speed-real b c q r)))
    (min_speed-size (min_speed a b) c
    ∙ ap (λ (z : Float). smaller z (size c)) (min_speed-size a b)
    ∙ smaller-assoc (size a) (size b) (size c) (rw real-size p) (rw real-size q) (rw real-size r)
    ∙ ap (smaller (size a)) (sym (min_speed-size b c))
    ∙ sym (min_speed-size a (min_speed b c)))

-- ---- it grows with each size
pub min_speed-mono : (a a' b b' : Float) → T (le (size a) (size a')) → T (le (size b) (size b')) → T (le (size (min_speed a b)) (size (min_speed a' b')))
min_speed-mono a a' b b' h k = rw (min_speed-size a b, min_speed-size a' b') (smaller-mono (size a) (size a') (size b) (size b') h k)

-- ---- equal numbers in place of each other
zero-under : (x a : Float) → T (le (size x) (size a)) → T (is_zero a) → T (is_zero x)
zero-under x a h z =
    let p : T (real x) = subst T (real-size x) (le-real-l (size x) (size a) h) in
    let e : T (eq (size a) (zero_of false)) = of-true (eq-zero (size a) false ∙ zero-size a ∙ is_true (is_zero a) z) in
    of-true (sym (zero-size x) ∙ sym (eq-zero (size x) false) ∙ is_true _ (le_antisym (size x) (zero_of false) (le_trans (size x) (size a) (zero_of false) h (eq→le (size a) (zero_of false) e)) (size-nonneg x false p)))

pub min_speed-cong : (a a' b b' : Float) → T (eq a a') → T (eq b b') → T (eq (min_speed a b) (min_speed a' b'))
min_speed-cong a a' b b' h k =
    let x = min_speed a b in
    let y = min_speed a' b' in
    let p = eq-real-l a a' h in
    let p' = eq-real-r a a' h in
    let q = eq-real-l b b' k in
    let q' = eq-real-r b b' k in
    let ha = size-cong a a' h in
    let kb = size-cong b b' k in
    let e : T (eq (size x) (size y)) =
    le_antisym (size x) (size y) (min_speed-mono a a' b b' (eq→le (size a) (size a') ha) (eq→le (size b) (size b') kb))
    (min_speed-mono a' a b' b (eq→ge (size a) (size a') ha) (eq→ge (size b) (size b') kb)) in
    let zeros : T (is_zero x) → T (eq x y) = λ z. eq-zeros x y z (of-true (sym (zero-size y) ∙ sym (zero-cong (size x) (size y) e) ∙ zero-size x ∙ is_true (is_zero x) z)) in
    elim (zero_or_not (is_zero a)) [
      | inl z ↦ zeros (zero-under x a (min_speed-le-l a b p q) z)
      | inr n ↦ elim (zero_or_not (is_zero b)) [
        | inl z ↦ zeros (zero-under x b (min_speed-le-r a b p q) z)
        | inr m ↦ eq-by-parts x y (min_speed-sign a b p q ∙ ap₂ ◌||◌ (eq-sign a a' h n) (eq-sign b b' k m) ∙ sym (min_speed-sign a' b' p' q')) e
      ]
    ]

-- laid in either order, and laid twice
pub min_speed-swap : (a b c : Float) → T (real a) → T (real b) → T (real c) → T (eq (min_speed (min_speed a b) c) (min_speed (min_speed a c) b))
min_speed-swap a b c p q r =
    rw (min_speed-assoc a b c p q r, min_speed-assoc a c b p r q) (min_speed-cong a a (min_speed b c) (min_speed c b) (eq_refl a p) (min_speed-comm b c q r))

pub min_speed-again : (a b : Float) → T (real a) → T (real b) → min_speed (min_speed a b) b ≡ min_speed a b
min_speed-again a b p q = min_speed-assoc a b b p q q ∙ ap (min_speed a) (min_speed-idem b q)

-- of values that fit it is the same in either order as data too
pub min_speed-flip : (f : Format) (a b : Float) → T (fits f a) → T (fits f b) → T (real a) → T (real b) → min_speed a b ≡ min_speed b a
min_speed-flip f a b u v p q = same f (min_speed a b) (min_speed b a) (min_speed-fits f a b u v) (min_speed-fits f b a v u) (min_speed-comm a b p q) (min_speed-sign a b p q ∙ or_comm (sign a) (sign b) ∙ sym (min_speed-sign b a q p))

-- ---- where it changes nothing: a stays iff its size is at most b's, and it is negative, or a zero, where b is negative
pub min_speed-kept : (a b : Float) → T (real a) → T (real b) → T (eq (min_speed a b) a) → T (le (size a) (size b))
min_speed-kept a b p q h = le_trans (size a) (size (min_speed a b)) (size b) (eq→ge (size (min_speed a b)) (size a) (size-cong (min_speed a b) a h)) (min_speed-le-r a b p q)

pub min_speed-keeps : (a b : Float) → T (real a) → T (le (size a) (size b)) → (sign a || sign b) ≡ sign a → min_speed a b ≡ a
min_speed-keeps a b p h s =
    by_parts (min_speed a b) a (min_speed-sign a b p (subst T (real-size b) (le-real-r (size a) (size b) h)) ∙ s) (min_speed-size a b ∙ smaller-l (size a) (size b) h)

-- ---- finite
pub min_speed-finite : (a b : Float) → T (finite a) → T (finite b) → T (finite (min_speed a b))
min_speed-finite a b p q = subst T (fin-size (min_speed a b)) (rw (min_speed-size a b) (smaller-all (λ (z : Float). T (finite z)) (size a) (size b) (subst T (sym (fin-size a)) p) (subst T (sym (fin-size b)) q)))
  where
    fin-size : (x : Float) → finite (size x) ≡ finite x
    fin-size nan = refl
    fin-size (inf s) = refl
    fin-size (fin s m e) = refl
