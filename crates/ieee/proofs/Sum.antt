-- Sums and differences: in either order the same, they grow with each operand, and 0 changes nothing as a number. Operands of any sign, infinities included, as long as no NaN comes out.
use mathlib.Core.Path.{◌≡◌, refl, sym, ap, ap₂, ◌∙◌, subst}
use mathlib.Core.Logic.{inl, inr}
use Prim.Native.Nat.{ℕ, ◌+◌, ◌-◌, ◌*◌, ◌≤◌, ◌<◌, zero-le}
use native.Mathlib.Nat.{mul-one, add_comm as ℕ-add-comm, add-zero, zero-add, mul_comm, mul_assoc, mul_left_comm, add-mul, mul-le-mul_right, mul-pos, zero-mul, sub-zero, sub_self, le_refl as ℕ-le-refl, le_of_lt}
use native.Mathlib.Omega.{arith}
use mathlib.Core.Bool.{Bool, true, false, not, ◌&&◌, cond}
use lib.IntN.{ℤ, pos}
use lib.Dec.{T, ltb, lt→ltb, not_T}
use lib.Arith.{le→nltb}
use lib.Ieee.{Float, nan, inf, fin, Format, binary64, up, down, round, sum, add, sub, neg, lt, le, eq, fits}
use lib.Ieee.Fits.{up_pos, down_pos, eq→eqb}
use lib.Ieee.Bits.{is_true, is_false, cond_no}
use lib.Ieee.Scale.{finite}
use lib.Ieee.Positive.{den, den_pos}
use Rattle.ieee.proofs.Order.{plus, less, pos-part, neg-part, plus-mul, less-mul, le→cross, le_trans, lt_not_le, not-le, le-real-r, of-true, of-false, eq→le, eq→ge, eq_refl, inf-least, inf_greatest, le_refl, eq-real-l, le_antisym, lt-real-l, lt-real-r, lt-le-trans}
use Rattle.ieee.proofs.Same.{eq-zero, zero-fits, zero-of-product}
use Rattle.ieee.proofs.Sizes.{eq-zeros, le-neg}
use Rattle.ieee.proofs.Round.{round-real, round-zero, round-of, signed, signed-neg, signed-pos, signed-mono, signed-real, split}
use Rattle.ieee.specs.Number.{real, zero_of, size}

-- ---- a sum is the signed fraction of its exact value, rounded
module _ (f : Format) (a b c : ℕ) where
  alike : (s : Bool) → sum f s a s b c ≡ round f s (a + b) c
  unfolding sum
  alike true = refl
  alike false = refl

  unlike-pos : sum f false a true b c ≡ signed f a b c
  unfolding sum signed
  unlike-pos = refl

  opened : sum f true a false b c ≡ cond (ltb a b) (round f false (b - a) c) (round f (ltb b a) (a - b) c)
  unfolding sum
  opened = refl

  unlike-neg : sum f true a false b c ≡ signed f b a c
  unlike-neg = elim (split b a) [
    | inl l ↦ opened ∙ cond_no (ltb a b) (round f false (b - a) c) (round f (ltb b a) (a - b) c) (le→nltb a b (le_of_lt l)) ∙ ap (λ (t : Bool). round f t (a - b) c) (is_true (ltb b a) (lt→ltb b a l)) ∙ sym (signed-neg f b a c l)
    | inr l ↦ elim (split a b) [
      | inl k ↦ opened ∙ ap (λ (t : Bool). cond t (round f false (b - a) c) (round f (ltb b a) (a - b) c)) (is_true (ltb a b) (lt→ltb a b k)) ∙ sym (signed-pos f b a c l)
      | inr k ↦
          opened ∙ cond_no (ltb a b) (round f false (b - a) c) (round f (ltb b a) (a - b) c) (le→nltb a b k)
          ∙ ap₂ (λ (t : Bool) (z : ℕ). round f t z c) (is_false (ltb b a) (le→nltb b a l)) (level-sub a b l k) ∙ sym (signed-pos f b a c l)
    ]
  ]
    where
      level-sub : (a b : ℕ) → a ≤ b → b ≤ a → a - b ≡ b - a
      level-sub a b h k = omega arith

-- ---- in either order
sum_comm : (f : Format) (s : Bool) (a : ℕ) (t : Bool) (b c : ℕ) → sum f s a t b c ≡ sum f t b s a c
sum_comm f true a true b c = alike f a b c true ∙ ap (λ (z : ℕ). round f true z c) (ℕ-add-comm a b) ∙ sym (alike f b a c true)
sum_comm f true a false b c = unlike-neg f a b c ∙ sym (unlike-pos f b a c)
sum_comm f false a true b c = unlike-pos f a b c ∙ sym (unlike-neg f b a c)
sum_comm f false a false b c = alike f a b c false ∙ ap (λ (z : ℕ). round f false z c) (ℕ-add-comm a b) ∙ sym (alike f b a c false)

pub add_comm : (f : Format) (x y : Float) → add f x y ≡ add f y x
unfolding add
add_comm f nan nan = refl
add_comm f nan (inf t) = refl
add_comm f nan (fin t n d) = refl
add_comm f (inf s) nan = refl
add_comm f (inf true) (inf true) = refl
add_comm f (inf true) (inf false) = refl
add_comm f (inf false) (inf true) = refl
add_comm f (inf false) (inf false) = refl
add_comm f (inf s) (fin t n d) = refl
add_comm f (fin s m e) nan = refl
add_comm f (fin s m e) (inf t) = refl
add_comm f (fin s m e) (fin t n d) = sum_comm f s (m * up e * down d) t (n * up d * down e) (down e * down d) ∙ ap (sum f t (n * up d * down e) s (m * up e * down d)) (mul_comm (down e) (down d))

-- ---- the same in one form for all signs, up to the sign of a zero
no_less : (z : ℕ) → z - (0 + 0) ≡ z
no_less z = omega arith

same-eq : (x y : Float) → T (real x) → x ≡ y → T (eq x y)
same-eq x y p e = subst (λ (z : Float). T (eq x z)) e (eq_refl x p)

round-zeros : (f : Format) (s t : Bool) (a b c : ℕ) → 0 < c → a ≡ 0 → b ≡ 0 → T (eq (round f s a c) (round f t b c))
round-zeros f s t a b c C p q = rw (p, q, round-zero f s c C, round-zero f t c C) (eq-zeros (zero_of s) (zero_of t) tt tt)

sum-signed : (f : Format) (s : Bool) (a : ℕ) (t : Bool) (b c : ℕ) → 0 < c → T (eq (sum f s a t b c) (signed f (plus s a + plus t b) (less s a + less t b) c))
sum-signed f false a false b c C =
    rw (alike f a b c false) (same-eq (round f false (a + b) c) (signed f (a + b) (0 + 0) c) (round-real f false (a + b) c)
    (sym (signed-pos f (a + b) (0 + 0) c (omega arith) ∙ ap (λ (z : ℕ). round f false z c) (no_less (a + b)))))
sum-signed f false a true b c C = rw (unlike-pos f a b c, add-zero, zero-add) (eq_refl (signed f a b c) (signed-real f a b c))
sum-signed f true a false b c C = rw (unlike-neg f a b c, add-zero, zero-add) (eq_refl (signed f b a c) (signed-real f b a c))
sum-signed f true a true b c C = rw (alike f a b c true) (elim (split (0 + 0) (a + b)) [
  | inl l ↦ same-eq (round f true (a + b) c) (signed f (0 + 0) (a + b) c) (round-real f true (a + b) c) (sym (signed-neg f (0 + 0) (a + b) c l ∙ ap (λ (z : ℕ). round f true z c) (no_less (a + b))))
  | inr l ↦ rw (signed-pos f (0 + 0) (a + b) c l) (round-zeros f true false (a + b) (0 + 0 - (a + b)) c C (omega arith) (omega arith))
])

pub add-signed : (f : Format) (x y : Float) → T (finite x) → T (finite y) → T (eq (add f x y) (signed f (pos-part x * den y + pos-part y * den x) (neg-part x * den y + neg-part y * den x) (den x * den y)))
unfolding add
add-signed f nan y p q = absurd p
add-signed f (inf s) y p q = absurd p
add-signed f (fin s m e) nan p q = absurd q
add-signed f (fin s m e) (inf t) p q = absurd q
add-signed f (fin s m e) (fin t n d) p q =
    rw (← plus-mul s (m * up e) (down d), ← plus-mul t (n * up d) (down e), ← less-mul s (m * up e) (down d), ← less-mul t (n * up d) (down e))
    (sum-signed f s (m * up e * down d) t (n * up d * down e) (down e * down d) (mul-pos (down_pos e) (down_pos d)))

-- ---- it grows with each operand
cross-sum : (px nx dx px' nx' dx' py ny dy py' ny' dy' : ℕ) → px * dx' + nx' * dx ≤ px' * dx + nx * dx' → py * dy' + ny' * dy ≤ py' * dy + ny * dy'
    → (px * dy + py * dx) * (dx' * dy') + (nx' * dy' + ny' * dx') * (dx * dy) ≤ (px' * dy' + py' * dx') * (dx * dy) + (nx * dy + ny * dx) * (dx' * dy')
cross-sum px nx dx px' nx' dx' py ny dy py' ny' dy' h k =
    let a = simp (add-mul, mul_assoc, mul_comm) at (mul-le-mul_right (dy * dy') h) in
    let b = simp (add-mul, mul_assoc, mul_comm, mul_left_comm) at (mul-le-mul_right (dx * dx') k) in
    simp (add-mul, mul_assoc, mul_comm, mul_left_comm) (omega arith)

add-mono-fin : (f : Format) (x x' y y' : Float) → T (finite x) → T (finite x') → T (finite y) → T (finite y') → T (le x x') → T (le y y') → T (le (add f x y) (add f x' y'))
add-mono-fin f x x' y y' p p' q q' h k =
    let z = signed f (pos-part x * den y + pos-part y * den x) (neg-part x * den y + neg-part y * den x) (den x * den y) in
    let z' = signed f (pos-part x' * den y' + pos-part y' * den x') (neg-part x' * den y' + neg-part y' * den x') (den x' * den y') in
    le_trans (add f x y) z (add f x' y') (eq→le (add f x y) z (add-signed f x y p q))
    (le_trans z z' (add f x' y')
    (signed-mono f (pos-part x * den y + pos-part y * den x) (neg-part x * den y + neg-part y * den x) (den x * den y)
    (pos-part x' * den y' + pos-part y' * den x') (neg-part x' * den y' + neg-part y' * den x') (den x' * den y')
    (mul-pos (den_pos x) (den_pos y)) (mul-pos (den_pos x') (den_pos y'))
    (cross-sum (pos-part x) (neg-part x) (den x) (pos-part x') (neg-part x') (den x') (pos-part y) (neg-part y) (den y) (pos-part y') (neg-part y') (den y') (le→cross x x' p p' h) (le→cross y y' q q' k)))
    (eq→ge (add f x' y') z' (add-signed f x' y' p' q')))

add-inf-l : (f : Format) (s : Bool) (y : Float) → T (real (add f (inf s) y)) → add f (inf s) y ≡ inf s
unfolding add
add-inf-l f s nan p = absurd p
add-inf-l f true (inf true) p = refl
add-inf-l f true (inf false) p = absurd p
add-inf-l f false (inf true) p = absurd p
add-inf-l f false (inf false) p = refl
add-inf-l f s (fin t n d) p = refl

add-inf-r : (f : Format) (x : Float) (t : Bool) → T (real (add f x (inf t))) → add f x (inf t) ≡ inf t
add-inf-r f x t p = add_comm f x (inf t) ∙ add-inf-l f t x (subst (λ (z : Float). T (real z)) (add_comm f x (inf t)) p)

add-nan-l : (f : Format) (y : Float) → T (real (add f nan y)) → ⊥
unfolding add
add-nan-l f y p = p

add-nan-r : (f : Format) (x : Float) → T (real (add f x nan)) → ⊥
add-nan-r f x p = add-nan-l f x (subst (λ (z : Float). T (real z)) (add_comm f x nan) p)

not-above : (x : Float) → T (le (inf false) x) → x ≡ inf false
unfolding le
not-above nan h = absurd h
not-above (inf true) h = absurd h
not-above (inf false) h = refl
not-above (fin s m e) h = absurd h

-- neither sum a NaN: infinities of both signs do not meet
pub add-mono : (f : Format) (x x' y y' : Float) → T (real (add f x y)) → T (real (add f x' y')) → T (le x x') → T (le y y') → T (le (add f x y) (add f x' y'))
add-mono f nan x' y y' p p' h k = absurd (add-nan-l f y p)
add-mono f (inf true) x' y y' p p' h k = rw (add-inf-l f true y p) (inf-least (add f x' y') p')
add-mono f (inf false) x' y y' p p' h k =
    let w : add f x' y' ≡ inf false = ap (λ (z : Float). add f z y') (not-above x' h) ∙ add-inf-l f false y' (subst (λ (z : Float). T (real (add f z y'))) (not-above x' h) p') in
    rw w (inf_greatest (add f (inf false) y) p)
add-mono f (fin s m e) x' nan y' p p' h k = absurd (add-nan-r f (fin s m e) p)
add-mono f (fin s m e) x' (inf true) y' p p' h k = rw (add-inf-r f (fin s m e) true p) (inf-least (add f x' y') p')
add-mono f (fin s m e) x' (inf false) y' p p' h k =
    let w : add f x' y' ≡ inf false = ap (add f x') (not-above y' k) ∙ add-inf-r f x' false (subst (λ (z : Float). T (real (add f x' z))) (not-above y' k) p') in
    rw w (inf_greatest (add f (fin s m e) (inf false)) p)
add-mono f (fin s m e) nan (fin t n d) y' p p' h k = absurd (add-nan-l f y' p')
add-mono f (fin s m e) (inf true) (fin t n d) y' p p' h k = let z : ⊥ = unfold le in h in absurd z
add-mono f (fin s m e) (inf false) (fin t n d) y' p p' h k = rw (add-inf-l f false y' p') (inf_greatest (add f (fin s m e) (fin t n d)) p)
add-mono f (fin s m e) (fin s' m' e') (fin t n d) nan p p' h k = absurd (add-nan-r f (fin s' m' e') p')
add-mono f (fin s m e) (fin s' m' e') (fin t n d) (inf true) p p' h k = let z : ⊥ = unfold le in k in absurd z
add-mono f (fin s m e) (fin s' m' e') (fin t n d) (inf false) p p' h k = rw (add-inf-r f (fin s' m' e') false p') (inf_greatest (add f (fin s m e) (fin t n d)) p)
add-mono f (fin s m e) (fin s' m' e') (fin t n d) (fin t' n' d') p p' h k = add-mono-fin f (fin s m e) (fin s' m' e') (fin t n d) (fin t' n' d') tt tt tt tt h k

-- ---- where a sum is no NaN, and where it is finite
pub finite-real : (x : Float) → T (finite x) → T (real x)
finite-real nan p = p
finite-real (inf s) p = tt
finite-real (fin s m e) p = tt

pub finite-neg : (x : Float) → finite (neg x) ≡ finite x
unfolding neg
finite-neg nan = refl
finite-neg (inf s) = refl
finite-neg (fin s m e) = refl

pub add-real : (f : Format) (x y : Float) → T (finite x) → T (finite y) → T (real (add f x y))
add-real f x y p q = eq-real-l (add f x y) (signed f (pos-part x * den y + pos-part y * den x) (neg-part x * den y + neg-part y * den x) (den x * den y)) (add-signed f x y p q)

pub add-finite : (f : Format) (x y : Float) → T (finite (add f x y)) → T (finite x) × T (finite y)
unfolding add
add-finite f nan y p = absurd p
add-finite f (inf s) nan p = absurd p
add-finite f (inf true) (inf true) p = absurd p
add-finite f (inf true) (inf false) p = absurd p
add-finite f (inf false) (inf true) p = absurd p
add-finite f (inf false) (inf false) p = absurd p
add-finite f (inf s) (fin t n d) p = absurd p
add-finite f (fin s m e) nan p = absurd p
add-finite f (fin s m e) (inf t) p = absurd p
add-finite f (fin s m e) (fin t n d) p = (tt, tt)

-- ---- 0 changes nothing, as a number
sum-zero : (f : Format) (s : Bool) (m : ℕ) (e : ℤ) (a : ℕ) (t : Bool) (c : ℕ) → T (fits f (fin s m e)) → 0 < c → a * down e ≡ m * up e * c → T (eq (sum f s a t 0 c) (fin s m e))
sum-zero f true m e a true c h C k = rw (alike f a 0 c true, add-zero, round-of f true true m e a c h C k) (eq_refl (fin true m e) tt)
sum-zero f true m e a false c h C k =
    rw (unlike-neg f a 0 c) (elim (split 0 a) [
      | inl l ↦ rw (signed-neg f 0 a c l, sub-zero, round-of f true true m e a c h C k) (eq_refl (fin true m e) tt)
      | inr l ↦
          let z : a ≡ 0 = omega arith in
          let y : m ≡ 0 = zero-of-product m (up e) c (up_pos e) C (sym k ∙ ap (λ (w : ℕ). w * down e) z ∙ zero-mul (down e)) in
          rw (signed-pos f 0 a c l, z, round-zero f false c C) (eq-zeros (zero_of false) (fin true m e) tt (eq→eqb y))
    ])
sum-zero f false m e a true c h C k = rw (unlike-pos f a 0 c, signed-pos f a 0 c zero-le, sub-zero, round-of f false false m e a c h C k) (eq_refl (fin false m e) tt)
sum-zero f false m e a false c h C k = rw (alike f a 0 c false, add-zero, round-of f false false m e a c h C k) (eq_refl (fin false m e) tt)

opened-zero : (f : Format) (s : Bool) (m : ℕ) (e : ℤ) (t : Bool) → add f (fin s m e) (zero_of t) ≡ sum f s (m * up e * 1) t (0 * 1 * down e) (down e * 1)
unfolding add
opened-zero f s m e t = refl

inf-zero : (f : Format) (s t : Bool) → add f (inf s) (zero_of t) ≡ inf s
unfolding add
inf-zero f s t = refl

pub add_zero_r : (f : Format) (x : Float) (t : Bool) → T (fits f x) → T (real x) → T (eq (add f x (zero_of t)) x)
add_zero_r f nan t h p = absurd p
add_zero_r f (inf s) t h p = rw (inf-zero f s t) (eq_refl (inf s) tt)
add_zero_r f (fin s m e) t h p = rw (opened-zero f s m e t, mul-one (m * up e), mul-one (down e), zero-mul (down e)) (sum-zero f s m e (m * up e) t (down e) h (down_pos e) refl)

-- ---- so a sum with something that is not negative is no smaller
pub le-add : (f : Format) (b x : Float) (s : Bool) → T (fits f b) → T (real b) → T (le (zero_of s) x) → T (real (add f b x)) → T (le b (add f b x))
le-add f b x s h p k r =
    le_trans b (add f b (zero_of s)) (add f b x) (eq→ge (add f b (zero_of s)) b (add_zero_r f b s h p))
    (add-mono f b b (zero_of s) x (eq-real-l (add f b (zero_of s)) b (add_zero_r f b s h p)) r (le_refl b p) k)

pub add-le : (f : Format) (b x : Float) (s : Bool) → T (fits f b) → T (real b) → T (le x (zero_of s)) → T (real (add f b x)) → T (le (add f b x) b)
add-le f b x s h p k r =
    le_trans (add f b x) (add f b (zero_of s)) b
    (add-mono f b b x (zero_of s) r (eq-real-l (add f b (zero_of s)) b (add_zero_r f b s h p)) (le_refl b p) k)
    (eq→le (add f b (zero_of s)) b (add_zero_r f b s h p))

pub add-nonneg : (f : Format) (x y : Float) (s : Bool) → T (le (zero_of s) x) → T (le (zero_of s) y) → T (real (add f x y)) → T (le (zero_of s) (add f x y))
add-nonneg f x y s h k r =
    le_trans (zero_of s) (add f (zero_of s) (zero_of s)) (add f x y) (eq→ge (add f (zero_of s) (zero_of s)) (zero_of s) (add_zero_r f (zero_of s) s (zero-fits f s) tt))
    (add-mono f (zero_of s) x (zero_of s) y (add-real f (zero_of s) (zero_of s) tt tt) r h k)

-- ---- differences
pub sub_is : (f : Format) (x y : Float) → sub f x y ≡ add f x (neg y)
unfolding sub
sub_is f x y = refl

pub sub-mono : (f : Format) (x x' y y' : Float) → T (real (sub f x y)) → T (real (sub f x' y')) → T (le x x') → T (le y' y) → T (le (sub f x y) (sub f x' y'))
unfolding sub
sub-mono f x x' y y' p p' h k = add-mono f x x' (neg y) (neg y') p p' h (of-true (le-neg y y' ∙ is_true (le y' y) k))

sum_self : (f : Format) (s : Bool) (a c : ℕ) → 0 < c → sum f s a (not s) a c ≡ zero_of false
sum_self f true a c C = unlike-neg f a a c ∙ signed-pos f a a c (ℕ-le-refl a) ∙ ap (λ (z : ℕ). round f false z c) (sub_self a) ∙ round-zero f false c C
sum_self f false a c C = unlike-pos f a a c ∙ signed-pos f a a c (ℕ-le-refl a) ∙ ap (λ (z : ℕ). round f false z c) (sub_self a) ∙ round-zero f false c C

-- x - x is +0 for each finite x, and a NaN otherwise
pub sub-self-zero : (f : Format) (x : Float) → T (finite x) → sub f x x ≡ zero_of false
unfolding sub
sub-self-zero f nan p = absurd p
sub-self-zero f (inf s) p = absurd p
sub-self-zero f (fin s m e) p = sum_self f s (m * up e * down e) (down e * down e) (mul-pos (down_pos e) (down_pos e))

pub sub-self-nan : (f : Format) (x : Float) → T (not (finite x)) → sub f x x ≡ nan
unfolding sub
sub-self-nan f nan p = refl
sub-self-nan f (inf true) p = refl
sub-self-nan f (inf false) p = refl
sub-self-nan f (fin s m e) p = absurd p

pub sub-real : (f : Format) (x y : Float) → T (finite x) → T (finite y) → T (real (sub f x y))
sub-real f x y p q = subst (λ (z : Float). T (real z)) (sym (sub_is f x y)) (add-real f x (neg y) p (rw finite-neg q))

pub sub-nonneg : (f : Format) (x y : Float) → T (finite x) → T (finite y) → T (le y x) → T (le (zero_of false) (sub f x y))
sub-nonneg f x y p q h = rw (← sub-self-zero f y q) (sub-mono f y x y y (sub-real f y y q q) (sub-real f x y p q) h (le_refl y (finite-real y q)))

-- ---- finite, as code tests it
pub finite-test : (x : Float) → (lt (inf true) x && lt x (inf false)) ≡ finite x
unfolding lt
finite-test nan = refl
finite-test (inf true) = refl
finite-test (inf false) = refl
finite-test (fin s m e) = refl

pub finite-sub : (f : Format) (x : Float) (s : Bool) → eq (sub f x x) (zero_of s) ≡ finite x
finite-sub f x s = go (finite x) refl
  where
    go : (b : Bool) → finite x ≡ b → eq (sub f x x) (zero_of s) ≡ b
    go true e = rw (sub-self-zero f x (of-true e)) (eq-zero (zero_of false) s)
    go false e = rw (sub-self-nan f x (of-false e)) (eq-zero nan s)

-- ---- equal numbers in place of each other
pub add_cong : (f : Format) (x x' y y' : Float) → T (real (add f x y)) → T (real (add f x' y')) → T (eq x x') → T (eq y y') → T (eq (add f x y) (add f x' y'))
add_cong f x x' y y' p p' h k = le_antisym (add f x y) (add f x' y') (add-mono f x x' y y' p p' (eq→le x x' h) (eq→le y y' k)) (add-mono f x' x y' y p' p (eq→ge x x' h) (eq→ge y y' k))

-- a sum that is less comes of an operand that is less
pub add-reflects : (f : Format) (x x' b : Float) → T (real x) → T (real x') → T (real b) → T (lt (add f x b) (add f x' b)) → T (lt x x')
add-reflects f x x' b p p' q l = not-le x' x p' p (not_T (le x' x) λ g. lt_not_le (add f x b) (add f x' b) l (add-mono f x' x b b (lt-real-r (add f x b) (add f x' b) l) (lt-real-l (add f x b) (add f x' b) l) g (le_refl b q)))

-- ---- finite
pub finite-size : (x : Float) → finite (size x) ≡ finite x
finite-size nan = refl
finite-size (inf s) = refl
finite-size (fin s m e) = refl

pub finite-between : (a x b : Float) → T (finite a) → T (finite b) → T (le a x) → T (le x b) → T (finite x)
unfolding le
finite-between nan x b p q h k = absurd p
finite-between (inf s) x b p q h k = absurd p
finite-between (fin s m e) nan b p q h k = absurd h
finite-between (fin s m e) (inf true) b p q h k = absurd h
finite-between (fin s m e) (inf false) nan p q h k = absurd q
finite-between (fin s m e) (inf false) (inf t) p q h k = absurd q
finite-between (fin s m e) (inf false) (fin t n d) p q h k = absurd k
finite-between (fin s m e) (fin u l c) b p q h k = tt

-- ---- a sum need not grow strictly: 2 ^ 53 + 1 is 2 ^ 53, and 0 < 1
pub not-strict : (add binary64 (fin false 1 (pos 53)) (fin false 1 (pos 0)) ≡ fin false 1 (pos 53)) × (lt (zero_of false) (fin false 1 (pos 0)) ≡ true)
unfolding add lt
not-strict = (refl, refl)

-- nor need it be associative: (2 ^ 53 + 1) + 1 is 2 ^ 53, and 2 ^ 53 + (1 + 1) is 2 ^ 53 + 2
pub not-assoc : (add binary64 (add binary64 (fin false 1 (pos 53)) (fin false 1 (pos 0))) (fin false 1 (pos 0)) ≡ fin false 1 (pos 53))
    × (add binary64 (fin false 1 (pos 53)) (add binary64 (fin false 1 (pos 0)) (fin false 1 (pos 0))) ≡ fin false 4503599627370497 (pos 1))
unfolding add
not-assoc = (refl, refl)

-- ---- a sum of two that are not negative is no NaN
pub add-nonneg-real : (f : Format) (x y : Float) (s : Bool) → T (le (zero_of s) x) → T (le (zero_of s) y) → T (real (add f x y))
add-nonneg-real f nan y s h k = absurd (le-real-r (zero_of s) nan h)
add-nonneg-real f (inf true) y s h k = let z : ⊥ = unfold le in h in absurd z
add-nonneg-real f (inf false) nan s h k = absurd (le-real-r (zero_of s) nan k)
add-nonneg-real f (inf false) (inf true) s h k = let z : ⊥ = unfold le in k in absurd z
add-nonneg-real f (inf false) (inf false) s h k = unfold add in tt
add-nonneg-real f (inf false) (fin t n d) s h k = unfold add in tt
add-nonneg-real f (fin t n d) nan s h k = absurd (le-real-r (zero_of s) nan k)
add-nonneg-real f (fin t n d) (inf u) s h k = unfold add in tt
add-nonneg-real f (fin t n d) (fin u m e) s h k = add-real f (fin t n d) (fin u m e) tt tt

-- what lies before the end of a limit lies before the end with a longer tail
pub cover-grows : (f : Format) (x e t t' : Float) → T (real e) → T (real (add f e t')) → T (le t t') → T (lt x (add f e t)) → T (lt x (add f e t'))
cover-grows f x e t t' p r h l = lt-le-trans x (add f e t) (add f e t') l (add-mono f e e t t' (lt-real-r x (add f e t) l) r (le_refl e p) h)
