-- `round` with either sign: it keeps the sign, gives no NaN, keeps the order of signed fractions, and changes nothing at a value that fits.
use mathlib.Core.Path.{◌≡◌, refl, sym, ap, ap₂, ◌∙◌, subst}
use mathlib.Core.Logic.{◌⊎◌, inl, inr}
use Prim.Native.Nat.{ℕ, zero, suc, ◌+◌, ◌-◌, ◌*◌, ◌/◌, ◌%◌, ◌^◌, ◌≤◌, ◌<◌, compare}
use native.Mathlib.Nat.{not-le_of_lt, mul-one, one-mul, mul_comm, mul_assoc, mul_left_comm, mul-le-mul_right, mul-lt-mul_of_pos_right, lt_of_mul-lt-mul_right, mul-sub, zero-mul}
use native.Mathlib.Omega.{arith}
use mathlib.Core.Bool.{Bool, true, false, not, ◌&&◌, cond}
use lib.IntN.{ℤ, pos, negsuc}
use lib.Dec.{T, leb, ltb, eqb, ltb→lt, lt→ltb, leb→le, nltb→le}
use lib.Pow.{pow-add, pow_pos, pow-lt}
use lib.Ieee.{Float, nan, inf, fin, Format, prec, emax, low, up, down, size as digits, nearest, odd, units, round, neg, le, fits}
use lib.Ieee.Digits.{back}
use lib.Ieee.Fits.{down_pos, and_l, and_r, round_is, round-fits}
use lib.Ieee.Exact.{HasValue, round_exact}
use lib.Ieee.Order.{round_mono}
use lib.Arith.{le→nltb}
use lib.Ieee.Scale.{round_same}
use lib.Ieee.Bits.{is_true, cond_no}
use Rattle.ieee.proofs.Same.{fin-same, zero-fits}
use Rattle.ieee.proofs.Sizes.{le-neg, le-signs}
use Rattle.ieee.specs.Number.{real, sign, zero_of}

-- ---- the sign
odd-neg : (d : ℕ) (s : Bool) (q k l : ℕ) → odd d (not s) q k l ≡ neg (odd d s q k l)
unfolding odd neg
odd-neg d s zero k l = refl
odd-neg d s (suc q) k l = refl

inf-neg : (s : Bool) → inf (not s) ≡ neg (inf s)
unfolding neg
inf-neg s = refl

neg-cond : (b : Bool) (x y : Float) → neg (cond b x y) ≡ cond b (neg x) (neg y)
neg-cond true x y = refl
neg-cond false x y = refl

units-neg : (f : Format) (s : Bool) (q k : ℕ) → units f (not s) q k ≡ neg (units f s q k)
unfolding units
units-neg f s q k =
    let b = ltb (q * 2 ^ k) (2 ^ (low f + suc (emax f))) in
    ap₂ (λ (x y : Float). cond b x y) (odd-neg (suc (prec f)) s q k (low f)) (inf-neg s) ∙ sym (neg-cond b (odd (suc (prec f)) s q k (low f)) (inf s))

pub round-neg : (f : Format) (s : Bool) (a c : ℕ) → round f (not s) a c ≡ neg (round f s a c)
round-neg f s a c =
    let n = a * 2 ^ low f in
    let k = digits (n / c) - prec f in
    let u = c * 2 ^ k in
    round_is f (not s) a c ∙ units-neg f s (nearest (n / u) (compare (n % u * 2) u)) k ∙ ap neg (sym (round_is f s a c))

units-sign : (f : Format) (s : Bool) (q k : ℕ) → (sign (units f s q k) ≡ s) × T (real (units f s q k))
unfolding units odd
units-sign f s zero k = go (ltb (0 * 2 ^ k) (2 ^ (low f + suc (emax f))))
  where
    go : (b : Bool) → (sign (cond b (fin s zero (pos zero)) (inf s)) ≡ s) × T (real (cond b (fin s zero (pos zero)) (inf s)))
    go true = (refl, tt)
    go false = (refl, tt)
units-sign f s (suc q) k = go (ltb (suc q * 2 ^ k) (2 ^ (low f + suc (emax f)))) _ _
  where
    go : (b : Bool) (m : ℕ) (e : ℤ) → (sign (cond b (fin s m e) (inf s)) ≡ s) × T (real (cond b (fin s m e) (inf s)))
    go true m e = (refl, tt)
    go false m e = (refl, tt)

round-parts : (f : Format) (s : Bool) (a c : ℕ) → (sign (round f s a c) ≡ s) × T (real (round f s a c))
round-parts f s a c =
    let n = a * 2 ^ low f in
    let k = digits (n / c) - prec f in
    let u = c * 2 ^ k in
    subst (λ (z : Float). (sign z ≡ s) × T (real z)) (sym (round_is f s a c)) (units-sign f s (nearest (n / u) (compare (n % u * 2) u)) k)

pub round-sign : (f : Format) (s : Bool) (a c : ℕ) → sign (round f s a c) ≡ s
round-sign f s a c = (round-parts f s a c).0

pub round-real : (f : Format) (s : Bool) (a c : ℕ) → T (real (round f s a c))
round-real f s a c = (round-parts f s a c).1

-- ---- a signed fraction, (p - n) / c
unfoldable pub signed : Format → ℕ → ℕ → ℕ → Float
signed f p n c = cond (ltb p n) (round f true (n - p) c) (round f false (p - n) c)

pub signed-neg : (f : Format) (p n c : ℕ) → p < n → signed f p n c ≡ round f true (n - p) c
unfolding signed
signed-neg f p n c h = ap (λ (b : Bool). cond b (round f true (n - p) c) (round f false (p - n) c)) (is_true (ltb p n) (lt→ltb p n h))

pub signed-pos : (f : Format) (p n c : ℕ) → n ≤ p → signed f p n c ≡ round f false (p - n) c
unfolding signed
signed-pos f p n c h = cond_no (ltb p n) (round f true (n - p) c) (round f false (p - n) c) (le→nltb p n h)

sub-mul : (a b c : ℕ) → (a - b) * c ≡ a * c - b * c
sub-mul a b c = mul_comm (a - b) c ∙ mul-sub c a b ∙ ap₂ ◌-◌ (mul_comm c a) (mul_comm c b)

pub split : (p n : ℕ) → (p < n) ⊎ (n ≤ p)
split p n = go (ltb p n) (ltb→lt p n) (nltb→le p n)
  where
    go : (b : Bool) → (T b → p < n) → (T (not b) → n ≤ p) → (p < n) ⊎ (n ≤ p)
    go true h k = inl (h tt)
    go false h k = inr (k tt)

pub signed-mono : (f : Format) (p n c p' n' c' : ℕ) → 0 < c → 0 < c' → p * c' + n' * c ≤ p' * c + n * c' → T (le (signed f p n c) (signed f p' n' c'))
signed-mono f p n c p' n' c' C C' h = elim (split p n) [
  | inl l ↦ elim (split p' n') [
    | inl l' ↦
        rw (signed-neg f p n c l, signed-neg f p' n' c' l', round-neg f false (n - p) c, round-neg f false (n' - p') c', le-neg)
        (round_mono f (n' - p') c' (n - p) c C' C (rw (sub-mul n' p' c, sub-mul n p c') (omega arith)))
    | inr l' ↦
        rw (signed-neg f p n c l, signed-pos f p' n' c' l')
        (le-signs (round f true (n - p) c) (round f false (p' - n') c') (round-real f true (n - p) c) (round-real f false (p' - n') c') (round-sign f true (n - p) c) (round-sign f false (p' - n') c'))
  ]
  | inr l ↦ elim (split p' n') [
    | inl l' ↦ let z : ⊥ = omega (arith, mul-le-mul_right c' l, mul-lt-mul_of_pos_right l' C) in absurd z
    | inr l' ↦ rw (signed-pos f p n c l, signed-pos f p' n' c' l') (round_mono f (p - n) c (p' - n') c' C C' (rw (sub-mul p n c', sub-mul p' n' c) (omega arith)))
  ]
]

-- ---- a fraction 0, and a value that fits
units-zero : (f : Format) (s : Bool) (k : ℕ) → units f s 0 k ≡ zero_of s
unfolding units odd
units-zero f s k = ap (λ (b : Bool). cond b (zero_of s) (inf s)) (is_true (ltb (0 * 2 ^ k) (2 ^ (low f + suc (emax f)))) (lt→ltb (0 * 2 ^ k) (2 ^ (low f + suc (emax f))) (rw zero-mul (pow_pos (low f + suc (emax f))))))

zero-unfit : (a : ℕ) → 0 < a → a ≡ 0 → ⊥
zero-unfit a h e = omega arith

-- how far the digits of a value that fits are shifted, in units of the smallest value
pub shift : (f : Format) (e : ℤ) → down e ≤ 2 ^ low f → (j : ℕ) × (up e * 2 ^ low f ≡ 2 ^ j * down e)
shift f (pos k) h = (k + low f, sym (pow-add 2 k (low f)) ∙ sym (mul-one (2 ^ (k + low f))))
shift f (negsuc k) h =
    (low f - suc k, one-mul (2 ^ low f) ∙ ap (λ (z : ℕ). 2 ^ z) (sym (back (low f) (suc k) (exponent (suc k) (low f) h))) ∙ pow-add 2 (low f - suc k) (suc k))
  where
    exponent : (i j : ℕ) → 2 ^ i ≤ 2 ^ j → i ≤ j
    exponent i j h = elim (split j i) [ inl l ↦ absurd (not-le_of_lt (pow-lt l) h) | inr l ↦ l ]

fits-flip : (f : Format) (s t : Bool) (m : ℕ) (e : ℤ) → T (fits f (fin s m e)) → T (fits f (fin t m e))
unfolding fits
fits-flip f s t zero e h = h
fits-flip f s t (suc m) e h = h

pub record Fit (f : Format) (m : ℕ) (e : ℤ) : Type 0 where
  pub digits : m < 2 ^ prec f
  pub lowest : down e ≤ 2 ^ low f
  pub range : m * up e < 2 ^ suc (emax f) * down e

pub fit : (f : Format) (s : Bool) (m : ℕ) (e : ℤ) → T (fits f (fin s (suc m) e)) → Fit f (suc m) e
unfolding fits
fit f s m e h =
    let a : Bool = eqb (suc m % 2) 1 in
    let b : Bool = ltb (suc m) (2 ^ prec f) in
    let c : Bool = leb (down e) (2 ^ low f) in
    let d : Bool = ltb (suc m * up e) (2 ^ suc (emax f) * down e) in
    record {
      digits = ltb→lt (suc m) (2 ^ prec f) (and_r a b (and_l (a && b) c (and_l (a && b && c) d h)));
      lowest = leb→le (down e) (2 ^ low f) (and_r (a && b) c (and_l (a && b && c) d h));
      range = ltb→lt (suc m * up e) (2 ^ suc (emax f) * down e) (and_r (a && b && c) d h);
    }

pub shifted : (m u d j l : ℕ) → u * l ≡ 2 ^ j * d → m * u * l ≡ m * 2 ^ j * d
shifted m u d j l e = mul_assoc m u l ∙ ap (λ (z : ℕ). m * z) e ∙ sym (mul_assoc m (2 ^ j) d)

pub below-overflow : (m u d j l t : ℕ) → 0 < l → u * l ≡ 2 ^ j * d → m * u < t * d → m * 2 ^ j < l * t
below-overflow m u d j l t L e h =
    let a = shifted m u d j l e in
    let b : t * d * l ≡ l * t * d = simp (mul_assoc, mul_comm, mul_left_comm) in
    let c : m * u * l < t * d * l = mul-lt-mul_of_pos_right h L in
    let r : m * 2 ^ j * d < l * t * d = omega arith in
    lt_of_mul-lt-mul_right d r

own_value : (f : Format) (s : Bool) (m : ℕ) (e : ℤ) → T (fits f (fin s m e)) → HasValue (round f s (m * up e) (down e)) s (m * up e) (down e)
own_value f s zero e h = round_exact f s (0 * up e) (down e) 0 0 (down_pos e) (pow_pos (prec f)) (pow_pos (low f + suc (emax f))) (simp zero-mul)
own_value f s (suc m) e h =
    let k = fit f s m e h in
    let g = shift f e k.lowest in
    round_exact f s (suc m * up e) (down e) (suc m) g.0 (down_pos e) k.digits
    (rw (pow-add 2 (low f) (suc (emax f))) (below-overflow (suc m) (up e) (down e) g.0 (2 ^ low f) (2 ^ suc (emax f)) (pow_pos (low f)) g.1 k.range))
    (shifted (suc m) (up e) (down e) g.0 (2 ^ low f) g.1)

of-value : (f : Format) (x : Float) (s : Bool) (m : ℕ) (e : ℤ) → T (fits f x) → T (fits f (fin s m e)) → HasValue x s (m * up e) (down e) → x ≡ fin s m e
of-value f nan s m e p q v = absurd v
of-value f (inf t) s m e p q v = absurd v
of-value f (fin t n d) s m e p q v =
    let r : fin t n d ≡ fin s n d = ap (λ (b : Bool). fin b n d) v.0 in
    r ∙ fin-same f s n d m e (subst (λ (z : Float). T (fits f z)) r p) q v.1

-- a / c is a value that the format holds, in size: rounding changes nothing
pub round-of : (f : Format) (s t : Bool) (m : ℕ) (e : ℤ) (a c : ℕ) → T (fits f (fin s m e)) → 0 < c → a * down e ≡ m * up e * c → round f t a c ≡ fin t m e
round-of f s t m e a c h C k =
    round_same f t a c (m * up e) (down e) C (down_pos e) k
    ∙ of-value f (round f t (m * up e) (down e)) t m e (round-fits f t (m * up e) (down e)) (fits-flip f s t m e h) (own_value f t m e (fits-flip f s t m e h))

pub round-zero : (f : Format) (s : Bool) (c : ℕ) → 0 < c → round f s 0 c ≡ zero_of s
round-zero f s c C = round-of f s s 0 (pos 0) 0 c (zero-fits f s) C (simp zero-mul)

pub signed-real : (f : Format) (p n c : ℕ) → T (real (signed f p n c))
unfolding signed
signed-real f p n c = go (ltb p n)
  where
    go : (b : Bool) → T (real (cond b (round f true (n - p) c) (round f false (p - n) c)))
    go true = round-real f true (n - p) c
    go false = round-real f false (p - n) c
