-- The sign of a float, zero, and where `eq` is equality as data: of two values that fit, equal as numbers and of one sign. Only a zero has an equal of the other sign.
use mathlib.Core.Path.{◌≡◌, refl, sym, ap, ◌∙◌, subst}
use mathlib.Core.Logic.{inl, inr}
use Prim.Native.Nat.{ℕ, zero, suc, ◌+◌, ◌-◌, ◌*◌, ◌/◌, ◌^◌, ◌<◌}
use native.Mathlib.Nat.{mul_right_comm, mul-pos, lt_irrefl, zero-mul, zero-lt-suc}
use native.Mathlib.Omega.{arith}
use mathlib.Core.Bool.{Bool, true, false, not, ◌||◌, beq, cond, false≢true}
use lib.IntN.{ℤ, pos}
use lib.Dec.{T, leb, eqb, le→leb, eqb→eq, T_not}
use lib.Pow.{pow_pos}
use lib.Ieee.{Float, nan, inf, fin, Format, binary32, binary64, prec, low, up, down, size as digits, level, hid, top, eq, ne, fits, is_nan, to_bits, of_bits}
use lib.Ieee.Fits.{up_pos, down_pos, eq→eqb, and_i, and_l, and_r}
use lib.Arith.{lt→nleb}
use lib.Ieee.Bits.{of_bits-to_bits, to_bits-lt, is_true, is_false}
use lib.Ieee.Compare.{differs_from_itself}
use lib.Ieee.Nearest.{div_same}
use Rattle.ieee.proofs.Order.{or_split, or_r, bool-ext, of-true}
use Rattle.ieee.specs.Number.{real, sign, is_zero, zero_of}

-- ---- the bits of a finite value, by its sign and its size in units of the smallest value
abbrev bits_of : Format → Bool → ℕ → ℕ
bits_of f s n = cond s (top f) 0 + (digits n - prec f) * hid f + n / 2 ^ (digits n - prec f)

to_bits-fin : (f : Format) (s : Bool) (m : ℕ) (e : ℤ) → to_bits f (fin s m e) ≡ bits_of f s (m * up e * 2 ^ low f / down e)
unfolding to_bits
to_bits-fin f s m e = refl

scaled : (a b c d l : ℕ) → a * d ≡ b * c → a * l * d ≡ b * l * c
scaled a b c d l h = mul_right_comm a l d ∙ ap (λ (z : ℕ). z * l) h ∙ mul_right_comm b c l

pub fin-same : (f : Format) (s : Bool) (m : ℕ) (e : ℤ) (n : ℕ) (d : ℤ) → T (fits f (fin s m e)) → T (fits f (fin s n d)) → m * up e * down d ≡ n * up d * down e → fin s m e ≡ fin s n d
fin-same f s m e n d p q h =
    let l = 2 ^ low f in
    let k : m * up e * l / down e ≡ n * up d * l / down d = div_same (m * up e * l) (down e) (n * up d * l) (down d) (down_pos e) (down_pos d) (scaled (m * up e) (n * up d) (down e) (down d) l h) in
    sym (of_bits-to_bits f (fin s m e) p)
    ∙ ap (of_bits f) (to_bits-fin f s m e ∙ ap (bits_of f s) k ∙ sym (to_bits-fin f s n d))
    ∙ of_bits-to_bits f (fin s n d) q

level→eq : (s : Bool) (a : ℕ) (t : Bool) (b : ℕ) → T (level s a t b) → a ≡ b
level→eq s a t b h = eqb→eq a b (and_l (eqb a b) (beq s t || eqb a 0) h)

beq→ : (s t : Bool) → T (beq s t) → s ≡ t
beq→ true true h = refl
beq→ true false h = absurd h
beq→ false true h = absurd h
beq→ false false h = refl

-- two values that fit, equal as numbers and of one sign, are the same
pub same : (f : Format) (x y : Float) → T (fits f x) → T (fits f y) → T (eq x y) → sign x ≡ sign y → x ≡ y
unfolding eq
same f nan y p q h g = absurd h
same f (inf s) nan p q h g = absurd h
same f (inf s) (inf t) p q h g = ap inf g
same f (inf s) (fin t n d) p q h g = absurd h
same f (fin s m e) nan p q h g = absurd h
same f (fin s m e) (inf t) p q h g = absurd h
same f (fin s m e) (fin t n d) p q h g =
    let r : fin t n d ≡ fin s n d = ap (λ (b : Bool). fin b n d) (sym g) in
    fin-same f s m e n d p (subst (λ (z : Float). T (fits f z)) r q) (level→eq s (m * up e * down d) t (n * up d * down e) h) ∙ sym r

pub zero-of-product : (m u d : ℕ) → 0 < u → 0 < d → m * u * d ≡ 0 → m ≡ 0
zero-of-product zero u d U D h = refl
zero-of-product (suc m) u d U D h = absurd (lt_irrefl 0 (subst (λ (z : ℕ). 0 < z) h (mul-pos (mul-pos (zero-lt-suc m) U) D)))

-- what is equal as a number and is no zero has one sign
pub eq-sign : (x y : Float) → T (eq x y) → T (not (is_zero x)) → sign x ≡ sign y
unfolding eq
eq-sign nan y h n = absurd h
eq-sign (inf s) nan h n = absurd h
eq-sign (inf s) (inf t) h n = beq→ s t h
eq-sign (inf s) (fin t k d) h n = absurd h
eq-sign (fin s m e) nan h n = absurd h
eq-sign (fin s m e) (inf t) h n = absurd h
eq-sign (fin s m e) (fin t k d) h n =
    elim (or_split (beq s t) (eqb (m * up e * down d) 0) (and_r (eqb (m * up e * down d) (k * up d * down e)) (beq s t || eqb (m * up e * down d) 0) h)) [
      | inl b ↦ beq→ s t b
      | inr z ↦ absurd (T_not (eqb m 0) n (eq→eqb (zero-of-product m (up e) (down d) (up_pos e) (down_pos d) (eqb→eq (m * up e * down d) 0 z))))
    ]

pub eq→same : (f : Format) (x y : Float) → T (fits f x) → T (fits f y) → T (eq x y) → T (not (is_zero x)) → x ≡ y
eq→same f x y p q h n = same f x y p q h (eq-sign x y h n)

-- ---- zeros
pub zero-fits : (f : Format) (s : Bool) → T (fits f (zero_of s))
unfolding fits
zero-fits f s = tt

zero-times : (u d : ℕ) → 0 * u * d ≡ 0
zero-times u d = simp zero-mul

pub zero_is : (f : Format) (x : Float) → T (fits f x) → T (is_zero x) → x ≡ zero_of (sign x)
zero_is f nan p z = absurd z
zero_is f (inf s) p z = absurd z
zero_is f (fin s m e) p z = fin-same f s m e 0 (pos 0) p (zero-fits f s) (ap (λ (k : ℕ). k * up e * 1) (eqb→eq m 0 z) ∙ zero-times (up e) 1 ∙ sym (zero-times 1 (down e)))

zero-level : (s : Bool) (a : ℕ) (t : Bool) (b : ℕ) → a ≡ 0 → b ≡ 0 → T (level s a t b)
zero-level s a t b p q = and_i (eqb a b) (beq s t || eqb a 0) (eq→eqb (p ∙ sym q)) (or_r (beq s t) (eqb a 0) (eq→eqb p))

-- a zero equals each zero, as a number: `x == 0.0` is `is_zero`
pub eq-zero : (x : Float) (s : Bool) → eq x (zero_of s) ≡ is_zero x
unfolding eq
eq-zero nan s = refl
eq-zero (inf t) s = refl
eq-zero (fin t m e) s =
    bool-ext (level t (m * up e * 1) s (0 * 1 * down e)) (eqb m 0)
    (λ h. eq→eqb (zero-of-product m (up e) 1 (up_pos e) (pow_pos 0) (level→eq t (m * up e * 1) s (0 * 1 * down e) h ∙ zero-times 1 (down e))))
    (λ h. zero-level t (m * up e * 1) s (0 * 1 * down e) (ap (λ (k : ℕ). k * up e * 1) (eqb→eq m 0 h) ∙ zero-times (up e) 1) (zero-times 1 (down e)))

-- and the two zeros are not the same
pub zeros_differ : zero_of false ≡ zero_of true → ⊥
zeros_differ e = false≢true (ap sign e)

-- ---- the sign bit is the highest
top_of : (f : Format) (m : ℕ) (e : ℤ) → to_bits f (fin true m e) ≡ top f + to_bits f (fin false m e)
top_of f m e =
    let n = m * up e * 2 ^ low f / down e in
    to_bits-fin f true m e ∙ regroup (top f) ((digits n - prec f) * hid f) (n / 2 ^ (digits n - prec f)) ∙ ap (λ (z : ℕ). top f + z) (sym (to_bits-fin f false m e))
  where
    regroup : (t a b : ℕ) → t + a + b ≡ t + (0 + a + b)
    regroup t a b = omega arith

flip-fits : (f : Format) (m : ℕ) (e : ℤ) → T (fits f (fin false m e)) → T (fits f (fin true m e))
unfolding fits
flip-fits f zero e h = h
flip-fits f (suc m) e h = h

inf_bits : (f : Format) (s : Bool) → leb (top f) (to_bits f (inf s)) ≡ s
unfolding to_bits
inf_bits binary32 true = refl
inf_bits binary32 false = refl
inf_bits binary64 true = refl
inf_bits binary64 false = refl

pub sign_bit : (f : Format) (x : Float) → T (fits f x) → T (real x) → leb (top f) (to_bits f x) ≡ sign x
sign_bit f nan h p = absurd p
sign_bit f (inf s) h p = inf_bits f s
sign_bit f (fin true m e) h p = is_true (leb (top f) (to_bits f (fin true m e))) (le→leb (top f) (to_bits f (fin true m e)) (omega (arith, top_of f m e)))
sign_bit f (fin false m e) h p =
    is_false (leb (top f) (to_bits f (fin false m e)))
    (lt→nleb (top f) (to_bits f (fin false m e)) (half (top f) (to_bits f (fin false m e)) (to_bits f (fin true m e)) (top_of f m e) (to_bits-lt f (fin true m e) (flip-fits f m e h))))
  where
    half : (t a b : ℕ) → b ≡ t + a → b < 2 * t → a < t
    half t a b e h = omega arith

-- ---- what code has
-- the literals 0.0 and -0.0
pub zero-literal : of_bits binary64 0 ≡ zero_of false
unfolding of_bits
zero-literal = refl

pub minus-zero-literal : of_bits binary64 0x8000_0000_0000_0000 ≡ zero_of true
unfolding of_bits
minus-zero-literal = refl

pub real-is : (x : Float) → not (is_nan x) ≡ real x
unfolding is_nan
real-is nan = refl
real-is (inf s) = refl
real-is (fin s m e) = refl

-- `x != x` is true of a NaN alone
pub nan-clear : (x : Float) → ne x x ≡ true → sign x ≡ false
nan-clear x h = ap sign (differs_from_itself x (of-true h))

pub no_nan : (x : Float) → ne x x ≡ false → T (real x)
unfolding ne
no_nan nan h = absurd (false≢true (sym h))
no_nan (inf s) h = tt
no_nan (fin s m e) h = tt
