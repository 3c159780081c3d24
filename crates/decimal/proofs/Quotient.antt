-- A whole number over a power of ten: both are f64s, so their quotient is the fraction, rounded once.
use Rattle.std.proofs.Common.{◌≡◌, ℕ, suc, ◌+◌, ◌-◌, ◌*◌, ◌^◌, ◌<◌, ◌≤◌, Bool, true, false, cond, not, T, Some, eqb, pos, sym, ap, ◌∙◌, subst, ap₂, inl, inr, lt_of_lt_of_le, zero-lt-suc, mul_assoc, mul_comm, mul-pos, zero-mul, mul-one, sub-add_cancel, mul_left_comm, arith, lit≤, eqb→eq, pow_pos, pow_mono, pow-add, shl_lt}
use native.Mathlib.Nat.{pow-le-pow_right, one-le-pow}
use lib.Dec.{not_T}
use lib.Ieee.{Float, nan, inf, fin, Format, binary64, low, emax, up, down, unlike, round, neg, div, of_int}
use lib.Ieee.Back.{round_whole}
use lib.Ieee.Bits.{cond_no}
use lib.Ieee.Exact.{HasValue, round_exact}
use lib.Ieee.Fits.{down_pos}
use lib.Ieee.Scale.{round_same}
use Rattle.ieee.proofs.Round.{split, round-neg}
use Rattle.decimal.specs.Decimal.{value_of}
use Rattle.decimal.specs.Known.{Small}
use Rattle.decimal.specs.declared.decimal.Digits.{Digits}

-- ---- the quotient of two numbers that are not negative
positive : (n u b d : ℕ) → 0 < b → 0 < d → n * u * 1 ≡ b * d → 0 < n * u
positive n u b d B D w = omega (arith, mul-pos B D, mul-one (n * u))

no_zero : (n u : ℕ) → 0 < n * u → T (not (eqb n 0))
no_zero n u h = not_T (eqb n 0) (λ t. let z : n * u ≡ 0 = simp (eqb→eq n 0 t, zero-mul) in omega arith)

cross : (m u d a n v e b : ℕ) → m * u * 1 ≡ a * d → n * v * 1 ≡ b * e → m * u * e * b ≡ a * (n * v * d)
cross m u d a n v e b p q =
    let x : m * u ≡ a * d = sym (mul-one (m * u)) ∙ p in
    let y : n * v ≡ b * e = sym (mul-one (n * v)) ∙ q in
    rw (x, y) (simp (mul_assoc, mul_comm, mul_left_comm))

quotient : (f : Format) (x y : Float) (a b : ℕ) → 0 < b → HasValue x false a 1 → HasValue y false b 1 → div f x y ≡ round f false a b
unfolding div
quotient f nan y a b B v w = absurd v
quotient f (inf s) y a b B v w = absurd v
quotient f (fin s m e) nan a b B v w = absurd w
quotient f (fin s m e) (inf t) a b B v w = absurd w
quotient f (fin s m e) (fin t n d) a b B v w =
    let num = m * up e * down d in
    let den = n * up d * down e in
    let P : 0 < n * up d = positive n (up d) b (down d) B (down_pos d) w.1 in
    cond_no (eqb n 0) (cond (eqb m 0) nan (inf (unlike s t))) (round f (unlike s t) num den) (no_zero n (up d) P)
    ∙ ap (λ (r : Bool). round f r num den) (ap₂ unlike v.0 w.0)
    ∙ round_same f false num den a b (mul-pos P (down_pos e)) B (cross m (up e) (down e) a n (up d) (down d) b v.1 w.1)

-- ---- a power of ten up to 10 ^ 18 is an f64: 10 ^ 10 is 5 ^ 10 * 2 ^ 10
shifted : (q : ℕ) → q < 2 ^ 53 → HasValue (round binary64 false (q * 2 ^ 10) 1) false (q * 2 ^ 10) 1
shifted q h =
    let l = low binary64 in
    round_exact binary64 false (q * 2 ^ 10) 1 q (10 + l) (pow_pos 0) h
    (lt_of_lt_of_le (shl_lt 53 (10 + l) h) (pow_mono {i = 53 + (10 + l)} {j = l + suc (emax binary64)} (lit≤ tt)))
    (mul_assoc q (2 ^ 10) (2 ^ l) ∙ ap (λ (z : ℕ). q * z) (sym (pow-add 2 10 l)) ∙ sym (mul-one (q * 2 ^ (10 + l))))

ten : (s k : ℕ) → s ≡ 10 ^ k → s ≤ 1000000000000000000 → HasValue (round binary64 false s 1) false s 1
ten s k e h = elim (split 9 k) [
  | inl l ↦
      let q = 10 ^ (k - 10) * 5 ^ 10 in
      let is : s ≡ q * 2 ^ 10 = e ∙ ap (λ (z : ℕ). 10 ^ z) (sym (sub-add_cancel l)) ∙ pow-add 10 (k - 10) 10 ∙ sym (mul_assoc (10 ^ (k - 10)) (5 ^ 10) (2 ^ 10)) in
      subst (λ (z : ℕ). HasValue (round binary64 false z 1) false z 1) (sym is) (shifted q (omega arith))
  | inr l ↦ round_whole binary64 false s (omega (arith, e, pow-le-pow_right (zero-lt-suc 9) l))
]

-- ---- the number that digits make
-- the two casts and the quotient
value : (whole s k : ℕ) → whole ≤ 9007199254740992 → s ≡ 10 ^ k → s ≤ 1000000000000000000 → div binary64 (of_int binary64 (pos whole)) (of_int binary64 (pos s)) ≡ round binary64 false whole s
unfolding of_int
value whole s k w e h =
    quotient binary64 (round binary64 false whole 1) (round binary64 false s 1) whole s (omega (arith, e, one-le-pow k 10 (zero-lt-suc 9))) (round_whole binary64 false whole w) (ten s k e h)

module _ (d : Digits) (h : Small d) (some : d.some ≡ true) (scale : Float) (cast : scale ≡ of_int binary64 (pos d.scale)) where
  made : div binary64 (of_int binary64 (pos d.whole)) scale ≡ round binary64 false d.whole d.scale
  made = rw cast (value d.whole d.scale h.ten.0 h.whole h.ten.1 h.scale)

  pub value-plus : Some (div binary64 (of_int binary64 (pos d.whole)) scale) ≡ value_of false d
  value-plus = rw some (ap Some made)

  pub value-minus : Some (neg (div binary64 (of_int binary64 (pos d.whole)) scale)) ≡ value_of true d
  value-minus = rw some (ap Some (ap neg made ∙ sym (round-neg binary64 false d.whole d.scale)))
