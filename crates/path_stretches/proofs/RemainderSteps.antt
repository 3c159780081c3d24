-- The remainder of two values of binary64, taken off by doubling: every value is a count of the smallest one, and each step is exact.
use mathlib.Core.Path.{◌≡◌, refl, sym, ap, ap₂, ◌∙◌, subst}
use mathlib.Core.Logic.{◌⊎◌, inl, inr}
use Prim.Native.Nat.{ℕ, zero, suc, ◌+◌, ◌-◌, ◌*◌, ◌/◌, ◌%◌, ◌^◌, ◌≤◌, ◌<◌}
use native.Mathlib.Nat.{mul_assoc, mul_comm, mul_right_comm, add-mul, mul-sub, mul-add, mul-pos, zero-mul, mul-div_cancel, mul-lt-mul_of_pos_right, mul-le-mul_right, le_of_mul-le-mul_right, mod-eq-sub-mod, lt_of_mul-lt-mul_right, mod-add-div', add-mul-mod_self_right, mod-eq_of_lt, mod-lt, mod-le}
use native.Mathlib.Omega.{arith}
use mathlib.Core.Bool.{Bool, true, false, cond, false≢true}
use lib.IntN.{ℤ}
use lib.Dec.{T, ltb, eqb}
use lib.Pow.{pow-add, pow_pos}
use lib.Ieee.{Float, nan, inf, fin, binary64, low, up, down, round, sum, add, sub, neg, rem, lt, le, fits}
use lib.Ieee.Fits.{up_pos, down_pos, round-fits, add-fits}
use lib.Ieee.Exact.{HasValue, round_exact}
use lib.Ieee.Scale.{finite, overflow, round_same}
use lib.Ieee.Order.{round_mono}
use lib.Ieee.Positive.{positive}
use borrow.Author.Tests.{ltb-true, ltb-false, not-false, ne_eqb, lt-ltb}
use lib.Ieee.Bits.{cond_no}
use lib.Arith.{le→nltb}
use Rattle.ieee.specs.Number.{sign}
use Rattle.ieee.proofs.Order.{lt-is, of-true, lt_not_le}
use Rattle.ieee.proofs.Round.{fit, shift, shifted, round-of, round-neg, split}
use Rattle.ieee.proofs.OrderKey.{count, count-exact, by-counts, key}
use Rattle.path_stretches.specs.Remainder.{has_remainder}

-- ---- whole numbers
sub-mul : (a b c : ℕ) → (a - b) * c ≡ a * c - b * c
sub-mul a b c = mul_comm (a - b) c ∙ mul-sub c a b ∙ ap₂ (λ (x y : ℕ). x - y) (mul_comm c a) (mul_comm c b)

twice : (q p : ℕ) → q * p + q * p ≡ q * (p * 2 ^ 1)
twice q p = omega (arith, mul_assoc q p 2)

-- a factor that both sides have
scaled-mod : (a b c : ℕ) → 0 < b → 0 < c → a * c % (b * c) ≡ a % b * c
scaled-mod a b c B C =
    let parts : a * c ≡ a % b * c + a / b * (b * c) = ap (λ (z : ℕ). z * c) (sym (mod-add-div' a b)) ∙ add-mul (a % b) (a / b * b) c ∙ ap (λ (z : ℕ). a % b * c + z) (mul_assoc (a / b) b c) in
    ap (λ (z : ℕ). z % (b * c)) parts
    ∙ add-mul-mod_self_right (a % b * c) (a / b) (b * c)
    ∙ mod-eq_of_lt (mul-lt-mul_of_pos_right (mod-lt a B) C)

-- a number of at most 53 binary digits, shifted
record Shifted (c : ℕ) : Type 0 where
  pub digits : ℕ
  pub places : ℕ
  pub few : digits < 2 ^ 53
  pub is : c ≡ digits * 2 ^ places

-- two shifted numbers as counts of the smaller place
record Alike (a b : ℕ) : Type 0 where
  pub left : ℕ
  pub right : ℕ
  pub places : ℕ
  pub left-is : a ≡ left * 2 ^ places
  pub right-is : b ≡ right * 2 ^ places
  pub few : (left < 2 ^ 53) ⊎ (right < 2 ^ 53)

order : (i j : ℕ) → (i ≤ j) ⊎ (j ≤ i)
order i j = elim (ltb i j) as (λ t. ltb i j ≡ t → (i ≤ j) ⊎ (j ≤ i)) [
  | true ↦ λ h. inl (omega (arith, ltb-true i j h))
  | false ↦ λ h. inr (omega (arith, ltb-false i j h))
] refl

lowered : (q i k : ℕ) → k ≤ i → q * 2 ^ i ≡ q * 2 ^ (i - k) * 2 ^ k
lowered q i k h = ap (λ (z : ℕ). q * 2 ^ z) (omega arith) ∙ ap (λ (z : ℕ). q * z) (pow-add 2 (i - k) k) ∙ sym (mul_assoc q (2 ^ (i - k)) (2 ^ k))

alike : (a b : ℕ) → Shifted a → Shifted b → Alike a b
alike a b x y = elim (order x.places y.places) [
  | inl h ↦ record { left = x.digits; right = y.digits * 2 ^ (y.places - x.places); places = x.places; left-is = x.is; right-is = y.is ∙ lowered y.digits y.places x.places h; few = inl x.few }
  | inr h ↦ record { left = x.digits * 2 ^ (x.places - y.places); right = y.digits; places = y.places; left-is = x.is ∙ lowered x.digits x.places y.places h; right-is = y.is; few = inr y.few }
]

positive-factor : (q s c : ℕ) → 0 < c → c ≡ q * s → 0 < q
positive-factor zero s c h e = let z : c ≡ 0 = e ∙ zero-mul s in omega arith
positive-factor (suc q) s c h e = omega arith

-- the remainder of two shifted numbers is one
mod-shifted : (a b : ℕ) → 0 < b → Shifted a → Shifted b → Shifted (a % b)
mod-shifted a b B x y =
    let w = alike a b x y in
    let some : 0 < w.right = positive-factor w.right (2 ^ w.places) b B w.right-is in
    record {
      digits = w.left % w.right;
      places = w.places;
      few = elim w.few [
        | inl h ↦ omega (arith, mod-le w.left w.right)
        | inr h ↦ omega (arith, mod-lt w.left some)
      ];
      is = ap₂ (λ (a b : ℕ). a % b) w.left-is w.right-is ∙ scaled-mod w.left w.right (2 ^ w.places) some (pow_pos w.places);
    }

-- and so is the difference, up to twice the second
difference-shifted : (a b : ℕ) → b ≤ a → a < b + b → Shifted a → Shifted b → Shifted (a - b)
difference-shifted a b h k x y =
    let w = alike a b x y in
    let p = 2 ^ w.places in
    let twice : w.left * p < (w.right + w.right) * p = rw (add-mul w.right w.right p, ← w.left-is, ← w.right-is) k in
    let near : w.left < w.right + w.right = lt_of_mul-lt-mul_right p twice in
    record {
      digits = w.left - w.right;
      places = w.places;
      few = elim w.few [ inl h ↦ omega arith | inr h ↦ omega arith ];
      is = ap₂ (λ (a b : ℕ). a - b) w.left-is w.right-is ∙ sym (sub-mul w.left w.right p);
    }

-- ---- values as counts
shifted-count : (s : Bool) (m : ℕ) (e : ℤ) → T (fits binary64 (fin s m e)) → Shifted (count binary64 m e)
shifted-count s zero e h =
    record { digits = 0; places = 0; few = omega arith; is = ap (λ (k : ℕ). k / down e) (simp zero-mul) ∙ mul-div_cancel 0 (down_pos e) }
shifted-count s (suc m) e h =
    let k = fit binary64 s m e h in
    let g = shift binary64 e k.lowest in
    record {
      digits = suc m;
      places = g.0;
      few = k.digits;
      is = ap (λ (k : ℕ). k / down e) (shifted (suc m) (up e) (down e) g.0 (2 ^ low binary64) g.1) ∙ mul-div_cancel (suc m * 2 ^ g.0) (down_pos e);
    }

-- a value with a clear sign and its count
record Counted (x : Float) (c : ℕ) : Type 0 where
  pub m : ℕ
  pub e : ℤ
  pub is : x ≡ fin false m e
  pub count-is : count binary64 m e ≡ c

of-value : (x : Float) (c : ℕ) → HasValue x false c (2 ^ low binary64) → Counted x c
of-value nan c h = absurd h
of-value (inf s) c h = absurd h
of-value (fin s m e) c h =
    record { m = m; e = e; is = ap (λ (b : Bool). fin b m e) h.0; count-is = ap (λ (k : ℕ). k / down e) h.1 ∙ mul-div_cancel c (down_pos e) }

-- a shifted number of counts is a value
held : (c : ℕ) → Shifted c → c < overflow binary64 → Counted (round binary64 false c (2 ^ low binary64)) c
held c x h =
    let e = x.is in
    of-value _ c (subst (λ (z : ℕ). HasValue (round binary64 false z (2 ^ low binary64)) false z (2 ^ low binary64)) (sym e)
    (round_exact binary64 false (x.digits * 2 ^ x.places) (2 ^ low binary64) x.digits x.places (pow_pos (low binary64)) x.few (subst (λ (z : ℕ). z < overflow binary64) e h) refl))

-- ---- x = m * 2 ^ e not below 0 and y = n * 2 ^ d above it
module _ (m : ℕ) (e : ℤ) (n : ℕ) (d : ℤ) (x-fits : T (fits binary64 (fin false m e))) (y-fits : T (fits binary64 (fin false n d))) (some : 0 < n) where
  abbrev X : ℕ
  X = count binary64 m e

  abbrev Y : ℕ
  Y = count binary64 n d

  abbrev l : ℕ
  l = 2 ^ low binary64

  abbrev left : ℕ
  left = m * up e * down d

  abbrev right : ℕ
  right = n * up d * down e

  abbrev below : ℕ
  below = down e * down d

  x-count : X * down e ≡ m * up e * l
  x-count = (count-exact binary64 false m e x-fits).0

  y-count : Y * down d ≡ n * up d * l
  y-count = (count-exact binary64 false n d y-fits).0

  in-range : X < overflow binary64
  in-range = (count-exact binary64 false m e x-fits).1

  above-zero : 0 < Y
  above-zero = positive-factor Y (down d) (n * up d * l) (mul-pos (mul-pos some (up_pos d)) (pow_pos (low binary64))) (sym y-count)

  left-is : left * l ≡ X * below
  left-is = mul_right_comm (m * up e) (down d) l ∙ ap (λ (z : ℕ). z * down d) (sym x-count) ∙ mul_assoc X (down e) (down d)

  right-is : right * l ≡ Y * below
  right-is =
      mul_right_comm (n * up d) (down e) l ∙ ap (λ (z : ℕ). z * down e) (sym y-count) ∙ mul_assoc Y (down d) (down e)
      ∙ ap (λ (z : ℕ). Y * z) (mul_comm (down d) (down e))

  below-pos : 0 < below
  below-pos = mul-pos (down_pos e) (down_pos d)

  rem-is : rem binary64 (fin false m e) (fin false n d) ≡ round binary64 false (X % Y) l
  unfolding rem
  rem-is =
      let right-pos : 0 < right = mul-pos (mul-pos some (up_pos d)) (down_pos e) in
      ap (λ (b : Bool). cond b nan (round binary64 false (left % right) below)) (ne_eqb n 0 (λ z. omega arith))
      ∙ round_same binary64 false (left % right) below (X % Y) l below-pos (pow_pos (low binary64))
      (sym (scaled-mod left right l right-pos (pow_pos (low binary64)))
      ∙ ap₂ (λ (a b : ℕ). a % b) left-is right-is
      ∙ scaled-mod X Y below above-zero below-pos)

  not-less : Y ≤ X → right ≤ left
  not-less h = le_of_mul-le-mul_right (rw (left-is, right-is) (mul-le-mul_right below h)) (pow_pos (low binary64))

  sub-is : Y ≤ X → sub binary64 (fin false m e) (fin false n d) ≡ round binary64 false (X - Y) l
  unfolding sub add neg sum
  sub-is h =
      cond_no (ltb left right) (round binary64 true (right - left) below) (round binary64 false (left - right) below) (le→nltb left right (not-less h))
      ∙ round_same binary64 false (left - right) below (X - Y) l below-pos (pow_pos (low binary64))
      (sub-mul left right l ∙ ap₂ (λ (a b : ℕ). a - b) left-is right-is ∙ sym (sub-mul X Y below))

  lt-holds : lt (fin false m e) (fin false n d) ≡ true → X < Y
  lt-holds h = elim (split X Y) [
    | inl k ↦ k
    | inr k ↦ absurd (lt_not_le (fin false m e) (fin false n d) (of-true h) ((by-counts binary64 false n d false m e y-fits x-fits).1 (omega arith)))
  ]

  lt-fails : lt (fin false m e) (fin false n d) ≡ false → Y ≤ X
  lt-fails h =
      let k = (by-counts binary64 false n d false m e y-fits x-fits).0 (of-true (not-false (le (fin false n d) (fin false m e)) (sym (lt-is (fin false m e) (fin false n d) tt tt) ∙ h))) in
      omega (arith, k)

  -- y is above x: nothing is taken off
  small : lt (fin false m e) (fin false n d) ≡ true → fin false m e ≡ rem binary64 (fin false m e) (fin false n d)
  small h =
      sym (rem-is ∙ ap (λ (z : ℕ). round binary64 false z l) (mod-eq_of_lt (lt-holds h))
      ∙ round-of binary64 false false m e X l x-fits (pow_pos (low binary64)) x-count)

  taken-once : Y ≤ X → X < Y + Y → X % Y ≡ X - Y
  taken-once h k = mod-eq-sub-mod h ∙ mod-eq_of_lt (omega arith)

  -- what is left after y is taken off once is below y
  once : lt (fin false m e) (fin false n d) ≡ false → lt (sub binary64 (fin false m e) (fin false n d)) (fin false n d) ≡ true
      → sub binary64 (fin false m e) (fin false n d) ≡ rem binary64 (fin false m e) (fin false n d)
  once h k =
      let g = lt-fails h in
      let whole = round-of binary64 false false n d Y l y-fits (pow_pos (low binary64)) y-count in
      let near : X < Y + Y = elim (split X (Y + Y)) [
        | inl j ↦ j
        | inr j ↦
            let up : T (le (fin false n d) (sub binary64 (fin false m e) (fin false n d))) =
            rw (sub-is g, ← whole) (round_mono binary64 Y l (X - Y) l (pow_pos (low binary64)) (pow_pos (low binary64)) (mul-le-mul_right l (omega arith))) in
            absurd (lt_not_le (sub binary64 (fin false m e) (fin false n d)) (fin false n d) (of-true k) up)
      ] in
      sub-is g ∙ ap (λ (z : ℕ). round binary64 false z l) (sym (taken-once g near)) ∙ sym rem-is

  difference : Y ≤ X → X < Y + Y → Counted (round binary64 false (X - Y) l) (X - Y)
  difference h k = held (X - Y) (difference-shifted X Y h k (shifted-count false m e x-fits) (shifted-count false n d y-fits)) (omega (arith, in-range))

  -- what is left is y or more: y fits twice
  far : lt (fin false m e) (fin false n d) ≡ false → lt (sub binary64 (fin false m e) (fin false n d)) (fin false n d) ≡ false → Y + Y ≤ X
  far h k = elim (split X (Y + Y)) [
    | inl j ↦
        let g = lt-fails h in
        let r = difference g j in
        let is : sub binary64 (fin false m e) (fin false n d) ≡ fin false r.m r.e = sub-is g ∙ r.is in
        let held-fits : T (fits binary64 (fin false r.m r.e)) = subst (λ (z : Float). T (fits binary64 z)) r.is (round-fits binary64 false (X - Y) l) in
        let no = by-counts binary64 false n d false r.m r.e y-fits held-fits in
        let le-is : le (fin false n d) (fin false r.m r.e) ≡ true =
        not-false (le (fin false n d) (fin false r.m r.e)) (sym (lt-is (fin false r.m r.e) (fin false n d) tt tt) ∙ ap (λ (z : Float). lt z (fin false n d)) (sym is) ∙ k) in
        let c = no.0 (of-true le-is) in
        omega (arith, c, r.count-is, above-zero)
    | inr j ↦ j
  ]

  -- twice y, which is a value as long as it is at most x
  double : Y + Y ≤ X → Counted (add binary64 (fin false n d) (fin false n d)) (Y + Y)
  unfolding add sum
  double h =
      let a = n * up d * down d in
      let two : a * l ≡ Y * (down d * down d) = mul_right_comm (n * up d) (down d) l ∙ ap (λ (z : ℕ). z * down d) (sym y-count) ∙ mul_assoc Y (down d) (down d) in
      let is : round binary64 false (a + a) (down d * down d) ≡ round binary64 false (Y + Y) l =
      round_same binary64 false (a + a) (down d * down d) (Y + Y) l (mul-pos (down_pos d) (down_pos d)) (pow_pos (low binary64))
      (add-mul a a l ∙ ap₂ (λ (x y : ℕ). x + y) two two ∙ sym (add-mul Y Y (down d * down d))) in
      let half = shifted-count false n d y-fits in
      let whole : Shifted (Y + Y) =
      record {
        digits = half.digits;
        places = half.places + 1;
        few = half.few;
        is = ap₂ (λ (x y : ℕ). x + y) half.is half.is ∙ twice half.digits (2 ^ half.places) ∙ ap (λ (z : ℕ). half.digits * z) (sym (pow-add 2 half.places 1));
      } in
      subst (λ (z : Float). Counted z (Y + Y)) (sym is) (held (Y + Y) whole (omega (arith, in-range)))

positive-count : (k : ℕ) (g : ℤ) → 0 < count binary64 k g → 0 < k
positive-count zero g h =
    let none : count binary64 zero g ≡ 0 = ap (λ (z : ℕ). z / down g) (simp zero-mul) ∙ mul-div_cancel 0 (down_pos g) in
    omega arith
positive-count (suc k) g h = omega arith

-- ---- the remainder by z, which is twice y
module _ (m : ℕ) (e : ℤ) (n : ℕ) (d : ℤ) (x-fits : T (fits binary64 (fin false m e))) (y-fits : T (fits binary64 (fin false n d))) (some : 0 < n)
    (z : Float) (doubled : Counted z (count binary64 n d + count binary64 n d)) (z-fits : T (fits binary64 z)) where
  abbrev x-count' : ℕ
  x-count' = count binary64 m e

  abbrev y-count' : ℕ
  y-count' = count binary64 n d

  abbrev rest : ℕ
  rest = x-count' % (y-count' + y-count')

  y-above : 0 < y-count'
  y-above = above-zero m e n d x-fits y-fits some

  form-fits : T (fits binary64 (fin false doubled.m doubled.e))
  form-fits = subst (λ (z : Float). T (fits binary64 z)) doubled.is z-fits

  z-some : 0 < doubled.m
  z-some = positive-count doubled.m doubled.e (omega (arith, doubled.count-is, y-above))

  z-rem : rem binary64 (fin false m e) z ≡ round binary64 false rest (2 ^ low binary64)
  z-rem =
      ap (rem binary64 (fin false m e)) doubled.is ∙ rem-is m e doubled.m doubled.e x-fits form-fits z-some
      ∙ ap (λ (z : ℕ). round binary64 false (x-count' % z) (2 ^ low binary64)) doubled.count-is

  rest-below : rest < y-count' + y-count'
  rest-below = mod-lt x-count' (omega (arith, y-above))

  rest-value : Counted (round binary64 false rest (2 ^ low binary64)) rest
  rest-value =
      held rest
      (mod-shifted x-count' (y-count' + y-count') (omega (arith, y-above)) (shifted-count false m e x-fits)
      (subst Shifted doubled.count-is (shifted-count false doubled.m doubled.e form-fits)))
      (omega (arith, mod-le x-count' (y-count' + y-count'), (count-exact binary64 false m e x-fits).1))

  again : x-count' % y-count' ≡ rest % y-count'
  again =
      let q = x-count' / (y-count' + y-count') in
      let whole : q * (y-count' + y-count') ≡ (q + q) * y-count' = mul-add q y-count' y-count' ∙ sym (add-mul q q y-count') in
      ap (λ (z : ℕ). z % y-count') (sym (mod-add-div' x-count' (y-count' + y-count')) ∙ ap (λ (z : ℕ). rest + z) whole)
      ∙ add-mul-mod_self_right rest (q + q) y-count'

  module _ (s : Float) (left-over : s ≡ rem binary64 (fin false m e) z) where
    s-is : s ≡ fin false rest-value.m rest-value.e
    s-is = left-over ∙ z-rem ∙ rest-value.is

    s-fits : T (fits binary64 (fin false rest-value.m rest-value.e))
    s-fits = subst (λ (z : Float). T (fits binary64 z)) rest-value.is (round-fits binary64 false rest (2 ^ low binary64))

    small-rest : lt s (fin false n d) ≡ true → s ≡ rem binary64 (fin false m e) (fin false n d)
    small-rest h =
        let k = lt-holds rest-value.m rest-value.e n d s-fits y-fits some (sym (ap (λ (z : Float). lt z (fin false n d)) s-is) ∙ h) in
        let same : x-count' % y-count' ≡ rest = again ∙ mod-eq_of_lt (omega (arith, k, rest-value.count-is)) in
        left-over ∙ z-rem ∙ ap (λ (z : ℕ). round binary64 false z (2 ^ low binary64)) (sym same) ∙ sym (rem-is m e n d x-fits y-fits some)

    large-rest : lt s (fin false n d) ≡ false → sub binary64 s (fin false n d) ≡ rem binary64 (fin false m e) (fin false n d)
    large-rest h =
        let k = lt-fails rest-value.m rest-value.e n d s-fits y-fits some (sym (ap (λ (z : Float). lt z (fin false n d)) s-is) ∙ h) in
        let g : y-count' ≤ rest = omega (arith, k, rest-value.count-is) in
        let same : x-count' % y-count' ≡ rest - y-count' = again ∙ mod-eq-sub-mod g ∙ mod-eq_of_lt (omega (arith, rest-below)) in
        ap (λ (z : Float). sub binary64 z (fin false n d)) s-is
        ∙ sub-is rest-value.m rest-value.e n d s-fits y-fits some k
        ∙ ap (λ (z : ℕ). round binary64 false (z - y-count') (2 ^ low binary64)) rest-value.count-is
        ∙ ap (λ (z : ℕ). round binary64 false z (2 ^ low binary64)) (sym same)
        ∙ sym (rem-is m e n d x-fits y-fits some)

-- ---- of any two values that a remainder is asked of
by-forms : (P : Float → Float → Type 0)
    → ((m : ℕ) (e : ℤ) (n : ℕ) (d : ℤ) → T (fits binary64 (fin false m e)) → T (fits binary64 (fin false n d)) → 0 < n → P (fin false m e) (fin false n d))
    → (x y : Float) → T (fits binary64 x) → T (fits binary64 y) → has_remainder x y ≡ true → P x y
by-forms P f nan y p q h = absurd (false≢true h)
by-forms P f (inf s) y p q h = absurd (false≢true h)
by-forms P f (fin true m e) y p q h = absurd (false≢true h)
by-forms P f (fin false m e) nan p q h = absurd (false≢true h)
by-forms P f (fin false m e) (inf s) p q h = absurd (false≢true h)
by-forms P f (fin false m e) (fin true n d) p q h = absurd (false≢true h)
by-forms P f (fin false m e) (fin false n d) p q h = f m e n d p q (ltb-true 0 n h)

module _ (x y : Float) (x-fits : T (fits binary64 x)) (y-fits : T (fits binary64 y)) (asked : has_remainder x y ≡ true) where
  pub nothing-taken : lt x y ≡ true → x ≡ rem binary64 x y
  nothing-taken = by-forms (λ x y. lt x y ≡ true → x ≡ rem binary64 x y) (λ m e n d p q s. small m e n d p q s) x y x-fits y-fits asked

  pub taken-off : lt x y ≡ false → lt (sub binary64 x y) y ≡ true → sub binary64 x y ≡ rem binary64 x y
  taken-off =
      by-forms (λ x y. lt x y ≡ false → lt (sub binary64 x y) y ≡ true → sub binary64 x y ≡ rem binary64 x y) (λ m e n d p q s. once m e n d p q s) x y x-fits y-fits asked

  pub twice-asked : lt x y ≡ false → lt (sub binary64 x y) y ≡ false → has_remainder x (add binary64 y y) ≡ true
  twice-asked =
      by-forms (λ x y. lt x y ≡ false → lt (sub binary64 x y) y ≡ false → has_remainder x (add binary64 y y) ≡ true)
      (λ m e n d p q s h k.
      let z = double m e n d p q s (far m e n d p q s h k) in
      let above : 0 < z.m = positive-count z.m z.e (omega (arith, z.count-is, above-zero m e n d p q s)) in
      rw (z.is, lt-ltb 0 z.m above)) x y x-fits y-fits asked

  pub twice-nearer : lt x y ≡ false → lt (sub binary64 x y) y ≡ false → key binary64 x - key binary64 (add binary64 y y) < key binary64 x - key binary64 y
  unfolding key
  twice-nearer =
      by-forms (λ x y. lt x y ≡ false → lt (sub binary64 x y) y ≡ false → key binary64 x - key binary64 (add binary64 y y) < key binary64 x - key binary64 y)
      (λ m e n d p q s h k.
      let f = far m e n d p q s h k in
      let z = double m e n d p q s f in
      rw z.is (omega (arith, z.count-is, f, above-zero m e n d p q s))) x y x-fits y-fits asked

  pub rest-small : lt x y ≡ false → lt (sub binary64 x y) y ≡ false → (s : Float) → s ≡ rem binary64 x (add binary64 y y) → lt s y ≡ true → s ≡ rem binary64 x y
  rest-small =
      by-forms (λ x y. lt x y ≡ false → lt (sub binary64 x y) y ≡ false → (s : Float) → s ≡ rem binary64 x (add binary64 y y) → lt s y ≡ true → s ≡ rem binary64 x y)
      (λ m e n d p q s h k v w. small-rest m e n d p q s (add binary64 (fin false n d) (fin false n d)) (double m e n d p q s (far m e n d p q s h k)) (add-fits binary64 (fin false n d) (fin false n d)) v w)
      x y x-fits y-fits asked

  pub rest-large : lt x y ≡ false → lt (sub binary64 x y) y ≡ false → (s : Float) → s ≡ rem binary64 x (add binary64 y y) → lt s y ≡ false → sub binary64 s y ≡ rem binary64 x y
  rest-large =
      by-forms (λ x y. lt x y ≡ false → lt (sub binary64 x y) y ≡ false → (s : Float) → s ≡ rem binary64 x (add binary64 y y) → lt s y ≡ false → sub binary64 s y ≡ rem binary64 x y)
      (λ m e n d p q s h k v w. large-rest m e n d p q s (add binary64 (fin false n d) (fin false n d)) (double m e n d p q s (far m e n d p q s h k)) (add-fits binary64 (fin false n d) (fin false n d)) v w)
      x y x-fits y-fits asked

-- ---- a value of either sign, and what is no number
pub no-remainder : (x y : Float) → finite x ≡ false → sub binary64 x x ≡ rem binary64 x y
unfolding sub add neg rem
no-remainder nan y h = refl
no-remainder (inf true) y h = refl
no-remainder (inf false) y h = refl
no-remainder (fin s m e) y h = absurd (false≢true (sym h))

pub asked-clear : (x y : Float) → finite x ≡ true → sign x ≡ false → positive y ≡ true → has_remainder x y ≡ true
asked-clear x y h k p = rw (h, k, p)

pub asked-set : (x y : Float) → finite x ≡ true → sign x ≡ true → positive y ≡ true → has_remainder (neg x) y ≡ true
unfolding neg
asked-set nan y h k p = absurd (false≢true h)
asked-set (inf s) y h k p = absurd (false≢true h)
asked-set (fin false m e) y h k p = absurd (false≢true k)
asked-set (fin true m e) y h k p = p

pub turned : (x y : Float) → finite x ≡ true → sign x ≡ true → positive y ≡ true → neg (rem binary64 (neg x) y) ≡ rem binary64 x y
unfolding neg rem
turned nan y h k p = absurd (false≢true h)
turned (inf s) y h k p = absurd (false≢true h)
turned (fin false m e) y h k p = absurd (false≢true k)
turned (fin true m e) nan h k p = absurd (false≢true p)
turned (fin true m e) (inf t) h k p = absurd (false≢true p)
turned (fin true m e) (fin true n d) h k p = absurd (false≢true p)
turned (fin true m e) (fin false n d) h k p =
    let none : eqb n 0 ≡ false = ne_eqb n 0 (λ z. let some = ltb-true 0 n p in omega arith) in
    let a = m * up e * down d % (n * up d * down e) in
    let c = down e * down d in
    ap (λ (b : Bool). neg (cond b nan (round binary64 false a c))) none ∙ sym (round-neg binary64 false a c) ∙ sym (ap (λ (b : Bool). cond b nan (round binary64 true a c)) none)
