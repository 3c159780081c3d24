-- Digits by their hex values: to a base of at most 16 they are the digits of that base, and they write the same number.
use Rattle.std.proofs.Common.{◌≡◌, ℕ, ◌+◌, ◌*◌, ◌≤◌, Bool, true, false, cond, ◌&&◌, nat_lt, List, [], ◌∷◌, sym, refl, ap, ◌∙◌, le-ltb, lit≤, Some, None, Option, is_some}
use Rattle.std.specs.Char.{digit_value}
use Rattle.std.specs.Option.{option_and_then, option_map}
use Rattle.std.proofs.lemmas.Option.{cond_some}
use Rattle.decimal.specs.Digits.{hex_value, digit, all_digits, whole_from, each_digit, value_from, number_from, digits_number, hex_number_from, hex_digits_number}
use Rattle.decimal.proofs.Texts.{Carried, next_number, by-digit, is_some_when, number-carried}

-- a digit is a byte whose hex value is below the base
digit-hex : (base b : ℕ) → base ≤ 16 → digit base b ≡ cond (nat_lt (hex_value b) base) (Some (hex_value b)) None
unfolding hex_value
digit-hex base b h = go (nat_lt (digit_value b) 16)
  where
    go : (t : Bool) → cond (t && nat_lt (digit_value b) base) (Some (digit_value b)) None ≡ cond (nat_lt (cond t (digit_value b) 16) base) (Some (cond t (digit_value b) 16)) None
    go true = refl
    go false = ap (λ (t : Bool). cond t (Some 16) None) (sym (le-ltb 16 base h))

pub hex-carried : (base : ℕ) → base ≤ 16 → Carried (hex_number_from base) (next_number base)
unfolding all_digits whole_from
hex-carried base h = record {
  cons = λ n b l.
      by-digit (nat_lt (hex_value b) base) (all_digits base l) (hex_value b) (λ d. base * n + d) (λ m. whole_from base m l)
      ∙ ap (λ (d : Option ℕ). option_and_then (λ m. hex_number_from base m l) (option_map (λ d. base * n + d) d)) (sym (digit-hex base b h));
}

-- two results that are carried along alike are the same
module _ {S R : Type 0} {from two : S → List ℕ → Option R} {next : S → ℕ → Option S} (C : Carried from next) (D : Carried two next) (e : (s : S) → from s [] ≡ two s []) where
  one-step : (l : List ℕ) → ((s : S) → from s l ≡ two s l) → (o : Option S) → option_and_then (λ t. from t l) o ≡ option_and_then (λ t. two t l) o
  one-step l h (Some t) = h t
  one-step l h None = refl

  carried-alike : (l : List ℕ) (s : S) → from s l ≡ two s l
  carried-alike [] s = e s
  carried-alike (b ∷ l) s = C.cons s b l ∙ one-step l (carried-alike l) (next s b) ∙ sym (D.cons s b l)

module _ (base : ℕ) (h : base ≤ 16) where
  pub number-hex : (n : ℕ) (l : List ℕ) → number_from base n l ≡ hex_number_from base n l
  unfolding all_digits whole_from each_digit value_from
  number-hex n l = carried-alike (number-carried base) (hex-carried base h) (λ (m : ℕ). refl) l n

  pub digits-hex : (l : List ℕ) → each_digit base l ≡ all_digits base l
  digits-hex l = sym (is_some_when (each_digit base l) (value_from base 0 l)) ∙ ap (λ (o : Option ℕ). is_some o) (number-hex 0 l) ∙ is_some_when (all_digits base l) (whole_from base 0 l)

  pub value-hex : (n : ℕ) (l : List ℕ) → all_digits base l ≡ true → value_from base n l ≡ whole_from base n l
  value-hex n l d = (cond_some _ _ _ (number-hex n l ∙ rw d refl)).1

-- what digits write, and their hex values
pub read-hex : (base : ℕ) (l : List ℕ) → base ≤ 16 → digits_number base l ≡ hex_digits_number base l
read-hex base l h = number-hex base h 0 l

-- decimal and hex digits
module _ (l : List ℕ) where
  pub digits_ten : each_digit 10 l ≡ all_digits 10 l
  digits_ten = digits-hex 10 (lit≤ tt) l

  pub value_ten : all_digits 10 l ≡ true → value_from 10 0 l ≡ whole_from 10 0 l
  value_ten d = value-hex 10 (lit≤ tt) 0 l d

  pub digits_sixteen : each_digit 16 l ≡ all_digits 16 l
  digits_sixteen = digits-hex 16 (lit≤ tt) l

  pub value_sixteen : all_digits 16 l ≡ true → value_from 16 0 l ≡ whole_from 16 0 l
  value_sixteen d = value-hex 16 (lit≤ tt) 0 l d
