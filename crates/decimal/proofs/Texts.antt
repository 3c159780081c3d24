-- A text from an index on: a result that is carried along, and the number that digits write.
use Rattle.std.proofs.Common.{◌≡◌, ℕ, ◌+◌, ◌*◌, ◌^◌, ◌<◌, ◌≤◌, Bool, true, false, cond, ◌&&◌, nat_lt, List, ◌∷◌, length, get_or, drop, sym, refl, ap, ◌∙◌, lt_of_lt_of_le, le_trans, mul-le-mul_left, mul-suc, add-one, arith, lit≤, ltb-true, Some, None, Option, is_some}
use native.Mathlib.Nat.{pow-succ', pow-le-pow_left, pow-le-pow_right}
use Rattle.std.specs.Char.{digit_value}
use Rattle.std.specs.Option.{option_and_then, option_map}
use Rattle.std.proofs.lemmas.Bool.{and_parts}
use Rattle.std.proofs.lemmas.List.{drop_more}
use Rattle.std.proofs.lemmas.Option.{cond_some}
use Rattle.decimal.specs.Digits.{digit, each_digit, value_from, number_from}
use Rattle.decimal.specs.Decimal.{step, digits_from}

-- ---- a result that is carried along, as long as each byte has a next one
pub record Carried {S R : Type 0} (from : S → List ℕ → Option R) (next : S → ℕ → Option S) : Type 0 where
  pub cons : (s : S) (b : ℕ) (l : List ℕ) → from s (b ∷ l) ≡ option_and_then (λ t. from t l) (next s b)

module _ {S R : Type 0} {from : S → List ℕ → Option R} {next : S → ℕ → Option S} (C : Carried from next) (l : List ℕ) (i : ℕ) (s : S) (h : i < length l) where
  carried-here : from s (drop i l) ≡ option_and_then (λ t. from t (drop (i + 1) l)) (next s (get_or l i 0))
  carried-here = ap (from s) (drop_more l i 0 h) ∙ C.cons s (get_or l i 0) (drop (i + 1) l)

  pub carried-next : (t : S) → next s (get_or l i 0) ≡ Some t → from t (drop (i + 1) l) ≡ from s (drop i l)
  carried-next t e = sym (carried-here ∙ rw e)

  pub carried-none : next s (get_or l i 0) ≡ None → None ≡ from s (drop i l)
  carried-none e = sym (carried-here ∙ rw e)

pub digits-carried : Carried digits_from step
unfolding digits_from
digits-carried = record { cons = λ d b l. refl }

-- ---- digits to a base
abbrev pub next_number : ℕ → ℕ → ℕ → Option ℕ
next_number base n b = option_map (λ d. base * n + d) (digit base b)

pub by-digit : (t u : Bool) (v : ℕ) (f g : ℕ → ℕ) → cond (t && u) (Some (g (f v))) None ≡ option_and_then (λ n. cond u (Some (g n)) None) (option_map f (cond t (Some v) None))
by-digit true u v f g = refl
by-digit false u v f g = refl

pub is_some_when : (t : Bool) (v : ℕ) → is_some (cond t (Some v) None) ≡ t
is_some_when true v = refl
is_some_when false v = refl

pub number-carried : (base : ℕ) → Carried (number_from base) (next_number base)
unfolding each_digit value_from
number-carried base = record {
  cons = λ n b l.
      let t = nat_lt (digit_value b) 16 && nat_lt (digit_value b) base in
      let f = λ (d : ℕ). base * n + d in
      let g = λ (m : ℕ). value_from base m l in
      ap (λ (s : Bool). cond (s && each_digit base l) (Some (g (f (digit_value b)))) None) (is_some_when t (digit_value b)) ∙ by-digit t (each_digit base l) (digit_value b) f g;
}

pub digit-lt : (base b d : ℕ) → digit base b ≡ Some d → d < base
digit-lt base b d e =
    let f = cond_some (nat_lt (digit_value b) 16 && nat_lt (digit_value b) base) (digit_value b) d e in
    rw (← f.1) (ltb-true (digit_value b) base (and_parts _ _ f.0).1)

module _ (base n i : ℕ) (h : n < base ^ i) where
  pub one_more : (d : ℕ) → d < base → base * n + d < base ^ (i + 1)
  one_more d k = rw (add-one, pow-succ' base i) (omega (arith, mul-le-mul_left base h, mul-suc base n))

  pub few-digits : i < 16 → base ≤ 16 → n < 16 ^ 15
  few-digits k b =
      let w : i ≤ 15 = omega arith in
      lt_of_lt_of_le h (le_trans (pow-le-pow_left b i) (pow-le-pow_right (lit≤ tt) w))
