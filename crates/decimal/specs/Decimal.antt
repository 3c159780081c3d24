-- A decimal and the number that it is: its digits as one whole number, divided by a power of ten, rounded once. Definitions only.
use Rattle.std.specs.Prelude.{ℕ, ◌+◌, ◌-◌, ◌*◌, Bool, true, false, cond, not, ◌&&◌, List, [], ◌∷◌, ◌==◌, nat_le, Option, Some, None, option_and_then, Float}
use Rattle.std.specs.Char.{is_ascii_digit}
use Rattle.std.specs.Float.Ieee.{round}
use Rattle.std.specs.Float.{binary64}
use Rattle.decimal.specs.declared.decimal.Digits.{Digits}

abbrev pub start : Digits
start = record { whole = 0; scale = 1; point = false; some = false }

-- a digit more: the whole number is at most 2 ^ 53 and the power of ten at most 10 ^ 18, so that both are f64s; what passes is no number here
abbrev pub with_digit : Digits → ℕ → Option Digits
with_digit d b =
    let whole = 10 * d.whole + (b - 48) in
    let scale = cond d.point (10 * d.scale) d.scale in
    cond (nat_le whole 9007199254740992 && nat_le scale 1000000000000000000)
    (Some (record { whole = whole; scale = scale; point = d.point; some = true }))
    None

-- a byte that is no digit: only one point passes
abbrev pub with_other : Digits → ℕ → Option Digits
with_other d b = cond (b == 46 && not d.point) (Some (record { whole = d.whole; scale = d.scale; point = true; some = d.some })) None

abbrev pub step : Digits → ℕ → Option Digits
step d b = cond (is_ascii_digit b) (with_digit d b) (with_other d b)

unfoldable pub digits_from : Digits → List ℕ → Option Digits
digits_from d [] = Some d
digits_from d (b ∷ l) = option_and_then (λ e. digits_from e l) (step d b)

abbrev pub digits_of : List ℕ → Option Digits
digits_of l = digits_from start l

-- the whole number over the power of ten, rounded once; there is some digit
abbrev pub value_of : Bool → Digits → Option Float
value_of negative d = cond d.some (Some (round binary64 negative d.whole d.scale)) None

-- 45 is the sign -
unfoldable pub read_decimal : List ℕ → Option Float
unfolding digits_from round
read_decimal [] = None
read_decimal (b ∷ l) = cond (b == 45) (option_and_then (value_of true) (digits_of l)) (option_and_then (value_of false) (digits_of (b ∷ l)))
