-- The digits of a number, and the number that digits to a base write. Definitions only.
use Rattle.std.specs.Prelude.{ℕ, ◌+◌, ◌*◌, Bool, cond, ◌&&◌, List, Option, Some, None, fold, is_some, nat_lt}
use Rattle.std.specs.Char.{digit_value}
use Rattle.std.specs.List.{list_all}

-- a hex digit's value, 16 for any other byte
unfoldable pub hex_value : ℕ → ℕ
hex_value b = cond (nat_lt (digit_value b) 16) (digit_value b) 16

-- the value of a digit to a base, at most 16: 0 to 9, then a to f or A to F; none for any other byte
abbrev pub digit : ℕ → ℕ → Option ℕ
digit base b = cond (nat_lt (digit_value b) 16 && nat_lt (digit_value b) base) (Some (digit_value b)) None

-- every byte is a digit to a base, at most 16
unfoldable pub all_digits : ℕ → List ℕ → Bool
all_digits base l = list_all (λ b. nat_lt (hex_value b) base) l

-- digits to a base after those that make n
unfoldable pub whole_from : ℕ → ℕ → List ℕ → ℕ
whole_from base n l = fold (λ m b. base * m + hex_value b) n l

-- every byte is a digit to a base, whatever the base
unfoldable pub each_digit : ℕ → List ℕ → Bool
each_digit base l = list_all (λ b. is_some (digit base b)) l

-- what digits to a base, each at its value, make after n
unfoldable pub value_from : ℕ → ℕ → List ℕ → ℕ
value_from base n l = fold (λ m b. base * m + digit_value b) n l

-- the number that digits to a base write; none where a byte is no digit
abbrev pub number_from : ℕ → ℕ → List ℕ → Option ℕ
number_from base n l = cond (each_digit base l) (Some (value_from base n l)) None

abbrev pub digits_number : ℕ → List ℕ → Option ℕ
digits_number base l = number_from base 0 l

-- the same by hex values
abbrev pub hex_number_from : ℕ → ℕ → List ℕ → Option ℕ
hex_number_from base n l = cond (all_digits base l) (Some (whole_from base n l)) None

abbrev pub hex_digits_number : ℕ → List ℕ → Option ℕ
hex_digits_number base l = hex_number_from base 0 l
