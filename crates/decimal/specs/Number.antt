-- A number of a text: 0x and 16 hex digits are its bits, anything else is a decimal. A whole number is digits alone, below 2 ^ 32. Definitions only.
use Rattle.std.specs.Prelude.{ℕ, Bool, cond, ◌&&◌, List, length, drop, ◌==◌, nat_le, slice_index, Option, Some, None, option_and_then, Float}
use Rattle.std.specs.Option.{option_or}
use Rattle.std.specs.Float.Ieee.{of_bits}
use Rattle.std.specs.Float.{binary64}
use Rattle.decimal.specs.Digits.{all_digits, whole_from}
use Rattle.decimal.specs.Decimal.{read_decimal}

-- begins with 0x
abbrev pub has_mark : List ℕ → Bool
has_mark l = slice_index l 0 == 48 && slice_index l 1 == 120

-- what is behind 0x; none where a text does not begin so
abbrev pub behind_mark : List ℕ → Option (List ℕ)
behind_mark l = cond (has_mark l) (Some (drop 2 l)) None

-- the f64 whose bits 16 hex digits write; none for anything else
unfoldable pub of_hex : List ℕ → Option Float
unfolding all_digits whole_from of_bits
of_hex l = cond (length l == 16 && all_digits 16 l) (Some (of_bits binary64 (whole_from 16 0 l))) None

unfoldable pub read_number : List ℕ → Option Float
unfolding of_hex read_decimal
read_number l = option_or (option_and_then of_hex (behind_mark l)) (read_decimal l)

-- one to ten digits, below 2 ^ 32
unfoldable pub read_whole : List ℕ → Option ℕ
unfolding all_digits whole_from
read_whole l = cond (nat_le 1 (length l) && (nat_le (length l) 10 && (all_digits 10 l && nat_le (whole_from 10 0 l) 4294967295))) (Some (whole_from 10 0 l)) None
