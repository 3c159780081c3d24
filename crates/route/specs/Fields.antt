-- What a field of a line is. Definitions only.
use Rattle.std.specs.Prelude.{ℕ, Bool, true, false, ◌&&◌, List, [], ◌∷◌, eqb, length, Float, Option, unwrap_or}
use Rattle.ieee.specs.Number.{+0}
use Rattle.decimal.specs.Number.{read_number, read_whole}
use Rattle.route.specs.Text.{field, bytes_of}

-- byte for byte the same
unfoldable pub same : List ℕ → List ℕ → Bool
same [] [] = true
same [] (b ∷ m) = false
same (a ∷ l) [] = false
same (a ∷ l) (b ∷ m) = eqb a b && same l m

-- the bytes of field k, from 0, of the line at `at`; none where the line has no such field
unfoldable pub field_bytes : List ℕ → ℕ → ℕ → List ℕ
unfolding field bytes_of
field_bytes text at k = bytes_of text (field text at k)

-- whether the line has no field k
unfoldable pub no_field : List ℕ → ℕ → ℕ → Bool
unfolding field_bytes
no_field text at k = eqb (length (field_bytes text at k)) 0

-- the number that field k is
unfoldable pub number_at : List ℕ → ℕ → ℕ → Option Float
unfolding field_bytes
number_at text at k = read_number (field_bytes text at k)

-- a number that is known to be one; 0 otherwise
abbrev pub or_zero : Option Float → Float
or_zero r = unwrap_or r +0

abbrev pub whole_or_zero : Option ℕ → ℕ
whole_or_zero r = unwrap_or r 0

-- the whole number that field k is
unfoldable pub whole_at : List ℕ → ℕ → ℕ → Option ℕ
unfolding field_bytes
whole_at text at k = read_whole (field_bytes text at k)
