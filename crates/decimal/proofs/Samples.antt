-- Texts and what they are, computed.
use Rattle.std.proofs.Common.{◌≡◌, ℕ, false, List, [] as nil, ◌∷◌ as ◌then◌, refl, Option, Some, None}
use Prim.Native.Char.{code}
use Prim.Native.String.{String, [], ◌∷◌}
use lib.Ieee.{Float, nan, of_bits, binary64, round}
use Rattle.decimal.specs.Digits.{hex_value}
use Rattle.decimal.specs.Decimal.{read_decimal}
use Rattle.decimal.specs.Number.{read_number, read_whole}
use Rattle.decimal.specs.Fault.{fault_of, whole_fault_of}
use Rattle.decimal.specs.declared.fault.Fault.TheVariants as Faults
use Rattle.decimal.specs.declared.fault.WholeFault.TheVariants as WholeFaults

-- the bytes of an ASCII text
abbrev bytes : String → List ℕ
bytes [] = nil
bytes (c ∷ s) = code c then bytes s

-- the f64 with these bits
abbrev bits : ℕ → Option Float
bits n = Some (of_bits binary64 n)

twenty : read_number (bytes "20") ≡ bits 0x4034_0000_0000_0000
unfolding read_number hex_value of_bits
twenty = refl

tenth : read_number (bytes "0.1") ≡ bits 0x3fb9_9999_9999_999a
unfolding read_number hex_value of_bits
tenth = refl

minus-zero : read_number (bytes "-0") ≡ bits 0x8000_0000_0000_0000
unfolding read_number hex_value of_bits
minus-zero = refl

one_and_a_half : read_number (bytes "1.5") ≡ bits 0x3ff8_0000_0000_0000
unfolding read_number hex_value of_bits
one_and_a_half = refl

two-points : read_number (bytes "1.2.3") ≡ None
unfolding read_number hex_value
two-points = refl

empty : read_number (bytes "") ≡ None
unfolding read_number hex_value
empty = refl

point-alone : read_number (bytes ".") ≡ None
unfolding read_number hex_value
point-alone = refl

-- 2 ^ 53, and one more, which is too large
largest : read_decimal (bytes "9007199254740992") ≡ bits 0x4340_0000_0000_0000
unfolding read_decimal of_bits
largest = refl

too_large : read_decimal (bytes "9007199254740993") ≡ None
unfolding read_decimal
too_large = refl

-- 0x and 16 hex digits are bits
bits-of-twenty : read_number (bytes "0x4034000000000000") ≡ read_number (bytes "20")
unfolding read_number hex_value
bits-of-twenty = refl

-- a NaN's bits
no_number : read_number (bytes "0x7ff8000000000000") ≡ Some nan
unfolding read_number hex_value
no_number = refl

fifteen_digits : read_number (bytes "0x7ff800000000000") ≡ None
unfolding read_number hex_value
fifteen_digits = refl

-- 16 digits without the mark: a decimal, or no number
digits-are-decimal : read_number (bytes "1234567890123456") ≡ Some (round binary64 false 1234567890123456 1)
unfolding read_number hex_value round
digits-are-decimal = refl

no-mark : read_number (bytes "7ff8000000000000") ≡ None
unfolding read_number hex_value
no-mark = refl

-- ---- why a text is no number
exponent : fault_of (bytes "1e3") ≡ Some Faults.Exponent
unfolding fault_of hex_value
exponent = refl

comma : fault_of (bytes "20,5") ≡ Some Faults.Comma
unfolding fault_of hex_value
comma = refl

plus : fault_of (bytes "+20") ≡ Some Faults.Plus
unfolding fault_of hex_value
plus = refl

-- one more than 2 ^ 53, and a point more
above : fault_of (bytes "-9007199254740993") ≡ Some Faults.TooLarge
unfolding fault_of hex_value
above = refl

above-with-point : fault_of (bytes "9007199254740992.5") ≡ Some Faults.TooLarge
unfolding fault_of hex_value
above-with-point = refl

nineteen-places : fault_of (bytes "0.0000000000000000001") ≡ Some Faults.Places
unfolding fault_of hex_value
nineteen-places = refl

fifteen-behind-mark : fault_of (bytes "0x7ff800000000000") ≡ Some Faults.Bits
unfolding fault_of hex_value
fifteen-behind-mark = refl

sixteen-without-mark : fault_of (bytes "7ff8000000000000") ≡ Some Faults.NoMark
unfolding fault_of hex_value
sixteen-without-mark = refl

word : fault_of (bytes "ten") ≡ Some Faults.NotNumber
unfolding fault_of hex_value
word = refl

point-and-sign : fault_of (bytes "-.") ≡ Some Faults.NotNumber
unfolding fault_of hex_value
point-and-sign = refl

nothing : fault_of (bytes "") ≡ Some Faults.Missing
unfolding fault_of hex_value
nothing = refl

-- ---- whole numbers
largest-whole : read_whole (bytes "4294967295") ≡ Some 4294967295
unfolding read_whole hex_value
largest-whole = refl

too-large-whole : read_whole (bytes "4294967296") ≡ None
unfolding read_whole hex_value
too-large-whole = refl

signed-whole : read_whole (bytes "-1") ≡ None
unfolding read_whole hex_value
signed-whole = refl

lettered-whole : read_whole (bytes "1a") ≡ None
unfolding read_whole hex_value
lettered-whole = refl

above-whole : whole_fault_of (bytes "4294967296") ≡ Some WholeFaults.TooLarge
unfolding whole_fault_of hex_value
above-whole = refl

eleven-digits : whole_fault_of (bytes "00000000001") ≡ Some WholeFaults.Long
unfolding whole_fault_of hex_value
eleven-digits = refl

signed : whole_fault_of (bytes "-1") ≡ Some WholeFaults.NotDigits
unfolding whole_fault_of hex_value
signed = refl
