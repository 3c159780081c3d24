-- Why a text is no number: the first of these reasons that holds. Definitions only.
use Rattle.std.specs.Prelude.{ℕ, Bool, false, cond, not, ◌&&◌, ◌||◌, List, Option, Some, None, length, drop, ◌==◌, nat_lt, slice_index, position}
use Rattle.std.specs.Char.{is_ascii_digit}
use Rattle.std.specs.List.{list_all, list_any, before_first, after_first}
use Rattle.std.specs.Option.{option_map_or}
use Rattle.decimal.specs.Digits.{all_digits}
use Rattle.decimal.specs.Number.{has_mark, read_number, read_whole}
use Rattle.decimal.specs.declared.fault.Fault.{Fault}
use Rattle.decimal.specs.declared.fault.Fault.TheVariants as Faults
use Rattle.decimal.specs.declared.fault.WholeFault.{WholeFault}
use Rattle.decimal.specs.declared.fault.WholeFault.TheVariants as WholeFaults

-- 44 is the comma, 46 the point
abbrev pub is_comma : ℕ → Bool
is_comma b = b == 44

abbrev pub is_point : ℕ → Bool
is_point b = b == 46

-- e or E
abbrev pub is_e : ℕ → Bool
is_e b = b == 101 || b == 69

-- a digit, a point, a sign, e or E: 43 and 45 are the signs
abbrev pub is_known : ℕ → Bool
is_known b = is_ascii_digit b || (b == 46 || (b == 43 || (b == 45 || is_e b)))

-- 16 hex digits that are not all decimal
unfoldable pub is_hex : List ℕ → Bool
unfolding all_digits
is_hex l = length l == 16 && (all_digits 16 l && not (all_digits 10 l))

-- an e or E, not in first place, among digits, points and signs
unfoldable pub is_exponent : List ℕ → Bool
is_exponent l = option_map_or (λ e. nat_lt 0 e) (position is_e l) false && list_all is_known l

-- what is behind the sign -
unfoldable pub behind_sign : List ℕ → List ℕ
behind_sign l = cond (slice_index l 0 == 45) (drop 1 l) l

unfoldable pub before_point : List ℕ → List ℕ
before_point l = before_first is_point l

unfoldable pub behind_point : List ℕ → List ℕ
behind_point l = after_first is_point l

-- digits, at most one point among them, and some digit
unfoldable pub is_decimal : List ℕ → Bool
unfolding before_point behind_point all_digits
is_decimal l =
    let a = before_point l in
    let b = behind_point l in
    (all_digits 10 a && all_digits 10 b) && (nat_lt 0 (length a) || nat_lt 0 (length b))

-- of a text that is no number and has no reason of its own: a decimal with more than 18 digits behind the point, a decimal too large, anything else
unfoldable pub form_fault : List ℕ → Fault
unfolding behind_sign behind_point is_decimal
form_fault l =
    let d = behind_sign l in
    cond (is_decimal d) (cond (nat_lt 18 (length (behind_point d))) Faults.Places Faults.TooLarge) Faults.NotNumber

-- of a text that is no number; 43 is the sign +
unfoldable pub reason_of : List ℕ → Fault
unfolding is_hex is_exponent form_fault
reason_of l =
    cond (length l == 0) Faults.Missing
    (cond (has_mark l) Faults.Bits
    (cond (slice_index l 0 == 43) Faults.Plus
    (cond (list_any is_comma l) Faults.Comma
    (cond (is_hex l) Faults.NoMark
    (cond (is_exponent l) Faults.Exponent
    (form_fault l))))))

-- of a text that is no whole number
unfoldable pub whole_reason_of : List ℕ → WholeFault
unfolding all_digits
whole_reason_of l =
    cond (length l == 0) WholeFaults.Missing
    (cond (not (all_digits 10 l)) WholeFaults.NotDigits
    (cond (nat_lt 10 (length l)) WholeFaults.Long
    WholeFaults.TooLarge))

-- a reason, where nothing could be read
abbrev pub unless : {A B : Type 0} → Option A → B → Option B
unless (Some x) reason = None
unless None reason = Some reason

-- none where the text is a number
unfoldable pub fault_of : List ℕ → Option Fault
unfolding read_number reason_of
fault_of l = unless (read_number l) (reason_of l)

unfoldable pub whole_fault_of : List ℕ → Option WholeFault
unfolding read_whole whole_reason_of
whole_fault_of l = unless (read_whole l) (whole_reason_of l)
