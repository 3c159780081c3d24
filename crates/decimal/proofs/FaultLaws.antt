-- A text has no fault exactly where it is a number, and what `TooLarge` says of it.
use Rattle.std.proofs.Common.{◌≡◌, ℕ, ◌<◌, ◌≤◌, Bool, true, false, cond, not, ◌&&◌, nat_le, nat_lt, ◌==◌, List, length, slice_index, refl, ltb-false, leb-false, le-leb, arith, Option, Some, None}
use borrow.Author.Tests.{not-false, eqb-false}
use lib.Ieee.{Float}
use Rattle.std.specs.List.{list_any}
use Rattle.decimal.specs.Digits.{all_digits, whole_from}
use Rattle.decimal.specs.Number.{has_mark, read_number, read_whole}
use Rattle.decimal.specs.Fault.{unless, is_comma, is_hex, is_exponent, behind_sign, behind_point, is_decimal, form_fault, reason_of, whole_reason_of, fault_of, whole_fault_of}
use Rattle.decimal.specs.declared.fault.Fault.TheVariants as Faults
use Rattle.decimal.specs.declared.fault.WholeFault.TheVariants as WholeFaults

-- ---- numbers and whole numbers alike
module _ {A B : Type 0} where
  readable : (r : Option A) (f : B) → unless r f ≡ None → (x : A) × (r ≡ Some x)
  readable (Some x) f e = (x, refl)
  readable None f e = absurd (cc)

  unreadable : (r : Option A) (f g : B) → unless r f ≡ Some g → (r ≡ None) × (f ≡ g)
  unreadable (Some x) f g e = absurd (cc)
  unreadable None f g e = (refl, cc)

-- a reason that is not the first one tested for
past : {B : Type 0} (t : Bool) (a x b : B) → (a ≡ b → ⊥) → cond t a x ≡ b → (t ≡ false) × (x ≡ b)
past true a x b n e = absurd (n e)
past false a x b n e = (refl, e)

pub readable-is : (l : List ℕ) → fault_of l ≡ None → (y : Float) × (read_number l ≡ Some y)
unfolding fault_of
readable-is l e = readable (read_number l) (reason_of l) e

pub is-readable : (l : List ℕ) (y : Float) → read_number l ≡ Some y → fault_of l ≡ None
unfolding fault_of
is-readable l y e = rw e

pub whole-readable-is : (l : List ℕ) → whole_fault_of l ≡ None → (n : ℕ) × (read_whole l ≡ Some n)
unfolding whole_fault_of
whole-readable-is l e = readable (read_whole l) (whole_reason_of l) e

pub whole-is-readable : (l : List ℕ) (n : ℕ) → read_whole l ≡ Some n → whole_fault_of l ≡ None
unfolding whole_fault_of
whole-is-readable l n e = rw e

-- ---- numbers that are too large
form-large : (t u : Bool) → cond t (cond u Faults.Places Faults.TooLarge) Faults.NotNumber ≡ Faults.TooLarge → (t ≡ true) × (u ≡ false)
form-large true true e = absurd (cc)
form-large true false e = (refl, refl)
form-large false u e = absurd (cc)

large-form : (l : List ℕ) → reason_of l ≡ Faults.TooLarge → form_fault l ≡ Faults.TooLarge
unfolding reason_of
large-form l e =
    (past (is_exponent l) Faults.Exponent (form_fault l) Faults.TooLarge (λ h. cc)
    (past (is_hex l) Faults.NoMark _ Faults.TooLarge (λ h. cc)
    (past (list_any is_comma l) Faults.Comma _ Faults.TooLarge (λ h. cc)
    (past (slice_index l 0 == 43) Faults.Plus _ Faults.TooLarge (λ h. cc)
    (past (has_mark l) Faults.Bits _ Faults.TooLarge (λ h. cc)
    (past (length l == 0) Faults.Missing _ Faults.TooLarge (λ h. cc) e).1).1).1).1).1).1

-- a decimal that is too large is no number, has the form of one, and at most 18 digits behind the point
pub large_is : (l : List ℕ) → fault_of l ≡ Some Faults.TooLarge → (read_number l ≡ None) × ((is_decimal (behind_sign l) ≡ true) × (length (behind_point (behind_sign l)) ≤ 18))
unfolding fault_of form_fault
large_is l e =
    let d = behind_sign l in
    let n = unreadable (read_number l) (reason_of l) Faults.TooLarge e in
    let f = form-large (is_decimal d) (nat_lt 18 (length (behind_point d))) (large-form l n.1) in
    (n.0, (f.0, ltb-false 18 (length (behind_point d)) f.1))

-- ---- whole numbers that are too large
large-whole : (t : Bool) (n : ℕ) → cond t (Some n) None ≡ None → t ≡ false
large-whole true n e = absurd (cc)
large-whole false n e = refl

last : (a b c d : Bool) → a ≡ true → b ≡ true → c ≡ true → (a && (b && (c && d))) ≡ false → d ≡ false
last a b c d p q r e = rw (p, q, r) at e

-- a whole number that is too large is not below 2 ^ 32
pub whole-large-is : (l : List ℕ) → whole_fault_of l ≡ Some WholeFaults.TooLarge → 4294967295 < whole_from 10 0 l
unfolding whole_fault_of whole_reason_of read_whole
whole-large-is l e =
    let n = unreadable (read_whole l) (whole_reason_of l) WholeFaults.TooLarge e in
    let a = past (length l == 0) WholeFaults.Missing _ WholeFaults.TooLarge (λ h. cc) n.1 in
    let b = past (not (all_digits 10 l)) WholeFaults.NotDigits _ WholeFaults.TooLarge (λ h. cc) a.1 in
    let c = past (nat_lt 10 (length l)) WholeFaults.Long _ WholeFaults.TooLarge (λ h. cc) b.1 in
    let w = whole_from 10 0 l in
    leb-false w 4294967295
    (last (nat_le 1 (length l)) (nat_le (length l) 10) (all_digits 10 l) (nat_le w 4294967295)
    (le-leb 1 (length l) (omega (arith, eqb-false (length l) 0 a.0)))
    (le-leb (length l) 10 (ltb-false 10 (length l) c.0))
    (not-false (all_digits 10 l) b.0)
    (large-whole _ w n.0))
