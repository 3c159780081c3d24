-- The digits of a text, byte by byte, and what is known of them.
use Rattle.std.proofs.Common.{◌≡◌, ℕ, suc, ◌+◌, ◌-◌, ◌*◌, ◌^◌, Bool, true, false, cond, ◌&&◌, nat_le, not, ◌==◌, List, [], ◌∷◌, sym, refl, ap, ◌∙◌, mul_comm, pow-suc, lit≤, leb-true, Some, None, Option, IfSome}
use Rattle.std.specs.Option.{option_and_then}
use Rattle.std.specs.Char.{is_ascii_digit}
use Rattle.std.proofs.lemmas.Bool.{and_parts}
use Rattle.decimal.specs.Decimal.{start, with_digit, with_other, step, digits_from, digits_of}
use Rattle.decimal.specs.Known.{Small}
use Rattle.decimal.specs.declared.decimal.Digits.{Digits}

pub small_start : Small start
small_start = record { whole = lit≤ tt; scale = lit≤ tt; ten = (0, refl) }

small-cond : (t : Bool) (x y : Option Digits) → (t ≡ true → IfSome x Small) → IfSome y Small → IfSome (cond t x y) Small
small-cond true x y h k = h refl
small-cond false x y h k = k

ten-more : (t : Bool) (s k : ℕ) → s ≡ 10 ^ k → (j : ℕ) × (cond t (10 * s) s ≡ 10 ^ j)
ten-more true s k e = (suc k, mul_comm 10 s ∙ ap (λ (z : ℕ). z * 10) e ∙ sym (pow-suc 10 k))
ten-more false s k e = (k, e)

digit-small : (d : Digits) (b : ℕ) → Small d → IfSome (with_digit d b) Small
digit-small d b h =
    let whole = 10 * d.whole + (b - 48) in
    let scale = cond d.point (10 * d.scale) d.scale in
    let next : Digits = record { whole = whole; scale = scale; point = d.point; some = true } in
    small-cond (nat_le whole 9007199254740992 && nat_le scale 1000000000000000000) (Some next) None
    (λ e. let g = and_parts _ _ e in let s : Small next = record { whole = leb-true _ _ g.0; scale = leb-true _ _ g.1; ten = ten-more d.point d.scale h.ten.0 h.ten.1 } in s)
    tt

pub step-small : (d : Digits) (b : ℕ) → Small d → IfSome (step d b) Small
step-small d b h =
    small-cond (is_ascii_digit b) (with_digit d b) (with_other d b)
    (λ _. digit-small d b h)
    (let next : Digits = record { whole = d.whole; scale = d.scale; point = true; some = d.some } in
    let s : Small next = record { whole = h.whole; scale = h.scale; ten = h.ten } in
    small-cond (b == 46 && not d.point) (Some next) None (λ _. s) tt)

small-then : (o : Option Digits) (l : List ℕ) → ((d : Digits) → Small d → IfSome (digits_from d l) Small) → IfSome o Small → IfSome (option_and_then (λ d. digits_from d l) o) Small
small-then None l f h = tt
small-then (Some d) l f h = f d h

small_from : (l : List ℕ) (d : Digits) → Small d → IfSome (digits_from d l) Small
unfolding digits_from
small_from [] d h = h
small_from (b ∷ l) d h = small-then (step d b) l (small_from l) (step-small d b h)

-- what all digits of a text make
pub digits-small : (l : List ℕ) (d : Digits) → digits_of l ≡ Some d → Small d
digits-small l d e = rw e at (small_from l start small_start)
