-- `read_digits`: n is what the digits before the index write.
use Rattle.std.proofs.Common.{ℕ, ◌+◌, ◌*◌, get_or, sym, ap, ◌∙◌, refl, lit≤, arith, mul-le-mul_right}
use native.Mathlib.Nat.{pow-zero}
use Rattle.std.specs.Option.{option_map}
use Rattle.std.proofs.lemmas.List.{at_drop_all}
use Rattle.decimal.specs.Digits.{each_digit, value_from, number_from}
use Rattle.decimal.proofs.Texts.{carried-next, carried-none, number-carried, digit-lt, one_more, few-digits}
use Rattle.decimal.proofs.digits.read_digits.Goals as goal

pub loop-b-init : goal.loop-b-init
loop-b-init c = (rw pow-zero (lit≤ tt), refl)

pub overflow_mul-n : goal.overflow_mul-n
overflow_mul-n c =
    let k = few-digits c.args.base c.loop-b.n c.loop-b.b-index c.loop-b.invariant.0 (omega arith) c.requires.base_bound in
    omega (arith, mul-le-mul_right c.loop-b.n c.requires.base_bound)

pub overflow_add-n : goal.overflow_add-n
overflow_add-n c =
    let k = few-digits c.args.base c.loop-b.n c.loop-b.b-index c.loop-b.invariant.0 (omega arith) c.requires.base_bound in
    omega (arith, mul-le-mul_right c.loop-b.n c.requires.base_bound, digit-lt c.args.base (get_or c.args.text.now c.loop-b.b-index 0) c.in_ok-n.field-0 (sym c.digit.ensures ∙ c.in_ok-n.was))

pub loop-b-preserved : goal.loop-b-preserved
loop-b-preserved c =
    let e = sym c.digit.ensures ∙ c.in_ok-n.was in
    let base = c.args.base in
    let text = c.args.text.now in
    let n = c.loop-b.n in
    let i = c.loop-b.b-index in
    let d = c.in_ok-n.field-0 in
    (one_more base n i c.loop-b.invariant.0 d (digit-lt base (get_or text i 0) d e), carried-next (number-carried base) text i n c.loop-b-test.true (base * n + d) (ap (option_map (λ (v : ℕ). base * n + v)) e) ∙ c.loop-b.invariant.1)

pub returns-in_err-n : goal.returns-in_err-n
returns-in_err-n c =
    let e = sym c.digit.ensures ∙ c.in_err-n.was in
    rw c.from_residual.ensures (carried-none (number-carried c.args.base) _ _ _ c.loop-b-test.true (ap (option_map (λ (d : ℕ). c.args.base * c.loop-b.n + d)) e) ∙ c.loop-b.invariant.1)

pub returns : goal.returns
unfolding each_digit value_from
returns c = sym (at_drop_all (number_from c.args.base c.loop-b.n) _ _ c.loop-b-test.false) ∙ c.loop-b.invariant.1
