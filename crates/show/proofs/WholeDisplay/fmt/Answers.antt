-- `Whole`: a size below a thousand million is above -1 and below 2 ^ 64.
use Rattle.std.proofs.Common.{◌≡◌, true, false, T, pos, subst}
use lib.Ieee.{Float, fin, lt, of_bits, binary64}
use Rattle.ieee.specs.Number.{real, size, zero_of}
use Rattle.ieee.proofs.Order.{of-true, lt-le-trans, lt_trans, lt-real-l}
use Rattle.ieee.proofs.Sizes.{size-nonneg, real-size}
use Rattle.show.proofs.WholeDisplay.fmt.Goals as goal

billion : T (lt (of_bits binary64 4741671816366391296) (fin false 1 (pos 64)))
unfolding lt of_bits
billion = tt

above : (x m : Float) → T (real x) → m ≡ size x → T (lt (fin true 1 (pos 0)) m)
above x m r e =
    let below : T (lt (fin true 1 (pos 0)) (zero_of false)) = unfold lt in tt in
    rw e (lt-le-trans (fin true 1 (pos 0)) (zero_of false) (size x) below (size-nonneg x false r))

pub truncating_f64_to_u64-n-requires-clause-lower_bound : goal.truncating_f64_to_u64-n-requires-clause-lower_bound
truncating_f64_to_u64-n-requires-clause-lower_bound g c =
    let x = c.args.self.now.0 in
    let m = c.size-size.result in
    let e = c.size-size.ensures in
    let h : T (lt m (of_bits binary64 4741671816366391296)) = of-true c.if-size.true in
    let r : T (real x) = subst T (real-size x) (subst (λ (y : Float). T (real y)) e (lt-real-l m (of_bits binary64 4741671816366391296) h)) in
    above x m r e

pub truncating_f64_to_u64-n-requires-clause-upper_bound : goal.truncating_f64_to_u64-n-requires-clause-upper_bound
truncating_f64_to_u64-n-requires-clause-upper_bound g c = lt_trans _ (of_bits binary64 4741671816366391296) (fin false 1 (pos 64)) (of-true c.if-size.true) billion
