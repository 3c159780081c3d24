-- `Rounded`: what is cut lies between the two ends that the code tests.
use Rattle.std.proofs.Common.{T, sym, subst}
use lib.Ieee.{of_bits, neg}
use Rattle.show.proofs.RoundedDisplay.fmt.Goals as goal

pub truncating_f64_to_u64-t-requires-clause-lower_bound : goal.truncating_f64_to_u64-t-requires-clause-lower_bound
unfolding of_bits neg
truncating_f64_to_u64-t-requires-clause-lower_bound g c = subst T (sym c.if-size.true) tt

pub truncating_f64_to_u64-t-requires-clause-upper_bound : goal.truncating_f64_to_u64-t-requires-clause-upper_bound
unfolding of_bits neg
truncating_f64_to_u64-t-requires-clause-upper_bound g c = subst T (sym c.if-size-2.true) tt
