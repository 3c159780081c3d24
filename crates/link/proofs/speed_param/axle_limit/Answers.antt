-- `axle_limit`: by the value's size.
use Rattle.std.proofs.Common.{◌∙◌, arith}
use lib.Ieee.{of_bits}
use Rattle.link.proofs.Conditions.{axle-none, axle-most, axle-between, axle-range, axle-cut}
use Rattle.link.proofs.speed_param.axle_limit.Goals as goal

pub returns-then-v-2 : goal.returns-then-v-2
unfolding of_bits
returns-then-v-2 c = axle-most c.args.v c.if-v-2.true

pub truncating_f64_to_u64-requires : goal.truncating_f64_to_u64-requires
unfolding of_bits
truncating_f64_to_u64-requires c = let asked = axle-range c.args.v c.if-v.true c.if-v-2.false in record { lower_bound = asked.0; upper_bound = asked.1 }

pub overflow_cast-result : goal.overflow_cast-result
unfolding of_bits
overflow_cast-result c = omega (arith, axle-cut c.args.v, axle-between c.args.v c.if-v-2.false)

pub returns-then-v : goal.returns-then-v
unfolding of_bits
returns-then-v c = c.truncating_f64_to_u64.ensures ∙ axle-between c.args.v c.if-v-2.false

pub returns : goal.returns
unfolding of_bits
returns c = axle-none c.args.v c.if-v.false
