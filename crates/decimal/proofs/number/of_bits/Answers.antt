-- `of_bits`: a NaN apart.
use Rattle.decimal.proofs.Patterns.{nan-bits, no-nan-bits}
use Rattle.decimal.proofs.number.of_bits.Goals as goal

pub returns-then-bits-gt9218868437227405312 : goal.returns-then-bits-gt9218868437227405312
returns-then-bits-gt9218868437227405312 c = nan-bits _ c.if-bits-gt9218868437227405312.true

pub float_from_bits-result : goal.float_from_bits-result
float_from_bits-result c = no-nan-bits _ c.if-bits-gt9218868437227405312.false
