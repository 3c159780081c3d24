-- `read_digits`: n is what the digits before the index write.
use Rattle.std.proofs.Common.{◌≡◌, ◌<◌, ◌^◌, drop}
use Rattle.decimal.specs.Digits.{number_from, digits_number}
use Rattle.decimal.proofs.digits.read_digits.Given as goal

abbrev pub invariant-loop-b : goal.invariant-loop-b
invariant-loop-b l = (l.n < l.base ^ l.b-index) × (number_from l.base l.n (drop l.b-index l.text) ≡ digits_number l.base l.text)
