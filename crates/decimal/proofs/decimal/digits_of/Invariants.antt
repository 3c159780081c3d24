-- `digits_of`: the bytes from the index on take d to what all bytes make.
use Rattle.std.proofs.Common.{◌≡◌, drop}
use Rattle.decimal.specs.Decimal.{digits_from, digits_of}
use Rattle.decimal.specs.Known.{Small}
use Rattle.decimal.proofs.decimal.digits_of.Given as goal

abbrev pub invariant-loop-b : goal.invariant-loop-b
invariant-loop-b l = (digits_from l.d (drop l.b-index l.text) ≡ digits_of l.text) × Small l.d
