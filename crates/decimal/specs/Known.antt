-- What is known of the digits of a number. Definitions only.
use Rattle.std.specs.Prelude.{◌≡◌, ℕ, ◌^◌, ◌≤◌}
use Rattle.decimal.specs.declared.decimal.Digits.{Digits}

-- the whole number is at most 2 ^ 53, and it is to be divided by a power of ten, at most 10 ^ 18
pub record Small (d : Digits) : Type 0 where
  pub whole : d.whole ≤ 9007199254740992
  pub scale : d.scale ≤ 1000000000000000000
  pub ten : (k : ℕ) × (d.scale ≡ 10 ^ k)
