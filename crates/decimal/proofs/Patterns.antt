-- The bits of a NaN: without the sign they are above those of an infinity.
use Rattle.std.proofs.Common.{◌≡◌, ℕ, ◌%◌, ◌<◌, ◌≤◌, true, not, T, sym, refl, ◌∙◌, le-ltb, lt-ltb}
use mathlib.Core.Bool.{false≢true}
use lib.Ieee.{Float, nan, inf, fin, binary64, nan_bits, of_bits, is_nan, div}
use lib.Ieee.Bits.{nan_bits_is, nan_bits_above}
use Rattle.ieee.proofs.Order.{of-false}

is-nan : (x : Float) → is_nan x ≡ true → x ≡ nan
unfolding is_nan
is-nan nan e = refl
is-nan (inf s) e = absurd (false≢true e)
is-nan (fin s m d) e = absurd (false≢true e)

-- 0.0 / 0.0
zero_by_zero : div binary64 (of_bits binary64 0) (of_bits binary64 0) ≡ nan
unfolding div of_bits
zero_by_zero = refl

pub nan-bits : (b : ℕ) → 0x7ff0_0000_0000_0000 < b % 0x8000_0000_0000_0000 → div binary64 (of_bits binary64 0) (of_bits binary64 0) ≡ of_bits binary64 b
nan-bits b h = zero_by_zero ∙ sym (is-nan (of_bits binary64 b) (sym (nan_bits_is binary64 b) ∙ nan_bits_above binary64 b ∙ lt-ltb 0x7ff0_0000_0000_0000 (b % 0x8000_0000_0000_0000) h))

pub no-nan-bits : (b : ℕ) → b % 0x8000_0000_0000_0000 ≤ 0x7ff0_0000_0000_0000 → T (not (nan_bits binary64 b))
no-nan-bits b h = of-false (nan_bits_above binary64 b ∙ le-ltb 0x7ff0_0000_0000_0000 (b % 0x8000_0000_0000_0000) h)
