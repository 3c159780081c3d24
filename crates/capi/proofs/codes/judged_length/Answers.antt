-- `judged_length`: the length of a known type, and NaN.
use mathlib.Core.Path.{◌≡◌, refl}
use lib.Ieee.{nan, of_bits, binary64}
use borrow.Author.Tests.{le-leb, lt-leb}
use Rattle.capi.proofs.codes.judged_length.Goals as goal

-- f64::NAN
no_number : of_bits binary64 9221120237041090560 ≡ nan
unfolding of_bits
no_number = refl

pub returns-then-known : goal.returns-then-known
returns-then-known c = rw (le-leb c.args.t.train_type 6 c.if-known.true)

pub returns-else-known : goal.returns-else-known
returns-else-known c = rw (lt-leb c.args.t.train_type 6 c.if-known.false) no_number
