-- `closes_well`: test by test.
use mathlib.Core.Path.{◌≡◌, sym, ◌∙◌}
use mathlib.Core.Bool.{false}
use lib.Ieee.{of_bits}
use lib.Ieee.Scale.{finite}
use Rattle.lookup.proofs.path_res_coeff.closes_well.Goals as goal

pub returns-then-closes : goal.returns-then-closes
unfolding of_bits
returns-then-closes c =
    let f : finite c.args.o ≡ false = sym c.is_finite.ensures ∙ c.if-is_finite.false in
    rw (f, c.if-closes.true)
