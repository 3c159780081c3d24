-- `remainder`: of the size, with the sign of x.
use mathlib.Core.Path.{◌≡◌, refl, sym, ap, ◌∙◌}
use mathlib.Core.Bool.{true}
use lib.Ieee.{of_bits, binary64, rem, neg}
use lib.Ieee.Positive.{positive}
use Rattle.si.specs.Constants.{rev}
use Rattle.path_stretches.proofs.RemainderSteps.{no-remainder, asked-clear, asked-set, turned}
use Rattle.path_stretches.proofs.remainder.remainder.Goals as goal

whole-turn : positive rev ≡ true
unfolding of_bits
whole-turn = refl

pub returns-then-not-is_finite : goal.returns-then-not-is_finite
returns-then-not-is_finite c = no-remainder c.args.x rev (sym c.is_finite.ensures ∙ c.if-not-is_finite.true)

pub rest-requires : goal.rest-requires
rest-requires c =
    rw c.rev-whole.ensures
    (asked-set c.args.x rev (sym c.is_finite.ensures ∙ c.if-not-is_finite.false) (sym c.is_negative.ensures ∙ c.if-is_negative.true) whole-turn)

pub returns-then-is_negative : goal.returns-then-is_negative
returns-then-is_negative c =
    ap neg (c.rest.ensures ∙ ap (rem binary64 (neg c.args.x)) c.rev-whole.ensures)
    ∙ turned c.args.x rev (sym c.is_finite.ensures ∙ c.if-not-is_finite.false) (sym c.is_negative.ensures ∙ c.if-is_negative.true) whole-turn

pub rest-requires-2 : goal.rest-requires-2
rest-requires-2 c =
    rw c.rev-whole.ensures
    (asked-clear c.args.x rev (sym c.is_finite.ensures ∙ c.if-not-is_finite.false) (sym c.is_negative.ensures ∙ c.if-is_negative.false) whole-turn)

pub returns : goal.returns
returns c = c.rest-2.ensures ∙ ap (rem binary64 c.args.x) c.rev-whole.ensures
