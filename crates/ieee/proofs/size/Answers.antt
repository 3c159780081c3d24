-- `size`: by the sign bit.
use mathlib.Core.Path.{sym, ◌∙◌}
use Rattle.ieee.proofs.Sizes.{size-set}
use Rattle.ieee.proofs.size.Goals as goal

pub returns-then-is_negative : goal.returns-then-is_negative
returns-then-is_negative c = sym (size-set c.args.x (sym c.is_negative.ensures ∙ c.if-is_negative.true))
