-- `read_decimal`: what digits make is known.
use Rattle.std.proofs.Common.{sym, ◌∙◌}
use Rattle.decimal.proofs.DigitSteps.{digits-small}
use Rattle.decimal.proofs.decimal.read_decimal.Goals as goal

pub value-requires : goal.value-requires
value-requires c = digits-small _ _ (sym c.digits_of.ensures ∙ c.in_ok-digits_of.was)

pub value-requires-2 : goal.value-requires-2
value-requires-2 c = digits-small _ _ (sym c.digits_of-2.ensures ∙ c.in_ok-digits_of-2.was)
