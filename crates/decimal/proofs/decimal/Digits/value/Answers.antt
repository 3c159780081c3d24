-- `value`: the quotient of the two casts, with its sign.
use borrow.Author.Tests.{not-false}
use Rattle.decimal.proofs.Quotient.{value-plus, value-minus}
use Rattle.decimal.proofs.decimal.Digits.value.Goals as goal

pub returns-then-negative : goal.returns-then-negative
returns-then-negative c = rw c.if-negative.true (value-minus c.args.self c.requires (not-false _ c.if-not-self.false) _ c.nearest_u64_to_f64.ensures)

pub returns : goal.returns
returns c = rw c.if-negative.false (value-plus c.args.self c.requires (not-false _ c.if-not-self.false) _ c.nearest_u64_to_f64.ensures)
