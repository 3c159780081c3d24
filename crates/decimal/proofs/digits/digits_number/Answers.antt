-- `digits_number`: where every byte is a digit, there is a number.
use mathlib.Core.Path.{refl, ◌∙◌}
use Rattle.decimal.proofs.Hex.{read-hex}
use Rattle.decimal.proofs.digits.digits_number.Goals as goal

pub returns : goal.returns
returns c = c.unwrap_or.ensures ∙ rw (c.read_digits.ensures, read-hex c.args.base c.args.text.now c.requires.base_bound, c.requires.text_value) refl
