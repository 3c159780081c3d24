-- `is_word`: the slices' `==`.
use mathlib.Core.Path.{◌∙◌}
use Rattle.route.proofs.Words.{same_pairs}
use Rattle.route.proofs.fields.is_word.Goals as goal

pub returns : goal.returns
returns c = c.eq.ensures ∙ same_pairs c.args.a.now c.args.b.now
