-- `limit_formed`: the numbers are finite, and then the order.
use Rattle.std.proofs.Common.{ap, ◌∙◌}
use Rattle.ieee.proofs.Same.{zero-literal}
use Rattle.link.specs.Questions.{limit_formed}
use Rattle.link.proofs.Formed.{limit-asks, limit-read}
use Rattle.link.proofs.cat_power.limit_formed.Goals as goal

pub returns : goal.returns
returns c =
    let a = c.args in
    rw (c.is_finite.ensures, c.is_finite-2.ensures, c.is_finite-3.ensures, zero-literal) (limit-asks _ ∙ ap limit_formed (limit-read a.limits.now a.i _ c.requires.i_in_bounds))
