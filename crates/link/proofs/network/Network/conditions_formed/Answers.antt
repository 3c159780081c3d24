-- `conditions_formed`: what `all` asks is asked of the range.
use Rattle.std.proofs.Common.{◌+◌, refl, ◌∙◌, arith, rules, tests}
use Rattle.std.proofs.lemmas.Iterator.{YieldsList-from_range}
use Rattle.std.proofs.lemmas.Iterator.Search.{all_from_yields_List}
use Rattle.link.specs.Table.{condition_at}
use Rattle.link.specs.Condition.{condition_formed}
use Rattle.link.proofs.Loops.{every-range}
use Rattle.link.proofs.network.Network.conditions_formed.Goals as goal

pub returns : goal.returns
returns c =
    let a = c.args in
    let at = condition_at a.self.now.codes.now a.self.now.values.now in
    all_from_yields_List (λ k. condition_formed (at k)) _ _ _ c.all.ensures.ran (YieldsList-from_range a.first (a.first + a.count) a.count refl (omega arith)) (λ x b q k. search (rules, tests))
    ∙ every-range at condition_formed a.first a.count
