-- `sets_formed`: what `all` asks is asked of the eight places.
use Rattle.std.proofs.Common.{refl, ◌∙◌, rules, tests}
use Rattle.std.proofs.lemmas.Iterator.{YieldsList-from_range}
use Rattle.std.proofs.lemmas.Iterator.Search.{all_from_yields_List}
use Rattle.link.specs.Table.{set_at}
use Rattle.link.specs.Questions.{set_formed}
use Rattle.link.proofs.Loops.{every-range}
use Rattle.link.proofs.network.Network.sets_formed.Goals as goal

pub returns : goal.returns
returns c =
    let a = c.args in
    let at = set_at a.self.now.sets.now a.i in
    let ok = set_formed a.self.now.codes.now a.self.now.values.now a.self.now.limits.now in
    all_from_yields_List (λ k. ok (at k)) _ _ _ c.all.ensures.ran (YieldsList-from_range 0 8 8 refl refl) (λ x b q k. search (rules, tests)) ∙ every-range at ok 0 8
