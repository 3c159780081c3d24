-- `renumber_question`: the first position that the search finds is the first no.
use Rattle.std.proofs.Common.{◌≡◌, true, false, arith, rules, tests}
use Rattle.std.proofs.lemmas.Iterator.{first_from_Range}
use Rattle.link.specs.Questions.{number_at}
use Rattle.link.proofs.Loops.{first-found}
use Rattle.path_reindex.specs.Reindex.{renumbers}
use Rattle.path_reindex.proofs.reindex.renumber_question.Goals as goal

pub returns : goal.returns
returns c =
    let a = c.args in
    let at = number_at true a.numbers.now in
    let ok = renumbers a.new.now in
    first-found at ok a.count c.find.result
    (first_from_Range _ _ _ _ (λ k. ok (at k) ≡ false) (λ k. ok (at k) ≡ true) c.find.ensures.ran (λ x q k. grind (arith, tests)) (λ x q k. (search rules, grind (arith, tests))))
