-- `question4`: the first position that the search finds is the first no.
use Rattle.std.proofs.Common.{◌≡◌, true, false, map, ap, ◌∙◌, arith, rules, tests}
use Rattle.std.proofs.lemmas.Iterator.{first_from_Range}
use Rattle.link.specs.Lists.{first_no}
use Rattle.link.specs.Questions.{real_in, number_in, question4}
use Rattle.link.proofs.Loops.{first-found}
use Rattle.link.proofs.Judging.{in-order}
use Rattle.link.proofs.network.Network.question4.Goals as goal

pub returns : goal.returns
unfolding question4
returns c =
    let a = c.args in
    let ns = a.numbers.now in
    let ok = real_in a.self.now.links.now a.self.now.lengths.now a.self.now.sets.now in
    first-found (number_in ns) ok c.len.result c.find.result
    (first_from_Range _ _ _ _ (λ k. ok (number_in ns k) ≡ false) (λ k. ok (number_in ns k) ≡ true) c.find.ensures.ran (λ x q k. grind (arith, tests)) (λ x q k. (search rules, grind (arith, tests))))
    ∙ ap (λ l. first_no (map ok l)) (in-order ns c.len.result c.len.ensures)
