-- `question6`: the first position that the search finds is the first no.
use Rattle.std.proofs.Common.{◌≡◌, true, false, map, ap, ◌∙◌, arith, rules, tests}
use Rattle.std.proofs.lemmas.Iterator.{first_from_Range}
use Rattle.link.specs.Table.{table}
use Rattle.link.specs.Lists.{first_no}
use Rattle.link.specs.Questions.{well_formed, number_in, question6}
use Rattle.link.proofs.Loops.{first-found}
use Rattle.link.proofs.Judging.{in-order}
use Rattle.link.proofs.network.Network.question6.Goals as goal

pub returns : goal.returns
unfolding question6
returns c =
    let a = c.args in
    let ns = a.numbers.now in
    let ok = well_formed (table a.self.now) in
    first-found (number_in ns) ok c.len.result c.find.result
    (first_from_Range _ _ _ _ (λ k. ok (number_in ns k) ≡ false) (λ k. ok (number_in ns k) ≡ true) c.find.ensures.ran (λ x q k. grind (arith, tests)) (λ x q k. (search rules, grind (arith, tests))))
    ∙ ap (λ l. first_no (map ok l)) (in-order ns c.len.result c.len.ensures)
