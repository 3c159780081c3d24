-- `question7`: from k on the first no is that of all the numbers.
use Rattle.std.proofs.Common.{◌<◌, ◌≤◌, map, length, sym, refl, ap, ◌∙◌, arith}
use native.Mathlib.Nat.{sub-zero}
use Rattle.link.specs.Lists.{first_no}
use Rattle.link.specs.Questions.{has_set, number_in, numbers_in, question7}
use Rattle.link.proofs.Formed.{set-none, set-some}
use Rattle.link.proofs.Judging.{in-order}
use Rattle.link.proofs.Loops.{first-pass, first-fail, first-end}
use Rattle.link.proofs.network.Network.question7.Goals as goal

pub loop-k-init : goal.loop-k-init
unfolding question7
loop-k-init c =
    let ns = c.args.numbers.now in
    rw (sub-zero (length (numbers_in ns))) (ap (λ l. first_no (map (has_set c.args.self.now.sets.now c.args.t) l)) (in-order ns _ refl))

pub returns-in_default : goal.returns-in_default
returns-in_default c =
    let a = c.args in
    let ns = a.numbers.now in
    let k = c.loop-k.k in
    let below : k < length (numbers_in ns) = omega (arith, c.len-k-end.ensures, c.loop-k-test.true) in
    sym (first-fail (number_in ns) (has_set a.self.now.sets.now a.t) k _ below (set-none a.self.now.sets.now a.t c.set_for.ensures c.at-n.ensures c.in_default.is)) ∙ c.loop-k.invariant

pub loop-k-preserved : goal.loop-k-preserved
loop-k-preserved c =
    let a = c.args in
    let ns = a.numbers.now in
    let k = c.loop-k.k in
    let below : k < length (numbers_in ns) = omega (arith, c.len-k-end.ensures, c.loop-k-test.true) in
    sym (first-pass (number_in ns) (has_set a.self.now.sets.now a.t) k _ below (set-some a.self.now.sets.now a.t c.set_for.ensures c.at-n.ensures c.in-Some.is)) ∙ c.loop-k.invariant

pub returns : goal.returns
returns c =
    let a = c.args in
    let ns = a.numbers.now in
    let past : length (numbers_in ns) ≤ c.loop-k.k = omega (arith, c.len-k-end.ensures, c.loop-k-test.false) in
    sym (first-end (number_in ns) (has_set a.self.now.sets.now a.t) c.loop-k.k _ past) ∙ c.loop-k.invariant
