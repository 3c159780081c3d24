-- `question7`: from k on the first no is that of all the numbers.
use Rattle.std.proofs.Common.{◌≡◌, ◌-◌, length, map}
use Rattle.link.specs.Lists.{up_from, first_no_from}
use Rattle.link.specs.Questions.{has_set, number_in, numbers_in, question7}
use Rattle.link.proofs.network.Network.question7.Given as goal

abbrev pub invariant-loop-k : goal.invariant-loop-k
invariant-loop-k l = first_no_from l.k (map (has_set l.self.sets.now l.t) (up_from (number_in l.numbers) l.k (length (numbers_in l.numbers) - l.k))) ≡ question7 l.self.sets.now l.t (numbers_in l.numbers)
