-- `question5`: from k on, after the link `before`, the first no is that of the whole list.
use Rattle.std.proofs.Common.{◌≡◌, ◌-◌, false, length}
use Rattle.link.specs.Lists.{up_from, first_no_from}
use Rattle.link.specs.Questions.{number_at, numbers, contiguous, question5}
use Rattle.link.proofs.questions.question5.Given as goal

abbrev pub invariant-loop-k : goal.invariant-loop-k
invariant-loop-k l = first_no_from l.k (contiguous l.links l.before (up_from (number_at false l.list) l.k (length l.list - l.k))) ≡ question5 l.links l.fn.last (numbers false l.list (length l.list))
