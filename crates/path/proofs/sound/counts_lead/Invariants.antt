-- `counts_lead`: before point i stand the sums, which are its first records, and the answer for the points before it.
use Rattle.path.proofs.Lead.{Led}
use Rattle.path.proofs.sound.counts_lead.Given as goal

abbrev pub invariant-loop-i : goal.invariant-loop-i
invariant-loop-i l =
    Led l.p l.grades l.curves l.offsets l.numbers l.i l.g l.k l.w l.ok
