-- `limits_formed`: from limit i on, with the answer so far, the answer is that from the first on.
use Rattle.std.proofs.Common.{◌≡◌, ◌-◌, ◌≤◌, ◌&&◌}
use Rattle.link.specs.Lists.{every, up_from}
use Rattle.link.specs.Table.{limit_at}
use Rattle.link.specs.Questions.{limit_formed}
use Rattle.link.proofs.cat_power.limits_formed.Given as goal

abbrev pub invariant-loop-i : goal.invariant-loop-i
invariant-loop-i l = (l.i ≤ l.i-end) × ((l.ok && every limit_formed (up_from (limit_at l.limits) l.i (l.i-end - l.i))) ≡ every limit_formed (up_from (limit_at l.limits) l.first l.count))
