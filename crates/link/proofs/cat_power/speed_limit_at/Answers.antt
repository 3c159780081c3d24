-- `speed_limit_at`: the three entries under their names.
use Rattle.std.proofs.Common.{arith}
use Rattle.link.proofs.Formed.{limit-read}
use Rattle.link.proofs.cat_power.speed_limit_at.Goals as goal

pub returns-then-i-limits : goal.returns-then-i-limits
returns-then-i-limits c = limit-read c.args.limits.now c.args.i _ (omega arith)

pub returns : goal.returns
returns c = rw c.record_at-t.ensures
