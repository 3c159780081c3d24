-- `points_in`: by whether the column is long enough.
use native.Mathlib.Omega.{arith}
use Rattle.original.proofs.Followed.{too_short, long-enough}
use Rattle.original.proofs.run.points_in.Goals as goal

pub returns-then-col-n : goal.returns-then-col-n
returns-then-col-n c = too_short c.args.col.now c.zero_from.new.col c.args.n (omega arith) c.zero_from.ensures

pub returns : goal.returns
returns c = long-enough c.args.col.now c.zero_from-2.new.col c.args.n (omega arith) c.zero_from-2.ensures
