-- `new`: the first `count` points.
use Rattle.speed.proofs.PointColumn.{length-points}
use Rattle.speed.proofs.speed_point.SpeedPoints.new.Goals as goal

pub returns-clause-count : goal.returns-clause-count
returns-clause-count c = length-points c.args.count c.args.col.now
