-- `len`: a list of the first `count` points has so many.
use Rattle.speed.proofs.PointColumn.{count_is}
use Rattle.speed.proofs.speed_point.SpeedPoints.len.Goals as goal

pub returns : goal.returns
returns c = count_is c.self.inside.count c.self.inside.col.now c.args.self.now c.self.view_is
