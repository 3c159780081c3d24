-- `points`: the column has the points' entries.
use Rattle.speed.proofs.PointColumn.{fits_points}
use Rattle.speed.proofs.speed_column.SpeedColumn.points.Goals as goal

pub new-requires : goal.new-requires
new-requires c = fits_points c.args.self.now.col.now c.args.self.now.count c.args.self.now.holds
