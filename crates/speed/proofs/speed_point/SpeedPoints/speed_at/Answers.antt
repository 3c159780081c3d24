-- `speed_at`: the second entry of a point.
use mathlib.Core.Path.{ap, ◌∙◌}
use native.Mathlib.Omega.{arith}
use mathlib.Core.List.{List}
use Rattle.speed.specs.Points.{Point, speed_at}
use Rattle.speed.proofs.PointColumn.{count_is, read-speed}
use Rattle.speed.proofs.speed_point.SpeedPoints.speed_at.Goals as goal

pub returns : goal.returns
returns c =
    let p = c.self.inside in
    let n = count_is p.count p.col.now c.args.self.now c.self.view_is in
    read-speed p.count p.col.now c.args.i (omega arith) c.self.invariant ∙ ap (λ (ps : List Point). speed_at ps c.args.i) c.self.view_is
