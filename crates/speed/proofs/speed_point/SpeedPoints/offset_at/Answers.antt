-- `offset_at`: the first entry of a point.
use mathlib.Core.Path.{ap, ◌∙◌}
use native.Mathlib.Omega.{arith}
use mathlib.Core.List.{List}
use Rattle.speed.specs.Points.{Point, offset_at}
use Rattle.speed.proofs.PointColumn.{count_is, read-offset}
use Rattle.speed.proofs.speed_point.SpeedPoints.offset_at.Goals as goal

pub returns : goal.returns
returns c =
    let p = c.self.inside in
    let n = count_is p.count p.col.now c.args.self.now c.self.view_is in
    read-offset p.count p.col.now c.args.i (omega arith) c.self.invariant ∙ ap (λ (ps : List Point). offset_at ps c.args.i) c.self.view_is
