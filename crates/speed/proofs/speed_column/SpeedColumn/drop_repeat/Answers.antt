-- `drop_repeat`: by the speed of the point before.
use mathlib.Core.Path.{sym, ap, ap₂, ◌∙◌}
use mathlib.Core.List.{List}
use lib.Ieee.{Float}
use Rattle.speed.specs.Points.{Point, speed_at, repeats}
use Rattle.speed.specs.Becomes.{points_of}
use Rattle.speed.proofs.PointColumn.{unchanged, becomes-as}
use Rattle.speed.proofs.InsertSteps.{repeat-dropped, repeat-kept}
use Rattle.speed.proofs.speed_column.SpeedColumn.drop_repeat.Goals as goal

pub returns-then-repeats_before : goal.returns-then-repeats_before
returns-then-repeats_before c =
    let i = c.args.i in
    let ps = points_of c.args.self.now in
    let u = c.speed_at-u.ensures ∙ ap (λ (qs : List Point). speed_at qs i) c.points.ensures.are in
    let tested = c.repeats_before.ensures ∙ ap₂ (λ (x : Float) (qs : List Point). repeats i x qs) u c.points-2.ensures.are in
    becomes-as _ c.remove_point.ensures.becomes (sym (repeat-dropped i ps (sym tested ∙ c.if-repeats_before.true)))

pub returns-else-repeats_before : goal.returns-else-repeats_before
returns-else-repeats_before c =
    let i = c.args.i in
    let ps = points_of c.args.self.now in
    let u = c.speed_at-u.ensures ∙ ap (λ (qs : List Point). speed_at qs i) c.points.ensures.are in
    let tested = c.repeats_before.ensures ∙ ap₂ (λ (x : Float) (qs : List Point). repeats i x qs) u c.points-2.ensures.are in
    unchanged _ _ (sym (repeat-kept i ps (sym tested ∙ c.if-repeats_before.false)))
