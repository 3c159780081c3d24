-- `lay_end`: by whether the end gets a point of its own.
use mathlib.Core.Path.{sym, ap, ◌∙◌}
use Prim.Native.Nat.{◌+◌, ◌-◌}
use mathlib.Core.List.{List}
use Rattle.column.specs.Entries.{insert_at}
use Rattle.speed.specs.Points.{Point, point, speed_at}
use Rattle.speed.specs.Becomes.{points_of}
use Rattle.speed.specs.Insert.{merge, ends}
use Rattle.speed.proofs.PointColumn.{becomes-as, becomes-next}
use Rattle.speed.proofs.InsertSteps.{end-laid, end_kept}
use Rattle.speed.proofs.speed_column.SpeedColumn.lay_end.Goals as goal

pub returns-then-ends_after : goal.returns-then-ends_after
returns-then-ends_after c =
    let a = c.args in
    let ps = points_of a.self.now in
    let e = a.e.0 in
    let v = a.v.0 in
    let w = c.speed_at-w.ensures ∙ ap (λ (qs : List Point). speed_at qs a.j) c.points-then-ends_after.ensures.are in
    let tested = c.ends_after.ensures ∙ ap (ends e v a.j) c.points.ensures.are in
    becomes-as _ (becomes-next (merge v (a.j + 1 - a.i) a.i) c.insert_point.ensures.becomes c.merge_range.ensures)
    (ap (λ (p : Point). merge v (a.j + 1 - a.i) a.i (insert_at (a.j + 1) p ps)) (c.new.ensures ∙ ap (point e) w)
    ∙ sym (end-laid e v a.i a.j ps (sym tested ∙ c.if-ends_after.true)))

pub returns-else-ends_after : goal.returns-else-ends_after
returns-else-ends_after c =
    let a = c.args in
    let e = a.e.0 in
    let v = a.v.0 in
    let tested = c.ends_after.ensures ∙ ap (ends e v a.j) c.points.ensures.are in
    becomes-as _ c.merge_range-else-ends_after.ensures (sym (end_kept e v a.i a.j (points_of a.self.now) (sym tested ∙ c.if-ends_after.false)))
