-- `drop_before`: the points from the first at or past x on move to the front, and that one to x.
use Prim.Native.Nat.{◌-◌}
use native.Mathlib.Omega.{arith}
use mathlib.Core.Path.{ap, subst, ◌∙◌}
use mathlib.Core.List.{List}
use Rattle.std.proofs.Common.{rules}
use Rattle.speed.specs.Points.{Point}
use Rattle.speed.specs.Column.{points, Holds}
use Rattle.speed.specs.Insert.{first_from}
use Rattle.speed.proofs.PointColumn.{holds-points, leaves_at}
use Rattle.original.specs.Original.{clear_original, points_in}
use Rattle.original.proofs.Followed.{first-most, rest-held, none_left, first-pulled}
use Rattle.original.proofs.run.drop_before.Goals as goal

pub new-requires : goal.new-requires
new-requires c = omega (arith, c.points_in-m.ensures.count, c.points_in-m.ensures.holds.fits)

pub overflow_mul-from : goal.overflow_mul-from
overflow_mul-from c =
    let x = c.args.x.0 in
    omega (arith, first-most x c.points_in-m.new.col c.points_in-m.result c.first_from-from.result (c.first_from-from.ensures ∙ ap (first_from x) c.new.ensures.are))

pub returns-then-m-from : goal.returns-then-m-from
returns-then-m-from c =
    let a = c.args in
    let d = c.points_in-m.new.col in
    let m = c.points_in-m.result in
    let l = c.points_in-m.ensures in
    let first = c.first_from-from.ensures ∙ ap (first_from a.x.0) c.new.ensures.are in
    leaves_at c.move_front.new.col 0 (clear_original (points m d) a.x.0) (clear_original (points_in a.n a.col.now) a.x.0)
    (none_left a.x.0 d m c.first_from-from.result first (omega (arith, l.count, l.holds.fits)) c.move_front.ensures c.if-m-from.true)
    (ap (λ (ps : List Point). clear_original ps a.x.0) (holds-points d (points_in a.n a.col.now) m l.holds l.count))

pub invariant_of-rest : goal.invariant_of-rest
invariant_of-rest c =
    let a = c.args in
    let d = c.points_in-m.new.col in
    let m = c.points_in-m.result in
    let l = c.points_in-m.ensures in
    let first = c.first_from-from.ensures ∙ ap (first_from a.x.0) c.new.ensures.are in
    record { holds = rest-held a.x.0 d m c.first_from-from.result first (omega (arith, l.count, l.holds.fits)) c.move_front.ensures }

pub returns : goal.returns
returns c =
    let a = c.args in
    let d = c.points_in-m.new.col in
    let m = c.points_in-m.result in
    let l = c.points_in-m.ensures in
    let k = c.first_from-from.result in
    let first = c.first_from-from.ensures ∙ ap (first_from a.x.0) c.new.ensures.are in
    let rest = c.set_offset.new.self in
    let left = leaves_at rest.col.now (m - k) (clear_original (points m d) a.x.0) (clear_original (points_in a.n a.col.now) a.x.0)
    (first-pulled a.x.0 d m k first (omega (arith, l.count, l.holds.fits)) c.move_front.ensures rest.col.now (subst (Holds rest.col.now) c.set_offset.ensures.becomes.holds rest.holds))
    (ap (λ (ps : List Point). clear_original ps a.x.0) (holds-points d (points_in a.n a.col.now) m l.holds l.count)) in
    let same = c.set_offset.ensures.becomes.same in
    search rules
