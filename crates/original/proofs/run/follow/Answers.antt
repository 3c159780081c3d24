-- `follow`: by whether there are points, and room for two more.
use mathlib.Core.Path.{sym, ◌∙◌}
use mathlib.Core.List.{[]}
use native.Mathlib.Omega.{arith}
use lib.ListN.{length}
use Rattle.std.proofs.Common.{rules}
use Rattle.speed.specs.Column.{points}
use Rattle.speed.proofs.PointColumn.{length-points, fits_points, leaves_at, leaves-of}
use Rattle.original.proofs.Followed.{none-held, none_kept, follow-none, follow-full, follow_one}
use Rattle.original.proofs.run.follow.Goals as goal

pub returns-then-m-eq0 : goal.returns-then-m-eq0
returns-then-m-eq0 c =
    let a = c.args in
    let ps = points a.m a.col.now in
    leaves_at a.col.now 0 [] _ (none_kept a.col.now a.m c.if-m-eq0.true c.requires)
    (sym (follow-none (length a.col.now) ps _ _ _ (length-points a.m a.col.now ∙ c.if-m-eq0.true)))

pub overflow_add-m : goal.overflow_add-m
overflow_add-m c = omega (arith, fits_points c.args.col.now c.args.m c.requires)

pub returns-then-col-m : goal.returns-then-col-m
returns-then-col-m c =
    let a = c.args in
    let ps = points a.m a.col.now in
    let l = length-points a.m a.col.now in
    leaves_at c.zero_from.new.col 0 [] _ (none-held a.col.now c.zero_from.new.col c.zero_from.ensures)
    (sym (follow-full (length a.col.now) ps _ _ _ (omega arith) (omega arith)))

pub invariant_of-points : goal.invariant_of-points
invariant_of-points c = record { holds = c.requires }

pub insert_as_original-requires : goal.insert_as_original-requires
insert_as_original-requires c = record { some = omega arith; room = omega arith }

pub returns : goal.returns
returns c =
    let a = c.args in
    let ps = points a.m a.col.now in
    let l = length-points a.m a.col.now in
    let left = leaves-of c.insert_as_original.new.col _ (c.insert_as_original.ensures.holds ∙ sym (follow_one (length a.col.now) ps _ _ _ (omega arith) (omega arith))) in
    let same = c.insert_as_original.ensures.same in
    search rules
