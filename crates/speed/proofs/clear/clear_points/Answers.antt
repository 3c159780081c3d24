-- `clear_points`: the points that stay move to the front, and the first of them to X.
use mathlib.Core.Path.{◌∙◌}
use native.Mathlib.Omega.{arith}
use Rattle.std.proofs.Common.{rules}
use Rattle.speed.proofs.PointColumn.{leaves-of}
use Rattle.speed.proofs.Cleared.{kept-below, kept-moved}
use Rattle.speed.proofs.clear.clear_points.Goals as goal

pub overflow_mul-from : goal.overflow_mul-from
overflow_mul-from c = let a = c.args in omega (arith, kept-below a.col.now a.n a.x.0 c.requires.n_nonzero c.new.ensures.are c.kept_from-from.ensures)

pub overflow_sub-kept : goal.overflow_sub-kept
overflow_sub-kept c = let a = c.args in omega (arith, kept-below a.col.now a.n a.x.0 c.requires.n_nonzero c.new.ensures.are c.kept_from-from.ensures)

pub invariant_of-kept : goal.invariant_of-kept
invariant_of-kept c =
    let a = c.args in
    record { holds = (kept-moved a.col.now a.n a.x.0 c.requires.n_nonzero c.new.ensures.are c.kept_from-from.ensures c.move_front.new.col c.requires.n_in_bounds c.move_front.ensures).1 }

pub set_offset-requires : goal.set_offset-requires
set_offset-requires c = let a = c.args in omega (arith, kept-below a.col.now a.n a.x.0 c.requires.n_nonzero c.new.ensures.are c.kept_from-from.ensures)

pub returns : goal.returns
returns c =
    let a = c.args in
    let moved = kept-moved a.col.now a.n a.x.0 c.requires.n_nonzero c.new.ensures.are c.kept_from-from.ensures c.move_front.new.col c.requires.n_in_bounds c.move_front.ensures in
    let left = leaves-of c.set_offset.new.self _ (c.set_offset.ensures.becomes.holds ∙ moved.0) in
    let same = c.set_offset.ensures.becomes.same in
    search rules
