-- `end_counts_zero`: the end point is the last of the n.
use mathlib.Core.Path.{sym, ap, ◌∙◌}
use mathlib.Core.Bool.{◌&&◌}
use lib.Dec.{eqb}
use Rattle.path.specs.declared.link_point.LinkPoint.{LinkPoint}
use Rattle.path.specs.Records.{grade_count_of, curve_count_of, power_count_of}
use Rattle.path.specs.Sound.{end_counts_zero}
use Rattle.path.proofs.LinkPoints.{end-at}
use Rattle.path.proofs.sound.end_counts_zero.Goals as goal

pub link_point_at-end-requires : goal.link_point_at-end-requires
link_point_at-end-requires c = tt

pub returns : goal.returns
unfolding end_counts_zero
returns c =
    let a = c.args in
    ap (λ (p : LinkPoint). eqb (grade_count_of p) 0 && (eqb (curve_count_of p) 0 && eqb (power_count_of p) 0))
    (c.link_point_at-end.ensures ∙ sym (end-at a.n a.offsets.now a.numbers.now c.requires))
