-- `all_numbered`: the answer for the link points before i, and that for those from i on, are the answer.
use mathlib.Core.Path.{sym, ap, ◌∙◌}
use native.Mathlib.Omega.{arith}
use Rattle.path.specs.Sound.{all_numbered}
use Rattle.path.proofs.LinkPoints.{links-all}
use Rattle.path.proofs.Ordered.{number_more, number-end}
use Rattle.path.proofs.sound.all_numbered.Goals as goal

pub loop-i-init : goal.loop-i-init
loop-i-init c =
    let a = c.args in
    (omega arith, ap all_numbered (sym (links-all a.offsets.now a.numbers.now a.n)))

pub link_point_within-requires : goal.link_point_within-requires
link_point_within-requires c = record { i_in_bounds = omega arith; i_in_bounds_2 = omega arith }

pub loop-i-preserved : goal.loop-i-preserved
loop-i-preserved c =
    let a = c.args in
    let l = c.loop-i in
    (omega arith, l.invariant.1 ∙ number_more a.offsets.now a.numbers.now a.n l.ok l.i (omega arith) c.link_point_within.ensures)

pub returns : goal.returns
returns c =
    let a = c.args in
    let l = c.loop-i in
    sym (l.invariant.1 ∙ number-end a.offsets.now a.numbers.now a.n l.ok l.i (omega arith))
