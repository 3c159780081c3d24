-- `sorted_from`: the answer for the speed points before i, and that for those from i on, are the answer.
use mathlib.Core.Path.{refl, sym, ◌∙◌}
use native.Mathlib.Omega.{arith}
use Rattle.path.proofs.Ordered.{sorted-first, sorted_more, sorted-end}
use Rattle.path.proofs.sound.sorted_from.Goals as goal

pub loop-i-init : goal.loop-i-init
loop-i-init c = (omega arith, omega arith, refl)

pub loop-i-preserved : goal.loop-i-preserved
loop-i-preserved c =
    let a = c.args in
    let l = c.loop-i in
    (omega arith, omega arith, l.invariant.2 ∙ sorted_more a.speeds.now a.n l.ok l.i (omega arith) c.speed_offset-in-loop-i.ensures c.speed_offset-in-loop-i-2.ensures)

pub returns : goal.returns
returns c =
    let a = c.args in
    let l = c.loop-i in
    sym (sorted-first a.speeds.now a.n a.o.0 (omega arith) c.speed_offset.ensures ∙ l.invariant.2 ∙ sorted-end a.speeds.now a.n l.ok l.i (omega arith))
