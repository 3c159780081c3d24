-- `offsets_rise`: the answer for the link points before i, and that for those from i on, are the answer.
use mathlib.Core.Path.{sym, ◌∙◌}
use native.Mathlib.Omega.{arith}
use Rattle.path.proofs.Ordered.{rise-first, rise-more, rise-end}
use Rattle.path.proofs.sound.offsets_rise.Goals as goal

pub loop-i-init : goal.loop-i-init
loop-i-init c =
    let a = c.args in
    (omega arith, omega arith, rise-first a.offsets.now a.numbers.now a.n (omega arith))

pub loop-i-preserved : goal.loop-i-preserved
loop-i-preserved c =
    let a = c.args in
    let l = c.loop-i in
    (omega arith, omega arith, l.invariant.2 ∙ rise-more a.offsets.now a.numbers.now a.n l.ok l.i (omega arith) c.entry.ensures c.entry-in-loop-i.ensures)

pub returns : goal.returns
returns c =
    let a = c.args in
    let l = c.loop-i in
    sym (l.invariant.2 ∙ rise-end a.offsets.now a.numbers.now a.n l.ok l.i (omega arith))
