-- `limits_formed`: from limit i on, with the answer so far, the answer is that from the first on.
use Rattle.std.proofs.Common.{◌&&◌, sym, ap, ◌∙◌, arith}
use mathlib.Core.Bool.{and-true}
use Rattle.link.specs.Lists.{every}
use Rattle.link.specs.Table.{limit_at}
use Rattle.link.specs.Questions.{limit_formed}
use Rattle.link.proofs.Loops.{whole-range, every_more, every-end}
use Rattle.link.proofs.cat_power.limits_formed.Goals as goal

pub loop-i-init : goal.loop-i-init
loop-i-init c =
    let a = c.args in
    (omega arith, ap (every limit_formed) (whole-range (limit_at a.limits.now) a.first a.count))

pub limit_formed-ok-requires : goal.limit_formed-ok-requires
limit_formed-ok-requires c = record { i_bound = omega arith; i_in_bounds = omega arith }

pub loop-i-preserved : goal.loop-i-preserved
loop-i-preserved c =
    let l = c.loop-i in
    (omega arith, rw c.limit_formed-ok.ensures (sym (every_more (limit_at c.args.limits.now) limit_formed l.i _ l.ok c.loop-i-test.true) ∙ l.invariant.1))

pub returns : goal.returns
returns c =
    let l = c.loop-i in
    sym (ap (λ b. l.ok && b) (every-end (limit_at c.args.limits.now) limit_formed l.i _ c.loop-i-test.false) ∙ and-true l.ok) ∙ l.invariant.1
