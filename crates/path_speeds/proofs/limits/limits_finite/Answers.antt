-- `limits_finite`: from limit i on the answer is that from the first on.
use mathlib.Core.Path.{sym, ◌∙◌}
use Rattle.link.specs.Table.{limit_at, limit_of}
use Rattle.link.proofs.Judging.{said-no-of, said-yes-of}
use Rattle.link.proofs.Loops.{every-pass, every-fail, every-end}
use Rattle.path_speeds.specs.Limits.{laid_finite}
use Rattle.path_speeds.proofs.Lowered.{limits_end, finite-whole}
use mathlib.Core.Path.{ap}
use mathlib.Core.Bool.{not}
use Rattle.path_speeds.proofs.limits.limits_finite.Goals as goal

pub returns-then-not-laid_finite : goal.returns-then-not-laid_finite
returns-then-not-laid_finite c =
    let a = c.args in
    let limits = a.limits.now in
    let ok = laid_finite a.top.0 a.base.0 c.tail_of-tail.result.0 in
    let i = c.loop-i.i in
    sym (every-fail (limit_at limits) ok i (limits_end a.s) c.loop-i-test.true (said-no-of ok (limit_of c.speed_limit_at.result) (limit_at limits i) c.laid_finite.ensures c.speed_limit_at.ensures (ap not c.if-not-laid_finite.true)))
    ∙ c.loop-i.invariant
    ∙ finite-whole a.top.0 a.base.0 c.tail_of-tail.result.0 a.length.0 limits a.s c.tail_of-tail.ensures

pub loop-i-preserved : goal.loop-i-preserved
loop-i-preserved c =
    let a = c.args in
    let limits = a.limits.now in
    let ok = laid_finite a.top.0 a.base.0 c.tail_of-tail.result.0 in
    let i = c.loop-i.i in
    sym (every-pass (limit_at limits) ok i (limits_end a.s) c.loop-i-test.true (said-yes-of ok (limit_of c.speed_limit_at.result) (limit_at limits i) c.laid_finite.ensures c.speed_limit_at.ensures (ap not c.if-not-laid_finite.false)))
    ∙ c.loop-i.invariant

pub returns : goal.returns
returns c =
    let a = c.args in
    let limits = a.limits.now in
    let ok = laid_finite a.top.0 a.base.0 c.tail_of-tail.result.0 in
    let i = c.loop-i.i in
    sym (every-end (limit_at limits) ok i (limits_end a.s) c.loop-i-test.false)
    ∙ c.loop-i.invariant
    ∙ finite-whole a.top.0 a.base.0 c.tail_of-tail.result.0 a.length.0 limits a.s c.tail_of-tail.ensures
