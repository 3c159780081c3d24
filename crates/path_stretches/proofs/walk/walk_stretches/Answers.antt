-- `walk_stretches`: from the stretch that ends at sample i on, after what the code has, it is where all of them end.
use Prim.Native.Nat.{◌+◌}
use native.Mathlib.Omega.{arith}
use mathlib.Core.Path.{refl, sym, ap, ◌∙◌}
use Rattle.link.specs.Table.{sample_at}
use Rattle.path.specs.Sound.{is_curves}
use Rattle.path_stretches.specs.Stretches.{stretch_step, reached}
use Rattle.path_stretches.proofs.StretchSteps.{stretches-flat, stretches-all, walk_more, walk_none, walk-flat}
use Rattle.path_stretches.proofs.walk.walk_stretches.Goals as goal

pub returns-then-count-eq0 : goal.returns-then-count-eq0
returns-then-count-eq0 c =
    let a = c.args in
    let e = stretches-flat (is_curves a.lines) a.train a.base.0 a.net.0 a.length.0 (sample_at a.pool.now) a.first a.count c.if-count-eq0.true in
    rw c.flat_stretch-s.ensures (sym (ap (reached a.base.0 a.net.0) e ∙ walk-flat a.base.0 a.net.0 _))

pub loop-i-init : goal.loop-i-init
loop-i-init c = refl

pub loop-i-preserved : goal.loop-i-preserved
loop-i-preserved c =
    let a = c.args in
    let l = c.loop-i in
    let step = stretch_step (is_curves a.lines) a.train a.base.0 in
    sym (walk_more step (sample_at a.pool.now) (a.first + a.count) l.at.finite l.at.offset.0 l.at.net.0 l.i (omega arith) c.stretch_at-s.ensures) ∙ l.invariant

pub returns : goal.returns
returns c =
    let a = c.args in
    let l = c.loop-i in
    let step = stretch_step (is_curves a.lines) a.train a.base.0 in
    let all = stretches-all (is_curves a.lines) a.train a.base.0 a.net.0 a.length.0 (sample_at a.pool.now) a.first a.count (omega arith) in
    sym (walk_none step (sample_at a.pool.now) (a.first + a.count) l.at.finite l.at.offset.0 l.at.net.0 l.i (omega arith)) ∙ l.invariant ∙ ap (reached a.base.0 a.net.0) (sym all)
