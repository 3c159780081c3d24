-- `add_limits`: what is left to add from limit i on gives what was to be added at first.
use Rattle.std.proofs.Common.{◌+◌, [], ◌∷◌, ap, ◌∙◌}
use Rattle.link.specs.Train.{top_speed, length_of}
use Rattle.link.specs.Table.{limit_of}
use Rattle.path_speeds.proofs.Lowered.{limits_end}
use Rattle.speed.specs.declared.laid.Laid.{Laid}
use Rattle.view.specs.History.{with_more, laid_of}
use Rattle.view.proofs.Laid.{adding-first, adding-more, adding-none, adding-last}
use Rattle.view.proofs.Lays.{limits_left, left-next, left-skip, left-none, left-whole}
use Rattle.view.proofs.history.add_limits.Goals as goal
use Rattle.view.proofs.history.add_limits.Goals.{then-l-train, else-l-train}

pub loop-i-init : goal.loop-i-init
loop-i-init c =
    let a = c.args in
    let tail = c.tail_of-tail.result.0 in
    let limits = a.limits.now in
    adding-first a.all.now a.n c.min-m.result (limits_left (top_speed a.train) a.base.0 tail a.number limits (limits_end a.s) a.s.limits_first) c.min-m.ensures

pub loop-i-preserved : goal.loop-i-preserved
loop-i-preserved c =
    let a = c.args in
    let tail = c.tail_of-tail.result.0 in
    let limits = a.limits.now in
    let top = top_speed a.train in
    let base = a.base.0 in
    let end = limits_end a.s in
    let o = c.loop-i in
    let l = limit_of c.speed_limit_at-l.result in
    let rest = limits_left top base tail a.number limits end (o.i + 1) in
    elim c.if-l-train.branch [
      | then-l-train w ↦
          let r = w.put-m in
          let added = r.ensures.laid ∙ ap (λ (k : Laid). with_more o.all o.m (k ∷ [])) w.laid_limit.ensures in
          rw (w.all-is, w.m-is) (adding-more o.invariant (laid_of base tail a.number l ∷ []) rest r.new.all r.result (left-next top base tail a.number limits end o.i c.loop-i-test.true l c.speed_limit_at-l.ensures w.if-l-train.true) added r.ensures.within r.auto.all)
      | else-l-train w ↦ rw (w.all-is, w.m-is) (adding-none o.invariant rest (left-skip top base tail a.number limits end o.i c.loop-i-test.true l c.speed_limit_at-l.ensures w.if-l-train.false))
    ]

pub returns-clause-laid : goal.returns-clause-laid
returns-clause-laid c =
    let a = c.args in
    let tail = c.tail_of-tail.result.0 in
    let limits = a.limits.now in
    let top = top_speed a.train in
    adding-last c.loop-i.invariant (left-none top a.base.0 tail a.number limits (limits_end a.s) c.loop-i.i c.loop-i-test.false)
    ∙ ap (with_more a.all.now a.n) (left-whole top a.base.0 tail (length_of a.train) a.number limits a.s c.tail_of-tail.ensures)
