-- `kept_from`: the point found is at X, or else the one before it stays.
use mathlib.Core.Path.{◌∙◌}
use native.Mathlib.Omega.{arith}
use Rattle.speed.proofs.Cleared.{kept_at, kept-before, kept_last}
use Rattle.speed.proofs.speed_point.SpeedPoints.kept_from.Goals as goal
use Rattle.speed.proofs.speed_point.SpeedPoints.kept_from.Goals.{else-k-len-via-then-k-len+else-offset_at-x, else-k-len-via-else-k-len}

pub returns-then-offset_at-x : goal.returns-then-offset_at-x
returns-then-offset_at-x c =
    let k = c.first_from-k in
    kept_at c.args.x.0 c.args.self.now k.result k.ensures (omega arith) c.offset_at.ensures c.if-offset_at-x.true

pub returns : goal.returns
returns c =
    let k = c.first_from-k in
    c.saturating_sub.ensures
    ∙ elim c.else-k-len.branch [
      | else-k-len-via-then-k-len+else-offset_at-x w ↦ kept-before c.args.x.0 c.args.self.now k.result k.ensures w.offset_at.ensures w.if-offset_at-x.false
      | else-k-len-via-else-k-len w ↦ kept_last c.args.x.0 c.args.self.now k.result k.ensures (omega arith)
    ]
