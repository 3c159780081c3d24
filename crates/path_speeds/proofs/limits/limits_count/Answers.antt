-- `limits_count`: the limits from i on and those counted before are all of them.
use native.Mathlib.Omega.{arith}
use mathlib.Core.Path.{sym, ap, ◌∙◌}
use lib.ListN.{length}
use Rattle.link.specs.Table.{limit_at}
use Rattle.path_speeds.specs.Limits.{lowers}
use Rattle.path_speeds.proofs.Lowered.{limits_end, lower-next, lower_skip, lower-end, count-whole, count_most}
use Rattle.path_speeds.proofs.limits.limits_count.Goals as goal
use Rattle.path_speeds.proofs.limits.limits_count.Goals.{then-speed_limit_at-top, else-speed_limit_at-top}

pub loop-i-init : goal.loop-i-init
loop-i-init c = (omega arith, omega arith)

pub loop-i-preserved : goal.loop-i-preserved
loop-i-preserved c =
    let a = c.args in
    let top = a.top.0 in
    let limits = a.limits.now in
    let i = c.loop-i.i in
    let end = limits_end a.s in
    let own = sym (ap (lowers top) c.speed_limit_at.ensures) in
    elim c.if-speed_limit_at-top.branch [
      | then-speed_limit_at-top w ↦ (omega arith, omega (arith, c.loop-i.invariant.1, ap length (lower-next top (limit_at limits) i end c.loop-i-test.true (own ∙ w.if-speed_limit_at-top.true))))
      | else-speed_limit_at-top w ↦ (omega arith, omega (arith, c.loop-i.invariant.1, ap length (lower_skip top (limit_at limits) i end c.loop-i-test.true (own ∙ w.if-speed_limit_at-top.false))))
    ]

pub returns-clause-count : goal.returns-clause-count
returns-clause-count c =
    let a = c.args in
    let limits = a.limits.now in
    omega (arith, c.loop-i.invariant.1, ap length (lower-end a.top.0 (limit_at limits) c.loop-i.i (limits_end a.s) c.loop-i-test.false), count-whole a.top.0 limits a.s)

pub returns-clause-upper_bound : goal.returns-clause-upper_bound
returns-clause-upper_bound c =
    let a = c.args in
    let limits = a.limits.now in
    omega (arith, c.loop-i.invariant.1, ap length (lower-end a.top.0 (limit_at limits) c.loop-i.i (limits_end a.s) c.loop-i-test.false), count-whole a.top.0 limits a.s, count_most a.top.0 limits a.s)
