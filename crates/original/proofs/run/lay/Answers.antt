-- `lay`: what is left to lay gives what was to be laid at first.
use Rattle.std.proofs.Common.{ℕ, ◌+◌, List, get_or, drop, refl, ap₂, drop-cons, add-one}
use lib.Ieee.{nan}
use lib.ListN.{drop_of_length-le}
use Rattle.speed.specs.declared.laid.Laid.{Laid}
use Rattle.speed.specs.Points.{Point}
use Rattle.speed.proofs.PointColumn.{holds-points, holds-again, leaves_at}
use Rattle.original.specs.Original.{points_in, follow_all}
use Rattle.original.proofs.Followed.{laying-next, laying-end}
use Rattle.original.proofs.run.lay.Goals as goal

-- what is read past the end of the limits
abbrev unread : Laid
unread = record { start = nan; board = nan; end = nan; value = nan; link = 0 }

pub loop-l-init : goal.loop-l-init
loop-l-init c =
    let a = c.args in
    let l = c.points_in-m.ensures in
    record { same = refl; held = holds-again c.points_in-m.new.col (points_in a.n a.col.now) c.points_in-m.result l.holds l.count; is = refl }

pub loop-l-preserved : goal.loop-l-preserved
loop-l-preserved c =
    let o = c.loop-l in
    let limits = c.args.limits.now in
    laying-next c.points_in-m.new.col _ (drop o.l-index limits) o.col o.m o.invariant (get_or limits o.l-index unread) (drop (o.l-index + 1) limits) (rw (add-one o.l-index, drop-cons limits o.l-index unread c.loop-l-test.true)) c.follow-m.ensures c.follow-m.auto.col

pub returns : goal.returns
returns c =
    let a = c.args in
    let o = c.loop-l in
    let l = c.points_in-m.ensures in
    leaves_at o.col o.m _ _ (laying-end c.points_in-m.new.col _ (drop o.l-index a.limits.now) o.col o.m o.invariant (drop_of_length-le a.limits.now c.loop-l-test.false))
    (ap₂ (λ (room : ℕ) (ps : List Point). follow_all room a.limits.now ps) c.points_in-m.auto.col (holds-points c.points_in-m.new.col (points_in a.n a.col.now) c.points_in-m.result l.holds l.count))
