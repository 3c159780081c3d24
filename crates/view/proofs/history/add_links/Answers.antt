-- `add_links`: what is left to add from link point k on gives what was to be added at first.
use Rattle.std.proofs.Common.{◌+◌}
use Rattle.link.specs.Table.{table}
use Rattle.path_speeds.specs.Limits.{sets_of}
use Rattle.view.specs.History.{with_more, point_lays, lay_from_to}
use Rattle.view.proofs.Laid.{adding-first, adding-more, adding-last}
use Rattle.view.proofs.Lays.{lay-next, lay-none}
use Rattle.view.proofs.history.add_links.Goals as goal

pub loop-k-init : goal.loop-k-init
loop-k-init c =
    let a = c.args in
    let q = sets_of (table a.network.now) in
    adding-first a.all.now a.n c.min-m.result (lay_from_to a.train q a.path.now.offsets.now a.path.now.numbers.now a.from a.to) c.min-m.ensures

pub loop-k-preserved : goal.loop-k-preserved
loop-k-preserved c =
    let a = c.args in
    let q = sets_of (table a.network.now) in
    let o = c.loop-k in
    let p = c.link_point_at-p.result in
    let r = c.add_link-m in
    adding-more {goal = with_more a.all.now a.n (lay_from_to a.train q a.path.now.offsets.now a.path.now.numbers.now a.from a.to)} o.invariant (point_lays a.train q p) (lay_from_to a.train q a.path.now.offsets.now a.path.now.numbers.now (o.k + 1) a.to) r.new.all r.result
    (lay-next a.train q a.path.now.offsets.now a.path.now.numbers.now o.k a.to c.loop-k-test.true p c.link_point_at-p.ensures) r.ensures.laid r.ensures.within r.auto.all

pub returns-clause-laid : goal.returns-clause-laid
returns-clause-laid c =
    let a = c.args in
    let q = sets_of (table a.network.now) in
    adding-last c.loop-k.invariant (lay-none a.train q a.path.now.offsets.now a.path.now.numbers.now c.loop-k.k a.to c.loop-k-test.false)
