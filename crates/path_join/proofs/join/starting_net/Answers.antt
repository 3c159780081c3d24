-- `starting_net`: by the number of grades, and by the first link.
use native.Mathlib.Omega.{arith}
use mathlib.Core.Path.{sym}
use Rattle.path_join.proofs.Starting.{net-kept, net-unlisted, net-flat, net-first}
use Rattle.path_join.proofs.join.starting_net.Goals as goal

pub returns-then-begun : goal.returns-then-begun
returns-then-begun c =
    let a = c.args in
    sym (net-kept a.network.now.links.now a.network.now.elevs.now a.m a.net.0 a.list.now c.if-begun.true)

pub returns-then-list-eq0 : goal.returns-then-list-eq0
returns-then-list-eq0 c =
    let a = c.args in
    sym (net-unlisted a.network.now.links.now a.network.now.elevs.now a.m a.net.0 a.list.now c.if-list-eq0.true)

pub returns-then-l-eq0 : goal.returns-then-l-eq0
returns-then-l-eq0 c =
    let a = c.args in
    sym (net-flat a.network.now.links.now a.network.now.elevs.now a.m a.net.0 a.list.now c.if-begun.false (omega arith) c.link_numbers-l.ensures c.if-l-eq0.true)

pub returns : goal.returns
returns c =
    let a = c.args in
    net-first a.network.now.links.now a.network.now.elevs.now a.m a.net.0 a.list.now c.if-begun.false (omega arith) c.link_numbers-l.ensures (omega arith) c.elev_at.ensures
