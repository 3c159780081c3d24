-- `grade_end`: by the number of elevations.
use native.Mathlib.Omega.{arith}
use Rattle.path_join.specs.Listed.{rises}
use Rattle.path_join.proofs.Starting.{ends-flat, ends_there, ends_last}
use Rattle.path_join.proofs.join.grade_end.Goals as goal

pub returns-then-count-eq0 : goal.returns-then-count-eq0
returns-then-count-eq0 c =
    let a = c.args in
    ends-flat (rises a.network.now.links.now a.network.now.lengths.now a.network.now.elevs.now) a.base.0 a.i c.link_numbers-l.ensures c.if-count-eq0.true c.get.ensures

pub returns-then-count-eq1 : goal.returns-then-count-eq1
returns-then-count-eq1 c =
    let a = c.args in
    ends_there (rises a.network.now.links.now a.network.now.lengths.now a.network.now.elevs.now) a.base.0 a.i c.link_numbers-l.ensures c.if-count-eq1.true

pub returns : goal.returns
returns c =
    let a = c.args in
    ends_last (rises a.network.now.links.now a.network.now.lengths.now a.network.now.elevs.now) a.base.0 a.i c.link_numbers-l.ensures (omega arith) c.elev_at-last.ensures
