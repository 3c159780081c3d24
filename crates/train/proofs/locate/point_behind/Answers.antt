-- `point_behind`: from the place before i back the search ends where it ends from the last link point back.
use Prim.Native.Nat.{◌-◌}
use native.Mathlib.Omega.{arith}
use Rattle.train.proofs.Behind.{passed_none, passed-all, passed-more, passed-stop}
use Rattle.train.proofs.locate.point_behind.Goals as goal

pub loop-i-init : goal.loop-i-init
loop-i-init c =
    let a = c.args in
    (c.requires, passed_none a.cols.now.offsets.now a.cols.now.numbers.now a.n a.x.0 c.requires)

pub returns-then-not-x-get : goal.returns-then-not-x-get
returns-then-not-x-get c =
    let a = c.args in
    passed-stop a.cols.now.offsets.now a.cols.now.numbers.now a.n a.x.0 (c.loop-i.i - 1) c.loop-i.invariant.1 c.get.ensures c.if-not-x-get.true c.link_point_at.ensures

pub loop-i-preserved : goal.loop-i-preserved
loop-i-preserved c =
    let a = c.args in
    (omega arith, passed-more a.cols.now.offsets.now a.cols.now.numbers.now a.n a.x.0 (c.loop-i.i - 1) c.loop-i.invariant.1 c.get.ensures (omega arith) c.if-not-x-get.false)

pub returns : goal.returns
returns c =
    let a = c.args in
    passed-all a.cols.now.offsets.now a.cols.now.numbers.now a.n a.x.0 (c.loop-i.i - 1) c.loop-i.invariant.1 (omega arith) c.link_point_at-2.ensures
