-- `speed_set_applies`: the first condition and then the rest.
use Rattle.link.specs.Lists.{every, up_from}
use Rattle.link.specs.Table.{condition_at}
use Rattle.link.proofs.Conditions.{applies-next}
use Rattle.link.proofs.network.Network.+speed_set_applies.Goals as goal

pub returns-then-left-eq0 : goal.returns-then-left-eq0
unfolding every up_from
returns-then-left-eq0 t c = rw c.if-left-eq0.true

pub returns-then-condition_holds : goal.returns-then-condition_holds
returns-then-condition_holds t c =
    let a = c.args in
    rw (applies-next a.train (condition_at a.self.now.codes.now a.self.now.values.now) a.first a.left c.if-left-eq0.false, ← c.condition_holds.ensures, c.if-condition_holds.true) c.speed_set_applies.ensures

pub returns : goal.returns
returns t c =
    let a = c.args in
    rw (applies-next a.train (condition_at a.self.now.codes.now a.self.now.values.now) a.first a.left c.if-left-eq0.false, ← c.condition_holds.ensures, c.if-condition_holds.false)
