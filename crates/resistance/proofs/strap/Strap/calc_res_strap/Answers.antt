-- `calc_res_strap`: one record, and two.
use Rattle.resistance.proofs.StrapSteps.{one-record, two_records}
use Rattle.resistance.proofs.strap.Strap.calc_res_strap.Goals as goal

pub returns-then-one : goal.returns-then-one
returns-then-one c = let a = c.args in one-record a.self a.state a.list.now c.at-front.ensures c.if-one.true

pub returns : goal.returns
returns c =
    let a = c.args in
    two_records a.self a.state a.list.now c.at-front.ensures c.if-one.false c.calc_res_val-front_value.ensures c.at-back.ensures c.calc_res_val-back_value.ensures
