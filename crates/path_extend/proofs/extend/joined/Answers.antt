-- `joined`: one kind of record after the other.
use native.Mathlib.Omega.{arith}
use mathlib.Core.Path.{ap}
use Rattle.lookup.specs.Coeff.{stands_at}
use Rattle.link.specs.Table.{table}
use Rattle.path.specs.Records.{held}
use Rattle.path_extend.proofs.Assembled.{first-length, first-held, assembled}
use Rattle.path_extend.proofs.Prepared.{some, points-fit, points-hold, limits-few, limits-room, speeds-hold, grades-room, grades-hold, grades-fit, curves-hold, curves-fit, powers-fit, powers-hold}
use Rattle.path_extend.proofs.extend.joined.Goals as goal

pub overflow_sub-p : goal.overflow_sub-p
overflow_sub-p c =
    let a = c.args in
    let l = held a.cols.now in
    let t = table a.network.now in
    let ns = a.list.now in
    (some a.train t ns a.p l c.requires.sound c.requires.ready).1

pub join_points-requires : goal.join_points-requires
join_points-requires c =
    let a = c.args in
    let l = held a.cols.now in
    let t = table a.network.now in
    let ns = a.list.now in
    let f = points-fit a.train t ns a.p l c.requires.sound c.requires.ready in record { n_nonzero = (some a.train t ns a.p l c.requires.sound c.requires.ready).0; list_bound = f.0; list_in_bounds = f.1; list_in_bounds_2 = f.2; holds_points = points-hold a.train t ns a.p l c.requires.sound c.requires.ready }

pub overflow_sub-n : goal.overflow_sub-n
overflow_sub-n c =
    let a = c.args in
    let l = held a.cols.now in
    let t = table a.network.now in
    let ns = a.list.now in
    (some a.train t ns a.p l c.requires.sound c.requires.ready).0

pub join_limits-speed_count-requires : goal.join_limits-speed_count-requires
join_limits-speed_count-requires c =
    let a = c.args in
    let l = held a.cols.now in
    let t = table a.network.now in
    let ns = a.list.now in
    let h = c.join_points.ensures in record { n_nonzero = (some a.train t ns a.p l c.requires.sound c.requires.ready).3; count_bound = omega (arith, (points-fit a.train t ns a.p l c.requires.sound c.requires.ready).0, (some a.train t ns a.p l c.requires.sound c.requires.ready).0); count_value = limits-few a.train t ns a.p l c.requires.sound c.requires.ready h; room = limits-room a.train t ns a.p l c.requires.sound c.requires.ready h; holds = speeds-hold a.train t ns a.p l c.requires.sound c.requires.ready }

pub start_net-requires : goal.start_net-requires
start_net-requires c =
    let a = c.args in
    let l = held a.cols.now in
    let t = table a.network.now in
    let ns = a.list.now in record { m_nonzero = (some a.train t ns a.p l c.requires.sound c.requires.ready).1; m_in_bounds = grades-room a.train t ns a.p l c.requires.sound c.requires.ready; grades_value = grades-hold a.train t ns a.p l c.requires.sound c.requires.ready }

pub join_records-grade_count-requires : goal.join_records-grade_count-requires
join_records-grade_count-requires c =
    let a = c.args in
    let l = held a.cols.now in
    let t = table a.network.now in
    let ns = a.list.now in
    let g = first-length a.train t ns a.p l c.requires.sound c.requires.ready.own c.start_net.ensures (grades-room a.train t ns a.p l c.requires.sound c.requires.ready) in record { m_nonzero = (some a.train t ns a.p l c.requires.sound c.requires.ready).1; list_len_bound = omega (arith, (points-fit a.train t ns a.p l c.requires.sound c.requires.ready).0); list_in_bounds = omega (arith, grades-fit a.train t ns a.p l c.requires.sound c.requires.ready, g); col_value = first-held a.train t ns a.p l c.requires.sound c.requires.ready.own c.start_net.ensures (grades-room a.train t ns a.p l c.requires.sound c.requires.ready) }

pub join_records-curve_count-requires : goal.join_records-curve_count-requires
join_records-curve_count-requires c =
    let a = c.args in
    let l = held a.cols.now in
    let t = table a.network.now in
    let ns = a.list.now in record { m_nonzero = (some a.train t ns a.p l c.requires.sound c.requires.ready).2; list_len_bound = omega (arith, (points-fit a.train t ns a.p l c.requires.sound c.requires.ready).0); list_in_bounds = curves-fit a.train t ns a.p l c.requires.sound c.requires.ready; col_value = curves-hold a.train t ns a.p l c.requires.sound c.requires.ready }

pub join_powers-power_count-requires : goal.join_powers-power_count-requires
join_powers-power_count-requires c =
    let a = c.args in
    let l = held a.cols.now in
    let t = table a.network.now in
    let ns = a.list.now in
    let f = powers-fit a.train t ns a.p l c.requires.sound c.requires.ready in record { list_len_bound = omega (arith, (points-fit a.train t ns a.p l c.requires.sound c.requires.ready).0); list_in_bounds = f.0; list_in_bounds_2 = f.1; holds_powers = powers-hold a.train t ns a.p l c.requires.sound c.requires.ready }

pub overflow_add-result : goal.overflow_add-result
overflow_add-result c =
    let a = c.args in
    let l = held a.cols.now in
    let t = table a.network.now in
    let ns = a.list.now in
    record { fits = omega (arith, (points-fit a.train t ns a.p l c.requires.sound c.requires.ready).0) }

pub returns-clause-outcome : goal.returns-clause-outcome
returns-clause-outcome c =
    let a = c.args in
    let l = held a.cols.now in
    let t = table a.network.now in
    let ns = a.list.now in
    assembled a.train t ns a.p l c.requires.sound c.requires.ready.own (ap stands_at c.coeff_at.ensures) c.join_points.ensures c.join_points.auto.offsets c.join_points.auto.numbers c.join_limits-speed_count.ensures c.join_limits-speed_count.auto.speeds c.start_net.ensures c.start_net.auto.grades c.join_records-grade_count.ensures c.join_records-curve_count.ensures c.join_powers-power_count.ensures c.join_powers-power_count.auto.powers c.join_powers-power_count.auto.districts
