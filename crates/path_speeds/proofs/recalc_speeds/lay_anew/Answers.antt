-- `lay_anew`: one point in a column of zeros, and then the limits.
use native.Mathlib.Omega.{arith}
use Rattle.link.specs.Lists.{up_from}
use Rattle.link.specs.Train.{top_speed}
use Rattle.path.specs.Records.{point_at}
use Rattle.link.specs.Table.{table}
use Rattle.path_speeds.specs.Limits.{sets_of}
use Rattle.std.proofs.Common.{rules}
use Rattle.speed.proofs.PointColumn.{leaves-of}
use Rattle.path_speeds.proofs.Anew.{begun-held, begun-points, laid-anew}
use Rattle.path_speeds.proofs.recalc_speeds.lay_anew.Goals as goal

pub lay_links-requires : goal.lay_links-requires
lay_links-requires c =
    let a = c.args in
    let room = c.requires.room in
    record { some = omega arith; count_bound = omega (arith, c.requires.count_bound); count_value = c.requires.count_value; room = omega (arith, c.zero_from.auto.col, c.put_record.auto.col) }

pub invariant_of-points : goal.invariant_of-points
invariant_of-points c =
    let a = c.args in
    let room = c.requires.room in
    record { holds = begun-held c.get-begin.result (top_speed a.train) a.speeds.now (omega arith) c.zero_from.ensures c.put_record.ensures }

pub returns : goal.returns
returns c =
    let a = c.args in
    let q = sets_of (table a.network.now) in
    let room = c.requires.room in
    let at = point_at a.offsets.now a.numbers.now in
    let begun = begun-points c.get-begin.result (top_speed a.train) a.speeds.now (omega arith) c.zero_from.ensures c.put_record.ensures in
    let laid = laid-anew a.train a.own.0 q (up_from at 0 a.count) (at 0) c.get-begin.ensures begun (leaves-of c.lay_links.new.speeds _ c.lay_links.ensures.holds) in
    let same = c.lay_links.ensures.same in
    search rules
