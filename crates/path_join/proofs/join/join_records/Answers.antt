-- `join_records`: what the lent column holds afterwards.
use native.Mathlib.Omega.{arith}
use Rattle.std.proofs.Common.{rules}
use Rattle.lookup.proofs.Coeffs.{length-coeffs}
use Rattle.path_join.proofs.OnRecords.{laid-of}
use Rattle.path_join.proofs.join.join_records.Goals as goal

pub invariant_of-records : goal.invariant_of-records
invariant_of-records c =
    let a = c.args in
    record { holds = record { some = omega (arith, c.requires.m_nonzero, length-coeffs a.m a.col.now); fits = omega (arith, c.requires.list_in_bounds, length-coeffs a.m a.col.now); is = c.requires.col_value } }

pub join_listed-requires : goal.join_listed-requires
join_listed-requires c = record { list_len_bound = c.requires.list_len_bound; room = c.requires.list_in_bounds }

pub returns : goal.returns
returns c =
    let left = laid-of c.join_listed.ensures in
    let same = c.join_listed.ensures.same in
    search rules
