-- `lay`: the coefficient that is kept or given, and the three entries after the last record.
use Prim.Native.Nat.{◌-◌, ◌*◌}
use native.Mathlib.Omega.{arith}
use mathlib.Core.Path.{◌≡◌, refl, ◌∙◌}
use lib.ListN.{length-set}
use Rattle.ieee.proofs.Same.{zero-literal}
use Rattle.path_stretches.proofs.StretchesLaid.{given_entry, stored_given, stored, some-coeffs, next-laid}
use Rattle.path_stretches.proofs.coeff_column.CoeffColumn.lay.Goals as goal
use Rattle.path_stretches.proofs.coeff_column.CoeffColumn.lay.Goals.{in-Some, in_default}

pub overflow_sub-col : goal.overflow_sub-col
overflow_sub-col c = let l = c.args.self.now in omega (arith, some-coeffs l.col.now l.count l.holds)

pub invariant_of-self : goal.invariant_of-self
invariant_of-self c =
    let l = c.args.self.now in
    let s = c.args.s in
    let some = some-coeffs l.col.now l.count l.holds in
    let e : c.match-s.col ≡ given_entry s.coefficient l.col.now (3 * l.count - 2) = elim c.match-s.branch [ in-Some w ↦ rw w.in-Some.is w.col-is | in_default w ↦ rw w.in_default.is w.col-is ] in
    record { holds = (next-laid l.col.now l.count l.holds s c.requires (rw zero-literal (stored l.col.now l.count s (stored_given l.col.now l.count s.coefficient some e)))).1 }

pub returns-clause-becomes : goal.returns-clause-becomes
returns-clause-becomes c =
    let l = c.args.self.now in
    let s = c.args.s in
    let some = some-coeffs l.col.now l.count l.holds in
    let e : c.match-s.col ≡ given_entry s.coefficient l.col.now (3 * l.count - 2) = elim c.match-s.branch [ in-Some w ↦ rw w.in-Some.is w.col-is | in_default w ↦ rw w.in_default.is w.col-is ] in
    record {
      same = refl;
      long = length-set _ _ _ ∙ length-set _ _ _ ∙ length-set _ _ _ ∙ c.match-s.auto.col;
      holds = (next-laid l.col.now l.count l.holds s c.requires (rw zero-literal (stored l.col.now l.count s (stored_given l.col.now l.count s.coefficient some e)))).0;
    }
