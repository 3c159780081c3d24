-- `last`: the record before the count.
use Prim.Native.Nat.{ℕ, ◌-◌}
use native.Mathlib.Omega.{arith}
use mathlib.Core.Path.{sym, ap, ap₂, ◌∙◌}
use mathlib.Core.List.{List}
use lib.ListN.{length}
use Rattle.lookup.specs.declared.path_res_coeff.PathResCoeff.{PathResCoeff}
use Rattle.lookup.specs.Coeff.{coeff_at}
use Rattle.lookup.proofs.Coeffs.{length-coeffs}
use Rattle.path_stretches.proofs.StretchesLaid.{some-coeffs, fits-coeffs}
use Rattle.path_stretches.proofs.coeff_column.CoeffColumn.last.Goals as goal

pub new-requires-clause-some : goal.new-requires-clause-some
new-requires-clause-some c = let l = c.args.self.now in some-coeffs l.col.now l.count l.holds

pub new-requires-clause-in_column : goal.new-requires-clause-in_column
new-requires-clause-in_column c = let l = c.args.self.now in fits-coeffs l.col.now l.count l.holds

pub overflow_sub-self : goal.overflow_sub-self
overflow_sub-self c = let l = c.args.self.now in some-coeffs l.col.now l.count l.holds

pub at-requires : goal.at-requires
at-requires c =
    let l = c.args.self.now in
    omega (arith, some-coeffs l.col.now l.count l.holds, ap length c.new.ensures, length-coeffs l.count l.col.now)

pub returns : goal.returns
returns c =
    let l = c.args.self.now in
    c.at.ensures ∙ ap₂ (λ (rs : List PathResCoeff) (n : ℕ). coeff_at rs (n - 1)) c.new.ensures (sym (length-coeffs l.count l.col.now))
