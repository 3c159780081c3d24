-- `offset_at`: the first entry of a record.
use mathlib.Core.Path.{ap, ◌∙◌}
use mathlib.Core.List.{List}
use native.Mathlib.Omega.{arith}
use Rattle.lookup.specs.declared.path_res_coeff.PathResCoeff.{PathResCoeff}
use Rattle.lookup.specs.Coeff.{offset_at}
use Rattle.lookup.proofs.Coeffs.{count-of, offset-entry}
use Rattle.lookup.proofs.coeff_list.CoeffList.offset_at.Goals as goal

pub overflow_mul-result : goal.overflow_mul-result
overflow_mul-result c =
    let l = c.self.inside in
    omega (arith, c.self.invariant.1, count-of l.count l.col.now c.args.self.now c.self.view_is)

pub offset_bounds-col-i : goal.offset_bounds-col-i
offset_bounds-col-i c =
    let l = c.self.inside in
    omega (arith, c.self.invariant.1, count-of l.count l.col.now c.args.self.now c.self.view_is)

pub bounds-col-i : goal.bounds-col-i
bounds-col-i c =
    let l = c.self.inside in
    omega (arith, c.self.invariant.1, count-of l.count l.col.now c.args.self.now c.self.view_is)

pub returns : goal.returns
returns c =
    let l = c.self.inside in
    let n = count-of l.count l.col.now c.args.self.now c.self.view_is in
    offset-entry l.count l.col.now c.args.i (omega arith) c.self.invariant.1 ∙ ap (λ (rs : List PathResCoeff). offset_at rs c.args.i) c.self.view_is
