-- `at`: three entries are a record.
use mathlib.Core.Path.{ap, ◌∙◌}
use mathlib.Core.List.{List}
use native.Mathlib.Omega.{arith}
use Rattle.lookup.specs.declared.path_res_coeff.PathResCoeff.{PathResCoeff}
use Rattle.lookup.specs.Coeff.{coeff_at}
use Rattle.lookup.proofs.Coeffs.{count-of, coeff-entries}
use Rattle.lookup.proofs.coeff_list.CoeffList.at.Goals as goal

pub overflow_mul-k : goal.overflow_mul-k
overflow_mul-k c =
    let l = c.self.inside in
    omega (arith, c.self.invariant.1, count-of l.count l.col.now c.args.self.now c.self.view_is)

pub offset_bounds-col-k : goal.offset_bounds-col-k
offset_bounds-col-k c =
    let l = c.self.inside in
    omega (arith, c.self.invariant.1, count-of l.count l.col.now c.args.self.now c.self.view_is)

pub bounds-col-k : goal.bounds-col-k
bounds-col-k c =
    let l = c.self.inside in
    omega (arith, c.self.invariant.1, count-of l.count l.col.now c.args.self.now c.self.view_is)

pub overflow_add-k : goal.overflow_add-k
overflow_add-k c =
    let l = c.self.inside in
    omega (arith, c.self.invariant.1, count-of l.count l.col.now c.args.self.now c.self.view_is)

pub offset_bounds-col-k-2 : goal.offset_bounds-col-k-2
offset_bounds-col-k-2 c =
    let l = c.self.inside in
    omega (arith, c.self.invariant.1, count-of l.count l.col.now c.args.self.now c.self.view_is)

pub bounds-col-k-2 : goal.bounds-col-k-2
bounds-col-k-2 c =
    let l = c.self.inside in
    omega (arith, c.self.invariant.1, count-of l.count l.col.now c.args.self.now c.self.view_is)

pub overflow_add-k-2 : goal.overflow_add-k-2
overflow_add-k-2 c =
    let l = c.self.inside in
    omega (arith, c.self.invariant.1, count-of l.count l.col.now c.args.self.now c.self.view_is)

pub offset_bounds-col-k-3 : goal.offset_bounds-col-k-3
offset_bounds-col-k-3 c =
    let l = c.self.inside in
    omega (arith, c.self.invariant.1, count-of l.count l.col.now c.args.self.now c.self.view_is)

pub bounds-col-k-3 : goal.bounds-col-k-3
bounds-col-k-3 c =
    let l = c.self.inside in
    omega (arith, c.self.invariant.1, count-of l.count l.col.now c.args.self.now c.self.view_is)

pub returns : goal.returns
returns c =
    let l = c.self.inside in
    let n = count-of l.count l.col.now c.args.self.now c.self.view_is in
    c.from.ensures ∙ coeff-entries l.count l.col.now c.args.i (omega arith) c.self.invariant.1 ∙ ap (λ (rs : List PathResCoeff). coeff_at rs c.args.i) c.self.view_is
