-- `res_coeff`: question by question, and then the coefficient.
use mathlib.Core.Path.{◌≡◌, ap, ◌∙◌}
use native.Mathlib.Omega.{arith}
use Rattle.std.proofs.Common.{Err}
use Rattle.std.proofs.lemmas.Grind.{common_steps}
use Rattle.std.proofs.lemmas.Bool.Decides.{nat_tests}
use Rattle.path.specs.Answers.{in_turn}
use Rattle.resistance.specs.Listed.{coeff_told, res_coeff_of}
use Rattle.resistance.proofs.ListSteps.{list-told, list-is, list-long, coeff-refused}
use Rattle.resistance.proofs.Told.{no-is, yes-is, not-done}
use Rattle.resistance.proofs.listed.res_coeff.Goals as goal

pub returns-in_err-list : goal.returns-in_err-list
returns-in_err-list c =
    let a = c.args in
    let x = c.in_err-list.field-0.0 in
    let f : c.from_residual.result ≡ Err x = grind (arith, common_steps) in
    ap (coeff_told) f ∙ coeff-refused a.idx a.n a.col.now (no-is (list-told _ a.n a.col.now c.judged.ensures) c.in_err-list.was) (not-done x)

pub returns-in_err-ask : goal.returns-in_err-ask
unfolding res_coeff_of in_turn
returns-in_err-ask c =
    let a = c.args in
    let e = yes-is (list-told _ a.n a.col.now c.judged.ensures) c.in_ok-list.was in
    let rs = list-is _ a.n a.col.now c.judged.ensures c.in_ok-list.was in
    let n = list-long _ a.n a.col.now c.judged.ensures c.in_ok-list.was in
    grind (arith, nat_tests, common_steps)

pub returns : goal.returns
unfolding res_coeff_of in_turn
returns c =
    let a = c.args in
    let e = yes-is (list-told _ a.n a.col.now c.judged.ensures) c.in_ok-list.was in
    let rs = list-is _ a.n a.col.now c.judged.ensures c.in_ok-list.was in
    let n = list-long _ a.n a.col.now c.judged.ensures c.in_ok-list.was in
    grind (arith, nat_tests, common_steps)
