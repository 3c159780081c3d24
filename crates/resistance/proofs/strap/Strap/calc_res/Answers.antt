-- `calc_res`: behind questions 1 and 2.
use mathlib.Core.Path.{◌≡◌, refl, ap, ◌∙◌}
use native.Mathlib.Omega.{arith}
use Rattle.std.proofs.Common.{Err}
use Rattle.std.proofs.lemmas.Grind.{common_steps}
use Rattle.resistance.specs.Strap.{res_told, calc_res_known}
use Rattle.resistance.proofs.ListSteps.{list-told, list-is}
use Rattle.resistance.proofs.StrapSteps.{calc-refused, calc-passed}
use Rattle.resistance.proofs.Told.{no-is, yes-is, not-done}
use Rattle.resistance.proofs.strap.Strap.calc_res.Goals as goal

pub returns-in_err-list : goal.returns-in_err-list
returns-in_err-list c =
    let a = c.args in
    let x = c.in_err-list.field-0.0 in
    let f : c.from_residual.result ≡ Err x = grind (arith, common_steps) in
    ap (res_told a.self) f ∙ calc-refused a.state a.n a.col.now c.state_finite.ensures (no-is (list-told _ a.n a.col.now c.judged.ensures) c.in_err-list.was) a.dir a.self (not-done x)

pub returns : goal.returns
returns c =
    let a = c.args in calc-passed a.state a.n a.col.now c.state_finite.ensures (yes-is (list-told _ a.n a.col.now c.judged.ensures) c.in_ok-list.was) a.dir a.self refl (c.calc_res_known.ensures ∙ ap (calc_res_known a.dir a.self a.state) (list-is _ a.n a.col.now c.judged.ensures c.in_ok-list.was))
