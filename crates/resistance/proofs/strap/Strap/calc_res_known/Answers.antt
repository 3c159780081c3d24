-- `calc_res_known`: the searches, then question 8.
use mathlib.Core.Path.{◌≡◌, refl, sym, ap, ◌∙◌}
use native.Mathlib.Omega.{arith}
use Rattle.std.proofs.Common.{Err}
use Rattle.std.proofs.lemmas.Grind.{common_steps}
use Rattle.resistance.specs.Strap.{moved_told, res_told}
use Rattle.resistance.proofs.StrapSteps.{res-refused, moved-below, res-8, res-found}
use Rattle.resistance.proofs.Told.{ask-no, ask-yes, not-done}
use Rattle.resistance.proofs.strap.Strap.calc_res_known.Goals as goal

pub returns-in_err-m : goal.returns-in_err-m
returns-in_err-m c =
    let a = c.args in
    let x = c.in_err-m.field-0.0 in
    let f : c.from_residual.result ≡ Err x = grind (arith, common_steps) in
    ap (res_told a.self) f ∙ res-refused a.dir a.self a.state a.list.now (ap (moved_told a.self) (sym c.in_err-m.was) ∙ c.moved_by.ensures) (not-done x)

pub calc_res_strap-coeff-requires-clause-idx_front_bound : goal.calc_res_strap-coeff-requires-clause-idx_front_bound
calc_res_strap-coeff-requires-clause-idx_front_bound c =
    let a = c.args in (moved-below a.dir a.self a.state a.list.now (ap (moved_told a.self) (sym c.in_ok-m.was) ∙ c.moved_by.ensures) refl).0

pub calc_res_strap-coeff-requires-clause-idx_back_bound : goal.calc_res_strap-coeff-requires-clause-idx_back_bound
calc_res_strap-coeff-requires-clause-idx_back_bound c =
    let a = c.args in (moved-below a.dir a.self a.state a.list.now (ap (moved_told a.self) (sym c.in_ok-m.was) ∙ c.moved_by.ensures) refl).1

pub returns-in_err-ask : goal.returns-in_err-ask
returns-in_err-ask c =
    let a = c.args in
    let x = c.in_err-ask.field-0.0 in
    let f : c.from_residual-in_err-ask.result ≡ Err x = grind (arith, common_steps) in
    let no = ask-no _ c.ask.ensures c.in_err-ask.was in
    ap (res_told a.self) (f ∙ ap Err no.1) ∙ res-8 a.dir a.self a.state a.list.now (ap (moved_told a.self) (sym c.in_ok-m.was) ∙ c.moved_by.ensures) refl c.calc_res_strap-coeff.ensures (sym c.is_finite.ensures ∙ no.0) refl

pub returns : goal.returns
returns c =
    let a = c.args in res-found a.dir a.self a.state a.list.now (ap (moved_told a.self) (sym c.in_ok-m.was) ∙ c.moved_by.ensures) refl c.calc_res_strap-coeff.ensures (sym c.is_finite.ensures ∙ ask-yes _ c.ask.ensures c.in_ok-ask.was)
