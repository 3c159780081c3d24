-- `calc_res_known`: the search, then question 8.
use mathlib.Core.Path.{◌≡◌, refl, sym, ap, ◌∙◌}
use native.Mathlib.Omega.{arith}
use Rattle.std.proofs.Common.{Err}
use Rattle.std.proofs.lemmas.Grind.{common_steps}
use Rattle.resistance.specs.Point.{res_told}
use Rattle.resistance.proofs.PointSteps.{res-refused, res-below, res-8, res-found}
use Rattle.resistance.proofs.Told.{search-no, search-yes, ask-no, ask-yes, not-done}
use Rattle.resistance.proofs.point.Point.calc_res_known.Goals as goal

pub returns-in_err-idx : goal.returns-in_err-idx
returns-in_err-idx c =
    let a = c.args in
    let x = c.in_err-idx.field-0.0 in
    let f : c.from_residual.result ≡ Err x = grind (arith, common_steps) in
    ap (res_told a.self) f ∙ res-refused a.dir a.self a.state a.list.now (search-no c.search_middle.ensures c.in_err-idx.was) (not-done x)

pub at-requires : goal.at-requires
at-requires c =
    let a = c.args in res-below a.dir a.self a.state a.list.now (search-yes c.search_middle.ensures c.in_ok-idx.was) refl

pub returns-in_err-ask : goal.returns-in_err-ask
returns-in_err-ask c =
    let a = c.args in
    let x = c.in_err-ask.field-0.0 in
    let f : c.from_residual-in_err-ask.result ≡ Err x = grind (arith, common_steps) in
    let no = ask-no _ c.ask.ensures c.in_err-ask.was in
    ap (res_told a.self) (f ∙ ap Err no.1) ∙ res-8 a.dir a.self a.state a.list.now (search-yes c.search_middle.ensures c.in_ok-idx.was) refl c.at.ensures (sym c.is_finite.ensures ∙ no.0) refl

pub returns : goal.returns
returns c =
    let a = c.args in res-found a.dir a.self a.state a.list.now (search-yes c.search_middle.ensures c.in_ok-idx.was) refl c.at.ensures (sym c.is_finite.ensures ∙ ask-yes _ c.ask.ensures c.in_ok-ask.was)
