-- `new_known`: the search, and its index as a point.
use mathlib.Core.Path.{◌≡◌, ap, ◌∙◌}
use native.Mathlib.Omega.{arith}
use Rattle.std.proofs.Common.{Err}
use Rattle.std.proofs.lemmas.Grind.{common_steps}
use Rattle.resistance.specs.declared.listed.Searched.{Searched}
use Rattle.resistance.specs.Point.{point_of, point_told, new_known}
use Rattle.resistance.proofs.Told.{search-no, search-yes}
use Rattle.resistance.proofs.point.Point.new_known.Goals as goal

pub returns-in_err-idx : goal.returns-in_err-idx
unfolding new_known
returns-in_err-idx c =
    let a = c.args in
    let x = c.in_err-idx.field-0.0 in
    let f : c.from_residual.result ≡ Err x = grind (arith, common_steps) in
    ap (point_told (point_of 0)) f ∙ ap (λ (r : Searched). record { answer = r.answer; point = point_of r.idx }) (search-no c.search_middle.ensures c.in_err-idx.was)

pub returns : goal.returns
unfolding new_known
returns c =
    ap (λ (r : Searched). record { answer = r.answer; point = point_of r.idx }) (search-yes c.search_middle.ensures c.in_ok-idx.was)
