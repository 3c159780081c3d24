-- `search_middle`: question 8, and then the search.
use mathlib.Core.Path.{◌≡◌, refl, sym, ap, ◌∙◌}
use native.Mathlib.Omega.{arith}
use Rattle.std.proofs.Common.{Result, Err}
use Rattle.std.proofs.lemmas.Grind.{common_steps}
use Prim.Native.Nat.{ℕ}
use lib.Ieee.{of_bits}
use Rattle.answer.specs.declared.Refusal.{Refusal}
use Rattle.lookup.specs.CalcIdx.{indexed}
use Rattle.resistance.specs.Listed.{searched_of}
use Rattle.resistance.proofs.ListSteps.{search-of}
use Rattle.resistance.proofs.PointSteps.{middle-refused, middle-searched}
use Rattle.resistance.proofs.Told.{ask-no, ask-yes}
use Rattle.resistance.proofs.point.search_middle.Goals as goal

pub returns-in_err-ask : goal.returns-in_err-ask
unfolding of_bits
returns-in_err-ask c =
    let a = c.args in
    let x = c.in_err-ask.field-0.0 in
    let f : c.from_residual.result ≡ Err x = grind (arith, common_steps) in
    let no = ask-no _ c.ask.ensures c.in_err-ask.was in
    ap (λ (r : Result ℕ Refusal). searched_of (indexed r)) (f ∙ ap Err no.1) ∙ middle-refused a.dir a.hint a.state a.list.now (sym c.is_finite.ensures ∙ no.0) refl

pub returns : goal.returns
unfolding of_bits
returns c =
    let a = c.args in
    middle-searched a.dir a.hint a.state a.list.now (sym c.is_finite.ensures ∙ ask-yes _ c.ask.ensures c.in_ok-ask.was) (search-of a.dir _ a.hint a.list.now c.find.ensures)
