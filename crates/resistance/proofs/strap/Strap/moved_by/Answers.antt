-- `moved_by`: by the direction.
use mathlib.Core.Path.{◌≡◌, sym, ap, ◌∙◌}
use native.Mathlib.Omega.{arith}
use Rattle.std.proofs.Common.{Ok, Err}
use Rattle.std.proofs.lemmas.Grind.{common_steps}
use Rattle.resistance.specs.declared.strap.Ends.{Ends}
use Rattle.resistance.specs.Strap.{strap_of, moved_told, turned, moved}
use Rattle.resistance.proofs.strap.Strap.moved_by.Goals as goal

pub returns-in-Fwd : goal.returns-in-Fwd
unfolding moved
returns-in-Fwd c =
    rw c.in-Fwd.is c.moved_ends.ensures

pub returns-in-Unk : goal.returns-in-Unk
unfolding moved
returns-in-Unk c =
    rw c.in-Unk.is c.moved_ends-in-Unk.ensures

pub returns-in_err-m-in-Bwd : goal.returns-in_err-m-in-Bwd
unfolding moved
returns-in_err-m-in-Bwd c =
    let a = c.args in
    let x = c.in_err-m-in-Bwd.field-0.0 in
    let f : c.from_residual.result ≡ Err x = grind (arith, common_steps) in
    let ends = ap (moved_told (strap_of a.self.idx_back a.self.idx_front)) (sym c.in_err-m-in-Bwd.was) ∙ c.moved_ends-in-Bwd.ensures in
    rw c.in-Bwd.is (ap (moved_told a.self) f ∙ ap turned ends)

pub returns-in_ok-m-in-Bwd : goal.returns-in_ok-m-in-Bwd
unfolding moved
returns-in_ok-m-in-Bwd c =
    let a = c.args in
    let ends = ap (moved_told (strap_of a.self.idx_back a.self.idx_front)) (sym c.in_ok-m-in-Bwd.was) ∙ c.moved_ends-in-Bwd.ensures in
    rw c.in-Bwd.is (ap (λ (m : Ends). moved_told a.self (Ok m)) c.at.ensures ∙ ap turned ends)
