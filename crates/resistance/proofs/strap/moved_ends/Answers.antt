-- `moved_ends`: one end, and then the other unless it is there already.
use mathlib.Core.Path.{◌≡◌, refl, ap, ◌∙◌}
use native.Mathlib.Omega.{arith}
use Rattle.std.proofs.Common.{Ok, Err}
use Rattle.std.proofs.lemmas.Grind.{common_steps}
use Rattle.resistance.specs.declared.strap.Ends.{Ends}
use Rattle.resistance.specs.Strap.{strap_of, moved_told}
use Rattle.resistance.proofs.ListSteps.{search-of}
use Rattle.resistance.proofs.StrapSteps.{first-refused, first-serves, second-refused, second-found}
use Rattle.resistance.proofs.Told.{search-no, search-yes, not-done}
use Rattle.resistance.proofs.strap.moved_ends.Goals as goal

pub returns-in_err-first : goal.returns-in_err-first
returns-in_err-first c =
    let a = c.args in
    let x = c.in_err-first.field-0.0 in
    let f : c.from_residual.result ≡ Err x = grind (arith, common_steps) in
    ap (moved_told (strap_of a.i a.k)) f ∙ first-refused a.dir a.both a.x.0 a.i a.y.0 a.k a.list.now (search-no (search-of a.dir a.x.0 a.i a.list.now c.find.ensures) c.in_err-first.was) (not-done x) refl

pub returns-then-both-first : goal.returns-then-both-first
returns-then-both-first c =
    let a = c.args in
    let told = ap (λ (m : Ends). moved_told (strap_of a.i a.k) (Ok m)) c.at.ensures in
    first-serves a.dir a.both a.x.0 a.i a.y.0 a.k a.list.now (search-yes (search-of a.dir a.x.0 a.i a.list.now c.find.ensures) c.in_ok-first.was) refl c.if-both-first.true told

pub returns-in_err-second : goal.returns-in_err-second
returns-in_err-second c =
    let a = c.args in
    let x = c.in_err-second.field-0.0 in
    let f : c.from_residual-in_err-second.result ≡ Err x = grind (arith, common_steps) in
    ap (moved_told (strap_of a.i a.k)) f ∙ second-refused a.dir a.both a.x.0 a.i a.y.0 a.k a.list.now (search-yes (search-of a.dir a.x.0 a.i a.list.now c.find.ensures) c.in_ok-first.was) refl c.if-both-first.false (search-no (search-of a.dir a.y.0 a.k a.list.now c.find-2.ensures) c.in_err-second.was) (not-done x) refl

pub returns : goal.returns
returns c =
    let a = c.args in
    let told = ap (λ (m : Ends). moved_told (strap_of a.i a.k) (Ok m)) c.at-2.ensures in
    second-found a.dir a.both a.x.0 a.i a.y.0 a.k a.list.now (search-yes (search-of a.dir a.x.0 a.i a.list.now c.find.ensures) c.in_ok-first.was) refl c.if-both-first.false (search-yes (search-of a.dir a.y.0 a.k a.list.now c.find-2.ensures) c.in_ok-second.was) refl told
