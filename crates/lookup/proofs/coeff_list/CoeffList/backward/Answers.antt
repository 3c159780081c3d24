-- `backward`: from j back the search ends where it ends from the hint back.
use mathlib.Core.Path.{◌≡◌, sym, ap, ◌∙◌}
use native.Mathlib.Omega.{arith}
use lib.Ieee as Ieee
use Rattle.lookup.specs.Coeff.{offset_at}
use Rattle.lookup.proofs.SearchSteps.{backward-pass, backward-stop, backward-first}
use Rattle.lookup.proofs.coeff_list.CoeffList.backward.Goals as goal

pub returns-then-not-x-offset_at : goal.returns-then-not-x-offset_at
returns-then-not-x-offset_at c =
    let a = c.args in
    let t = ap (Ieee.lt a.x.0) (sym c.offset_at.ensures) ∙ c.if-not-x-offset_at.true in
    sym (backward-stop (offset_at a.self.now) a.x.0 c.loop-j.j t) ∙ c.loop-j.invariant

pub loop-j-preserved : goal.loop-j-preserved
loop-j-preserved c =
    let a = c.args in
    let t = ap (Ieee.lt a.x.0) (sym c.offset_at.ensures) ∙ c.if-not-x-offset_at.false in
    sym (backward-pass (offset_at a.self.now) a.x.0 c.loop-j.j c.loop-j-test.true t) ∙ c.loop-j.invariant

pub returns : goal.returns
returns c =
    let first : c.loop-j.j ≡ 0 = omega arith in
    cc (backward-first (offset_at c.args.self.now) c.args.x.0 c.loop-j.j (omega arith), first)
