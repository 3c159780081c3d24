-- `digits_of`: the bytes from the index on take d to what all bytes make.
use Rattle.std.proofs.Common.{get_or, sym, refl, ◌∙◌}
use Rattle.std.proofs.lemmas.List.{at_drop_all}
use Rattle.decimal.specs.Decimal.{digits_from}
use Rattle.decimal.proofs.DigitSteps.{small_start, step-small}
use Rattle.decimal.proofs.Texts.{carried-next, carried-none, digits-carried}
use Rattle.decimal.proofs.decimal.digits_of.Goals as goal

pub loop-b-init : goal.loop-b-init
loop-b-init c = (refl, small_start)

pub loop-b-preserved : goal.loop-b-preserved
loop-b-preserved c =
    let e = sym c.step.ensures ∙ c.in_ok-d.was in
    (carried-next digits-carried _ _ _ c.loop-b-test.true _ e ∙ c.loop-b.invariant.0, rw e at (step-small c.loop-b.d (get_or c.args.text.now c.loop-b.b-index 0) c.loop-b.invariant.1))

pub returns-in_err-d : goal.returns-in_err-d
returns-in_err-d c = rw c.from_residual.ensures (carried-none digits-carried _ _ _ c.loop-b-test.true (sym c.step.ensures ∙ c.in_err-d.was) ∙ c.loop-b.invariant.0)

pub returns : goal.returns
unfolding digits_from
returns c = sym (at_drop_all (digits_from c.loop-b.d) _ _ c.loop-b-test.false) ∙ c.loop-b.invariant.0
