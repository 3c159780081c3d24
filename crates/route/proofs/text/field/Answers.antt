-- `field`: s is the field reached by so many steps.
use Rattle.std.proofs.Common.{◌≡◌, ap, ◌∙◌, arith}
use Rattle.route.specs.Text.{field}
use Rattle.route.proofs.Places.{field_next}
use Rattle.route.proofs.text.field.Goals as goal

pub loop-init : goal.loop-init
unfolding field
loop-init c = c.field_from-s.ensures

pub loop-preserved : goal.loop-preserved
loop-preserved c = field_next c.args.text.now c.args.at c.loop.counter c.loop.s c.field_from-s-in-loop.result c.loop.invariant c.field_from-s-in-loop.ensures

pub returns : goal.returns
returns c =
    let e : c.loop.counter ≡ c.args.k = omega arith in
    c.loop.invariant ∙ ap (field c.args.text.now c.args.at) e
