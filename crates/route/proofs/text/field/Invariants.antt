-- `field`: s is the field reached by so many steps.
use Rattle.std.proofs.Common.{◌≡◌}
use Rattle.route.specs.Text.{field}
use Rattle.route.proofs.text.field.Given as goal

abbrev pub invariant-loop : goal.invariant-loop
invariant-loop l = l.s ≡ field l.text l.at l.counter
