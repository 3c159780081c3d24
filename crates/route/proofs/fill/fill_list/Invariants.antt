-- `fill_list`: one number a turn; the column so far with what is still to come is the column filled.
use mathlib.Core.Path.{◌≡◌}
use Rattle.route.specs.Filled.{listed, list_length}
use Rattle.route.proofs.Filled.{whole, count}
use Rattle.route.proofs.fill.fill_list.Given as goal

abbrev pub invariant-loop-i : goal.invariant-loop-i
invariant-loop-i l = (whole l.text l.at l.col l.i ≡ listed l.text l.at 0 l.initial.col) × (count l.text l.at l.col l.i ≡ list_length l.text l.at 0 l.initial.col)
