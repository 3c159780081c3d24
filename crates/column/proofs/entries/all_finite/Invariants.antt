-- `all_finite`: after so many turns the answer is that for so many entries.
use mathlib.Core.Path.{◌≡◌}
use lib.ListN.{take}
use Rattle.ieee.specs.Number.{all_finite}
use Rattle.column.proofs.entries.all_finite.Given as goal

abbrev pub invariant-loop-x : goal.invariant-loop-x
invariant-loop-x l = l.ok ≡ all_finite (take l.x-index l.x-items)
