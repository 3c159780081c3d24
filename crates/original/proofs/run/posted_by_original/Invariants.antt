-- `posted_by_original`: from point i on the speed is what it was from the first on.
use Prim.Native.Nat.{◌≤◌}
use mathlib.Core.Path.{◌≡◌}
use lib.ListN.{drop}
use Rattle.ieee.specs.Number.{+0}
use Rattle.speed.specs.Column.{points}
use Rattle.speed.specs.Posted.{posted}
use Rattle.original.proofs.run.posted_by_original.Given as goal

abbrev pub invariant-loop-i : goal.invariant-loop-i
invariant-loop-i l = (l.i ≤ l.n) × (posted l.x.0 (drop l.i (points l.n l.col)) l.v.0 ≡ posted l.x.0 (points l.n l.col) +0)
