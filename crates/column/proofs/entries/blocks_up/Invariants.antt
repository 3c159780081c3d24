-- `blocks_up`: at each turn the entries past the first k are moved.
use Prim.Native.Nat.{◌+◌, ◌-◌, ◌≤◌}
use mathlib.Core.Path.{◌≡◌}
use lib.ListN.{length}
use Rattle.column.specs.Entries.{moved}
use Rattle.column.proofs.entries.blocks_up.Given as goal

abbrev pub invariant-loop-k : goal.invariant-loop-k
invariant-loop-k g l = (length l.col ≡ length l.initial.col) × (l.k ≤ l.n) × (l.col ≡ moved (l.i + l.k) (l.j + l.k) (l.n - l.k) l.initial.col)

abbrev pub decreases-loop-k : goal.decreases-loop-k
decreases-loop-k g l = l.k
