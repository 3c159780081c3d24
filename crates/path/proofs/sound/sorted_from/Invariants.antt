-- `sorted_from`: the answer for the speed points before i, and that for those from i on, are the answer.
use Prim.Native.Nat.{◌≤◌, ◌<◌}
use mathlib.Core.Path.{◌≡◌}
use Rattle.path.proofs.Ordered.{sorted}
use Rattle.path.proofs.sound.sorted_from.Given as goal

abbrev pub invariant-loop-i : goal.invariant-loop-i
invariant-loop-i l = (0 < l.i) × (l.i ≤ l.n) × (sorted l.speeds l.n l.initial.ok l.initial.i ≡ sorted l.speeds l.n l.ok l.i)
