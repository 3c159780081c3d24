-- `offsets_rise`: the answer for the link points before i, and that for those from i on, are the answer.
use Prim.Native.Nat.{◌≤◌, ◌<◌}
use mathlib.Core.Path.{◌≡◌}
use Rattle.path.specs.Records.{link_points}
use Rattle.path.specs.Sound.{offsets_rise}
use Rattle.path.proofs.Ordered.{risen}
use Rattle.path.proofs.sound.offsets_rise.Given as goal

abbrev pub invariant-loop-i : goal.invariant-loop-i
invariant-loop-i l = (0 < l.i) × (l.i ≤ l.n) × (offsets_rise (link_points l.n l.offsets l.numbers) ≡ risen l.offsets l.numbers l.n l.ok l.i)
