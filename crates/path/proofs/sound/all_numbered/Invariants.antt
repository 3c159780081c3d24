-- `all_numbered`: the answer for the link points before i, and that for those from i on, are the answer.
use Prim.Native.Nat.{◌≤◌}
use mathlib.Core.Path.{◌≡◌}
use mathlib.Core.Bool.{◌&&◌}
use Rattle.path.specs.Records.{link_points}
use Rattle.path.specs.Sound.{all_numbered}
use Rattle.path.proofs.LinkPoints.{links_from}
use Rattle.path.proofs.sound.all_numbered.Given as goal

abbrev pub invariant-loop-i : goal.invariant-loop-i
invariant-loop-i l = (l.i ≤ l.n) × (all_numbered (link_points l.n l.offsets l.numbers) ≡ (l.ok && all_numbered (links_from l.offsets l.numbers l.n l.i)))
