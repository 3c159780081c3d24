-- `walk_stretches`: from the stretch that ends at sample i on, after what the code has, it is where all of them end.
use Prim.Native.Nat.{◌+◌}
use mathlib.Core.Path.{◌≡◌}
use Rattle.link.specs.Table.{sample_at}
use Rattle.path.specs.Sound.{is_curves}
use Rattle.path_stretches.specs.Stretches.{stretch_step, reached}
use Rattle.path_stretches.proofs.StretchSteps.{stretches_at, after}
use Rattle.path_stretches.proofs.walk.walk_stretches.Given as goal

abbrev pub invariant-loop-i : goal.invariant-loop-i
invariant-loop-i l =
    let left = stretches_at (stretch_step (is_curves l.lines) l.train l.base.0) (sample_at l.pool) (l.first + l.count) in
    after l.at.finite (reached l.at.offset.0 l.at.net.0 (left l.at.net.0 l.i)) ≡ reached l.initial.at.offset.0 l.initial.at.net.0 (left l.initial.at.net.0 (l.first + 1))
