-- `lay_stretches`: with the stretches that are left laid on the records so far, they are the records with all of them.
use Prim.Native.Nat.{◌+◌, ◌-◌}
use mathlib.Core.Path.{◌≡◌}
use Rattle.link.specs.Table.{sample_at}
use Rattle.path.specs.Sound.{is_curves}
use Rattle.path_stretches.specs.Stretches.{stretch_step, lay_stretches}
use Rattle.path_stretches.specs.Becomes.{coeffs_of, Becomes}
use Rattle.path_stretches.proofs.StretchSteps.{stretches_at}
use Rattle.path_stretches.proofs.coeff_column.CoeffColumn.lay_stretches.Given as goal

abbrev pub invariant-loop-i : goal.invariant-loop-i
invariant-loop-i l =
    let left = stretches_at (stretch_step (is_curves l.lines) l.train l.base.0) (sample_at l.pool) (l.first + l.count) in
    (l.self.count + (l.first + l.count - l.i) ≡ l.initial.self.count + (l.count - 1))
    × Becomes l.initial.self l.self (coeffs_of l.self)
    × (lay_stretches (coeffs_of l.self) (left l.net.0 l.i) ≡ lay_stretches (coeffs_of l.initial.self) (left l.initial.net.0 l.initial.i))
