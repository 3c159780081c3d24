-- `walk`: from each position on the walk ends where the whole walk ends.
use Prim.Native.Nat.{◌-◌}
use Rattle.resistance.specs.Walk.{walk_of}
use Rattle.resistance.proofs.WalkSteps.{Walking}
use Rattle.resistance.proofs.walk.walk.Given as goal

abbrev pub invariant-positions : goal.invariant-positions
invariant-positions l = Walking l.dir l.step.0 l.fn.strap l.n l.col (walk_of l.dir l.step.0 l.count l.fn.strap l.fn.state l.n l.col) (l.count - l.k) l.t l.s
