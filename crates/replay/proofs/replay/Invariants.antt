-- `replay`: one call a turn.
use Rattle.std.proofs.Common.{length}
use Rattle.replay.proofs.replay.Given as goal

abbrev pub invariant-loop-rest : goal.invariant-loop-rest
invariant-loop-rest l = Unit {0}

abbrev pub decreases-loop-rest : goal.decreases-loop-rest
decreases-loop-rest l = length l.rest
