-- `lesser`: the test of `smaller`.
use Rattle.ieee.specs.Speed.{smaller}
use Rattle.speed.proofs.speed_limit.lesser.Goals as goal

pub returns-then-b-a : goal.returns-then-b-a
unfolding smaller
returns-then-b-a c = rw c.if-b-a.true

pub returns-else-b-a : goal.returns-else-b-a
unfolding smaller
returns-else-b-a c = rw c.if-b-a.false
