-- `tail_of`: by the flag.
use borrow.Author.Tests.{eq-eqb, ne_eqb}
use Rattle.ieee.proofs.Same.{zero-literal}
use Rattle.path_speeds.proofs.limits.tail_of.Goals as goal

pub returns-then-s-eq1 : goal.returns-then-s-eq1
returns-then-s-eq1 c = rw (eq-eqb _ _ c.if-s-eq1.true) zero-literal

pub returns : goal.returns
returns c = rw (ne_eqb _ _ c.if-s-eq1.false)
