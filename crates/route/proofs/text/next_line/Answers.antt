-- `next_line`: with a line end and without.
use Rattle.std.proofs.Common.{arith}
use Rattle.route.proofs.Places.{line-found, line-last}
use Rattle.route.proofs.text.next_line.Goals as goal

pub returns-in-Some : goal.returns-in-Some
returns-in-Some c = (line-found c.args.text.now c.args.at c.rest.result.now c.first_end.result c.rest.ensures c.first_end.ensures c.in-Some.k c.in-Some.is, omega arith)

pub returns-in-None : goal.returns-in-None
returns-in-None c = (line-last c.args.text.now c.args.at c.rest.result.now c.first_end.result c.rest.ensures c.first_end.ensures c.requires c.in-None.is, c.requires)
