-- `len`: a list of the first `count` records has so many.
use Rattle.lookup.proofs.Coeffs.{count-of}
use Rattle.lookup.proofs.coeff_list.CoeffList.len.Goals as goal

pub returns-clause-are : goal.returns-clause-are
returns-clause-are c = count-of c.self.inside.count c.self.inside.col.now c.args.self.now c.self.view_is
