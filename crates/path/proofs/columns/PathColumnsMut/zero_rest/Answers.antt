-- `zero_rest`: the seven columns, one after the other.
use Rattle.path.specs.Records.{held}
use Rattle.path.proofs.PastCounts.{zeroed}
use Rattle.path.proofs.columns.PathColumnsMut.zero_rest.Goals as goal

pub returns-clause-columns : goal.returns-clause-columns
returns-clause-columns c =
    zeroed c.args.p (held c.args.self.now) c.requires c.zero_from.ensures c.zero_from-2.ensures c.zero_from-3.ensures c.zero_from-4.ensures c.zero_from-5.ensures c.zero_from-6.ensures c.zero_from-7.ensures
