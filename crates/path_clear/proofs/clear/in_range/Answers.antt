-- `in_range`: the first and the last link point.
use Rattle.path_clear.proofs.Dropping.{range_at}
use Rattle.path_clear.proofs.clear.in_range.Goals as goal

pub returns : goal.returns
returns c =
    let a = c.args in
    range_at a.x.0 a.cols.now.offsets.now a.cols.now.numbers.now a.n c.requires c.get-first.ensures c.get-last.ensures
