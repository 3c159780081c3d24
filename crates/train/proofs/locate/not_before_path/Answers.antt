-- `not_before_path`: the first link point.
use Rattle.train.proofs.Behind.{not-before}
use Rattle.train.proofs.locate.not_before_path.Goals as goal

pub returns : goal.returns
returns c =
    let a = c.args in
    not-before a.cols.now.offsets.now a.cols.now.numbers.now a.n a.s c.requires c.get-first.ensures
