-- `follow_question`: a path without links, and one with links.
use Rattle.path_extend.proofs.Asked.{follows-none, follows-last}
use Rattle.path_extend.proofs.extend.follow_question.Goals as goal

pub returns-then-n-lt2 : goal.returns-then-n-lt2
returns-then-n-lt2 c =
    let a = c.args in
    follows-none a.network.now.links.now a.cols.now.offsets.now a.cols.now.numbers.now a.n a.list.now c.if-n-lt2.true c.question5.ensures

pub returns : goal.returns
returns c =
    let a = c.args in
    follows-last a.network.now.links.now a.cols.now.offsets.now a.cols.now.numbers.now a.n a.list.now c.if-n-lt2.false c.link_point_at-last.ensures c.question5-2.ensures
