-- `put`: the record, where there is room for it.
use Rattle.std.proofs.Common.{[], ◌∷◌}
use Rattle.view.proofs.Laid.{take-put, take-full}
use Rattle.view.proofs.history.put.Goals as goal

pub returns-then-n-all-clause-laid : goal.returns-then-n-all-clause-laid
returns-then-n-all-clause-laid g c = take-put c.args.all.now c.args.n c.args.one c.if-n-all.true

pub returns-clause-laid : goal.returns-clause-laid
returns-clause-laid g c = take-full c.args.all.now c.args.n (c.args.one ∷ []) c.if-n-all.false
