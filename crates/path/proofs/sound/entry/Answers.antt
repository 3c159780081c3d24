-- `entry`: within the column the entry is the one that is read.
use Rattle.column.proofs.Filling.{get_d-within}
use Rattle.path.proofs.sound.entry.Goals as goal

pub returns : goal.returns
returns c = get_d-within c.args.col.now c.args.i _ _ c.requires
