-- `insert_speed`: what the lent column holds afterwards.
use Rattle.std.proofs.Common.{rules}
use Rattle.speed.proofs.PointColumn.{leaves-of}
use Rattle.speed.proofs.insert_speed.insert_speed.Goals as goal

pub invariant_of-points : goal.invariant_of-points
invariant_of-points c = record { holds = c.requires.holds }

pub insert_speed-requires : goal.insert_speed-requires
insert_speed-requires c = record { some = c.requires.n_nonzero; room = c.requires.n_in_bounds }

pub returns : goal.returns
returns c = let left = leaves-of c.insert_speed.new.self _ c.insert_speed.ensures.holds in let same = c.insert_speed.ensures.same in search rules
