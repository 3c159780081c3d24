-- `join_limits`: what the lent column holds afterwards.
use Rattle.std.proofs.Common.{rules}
use Rattle.speed.proofs.PointColumn.{leaves-of}
use Rattle.path_extend.proofs.extend.join_limits.Goals as goal

pub invariant_of-laid : goal.invariant_of-laid
invariant_of-laid c = record { holds = c.requires.holds }

pub lay_links-requires : goal.lay_links-requires
lay_links-requires c = record { some = c.requires.n_nonzero; count_bound = c.requires.count_bound; count_value = c.requires.count_value; room = c.requires.room }

pub returns : goal.returns
returns c = let left = leaves-of c.lay_links.new.speeds _ c.lay_links.ensures.holds in let same = c.lay_links.ensures.same in search rules
