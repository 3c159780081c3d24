-- `link_point_at`: the offset and the four numbers as they are read.
use Rattle.path.proofs.link_point.link_point_at.Goals as goal

pub returns : goal.returns
returns c = rw (c.record_at-q.ensures, c.get.ensures)
