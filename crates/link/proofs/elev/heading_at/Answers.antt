-- `heading_at`: the two entries under their names.
use Rattle.link.proofs.elev.heading_at.Goals as goal

pub returns : goal.returns
returns c = rw c.sample_at-t.ensures
