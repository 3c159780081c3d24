-- `curvature_of`: half a turn is added before the remainder and taken off after it.
use Rattle.path_stretches.specs.Stretches.{bend_of}
use Rattle.path_stretches.proofs.stretch.curvature_of.Goals as goal

pub returns : goal.returns
unfolding bend_of
returns c = rw (c.size.ensures, c.half_rev-2.ensures, c.remainder-rest.ensures, c.half_rev.ensures)
