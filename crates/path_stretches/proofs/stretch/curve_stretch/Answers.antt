-- `curve_stretch`: the curvature, the resistance, and the two results that are asked.
use Rattle.link.specs.Table.{heading_of}
use Rattle.path_stretches.proofs.Curved.{curve-by}
use Rattle.path_stretches.proofs.stretch.curve_stretch.Goals as goal

pub returns : goal.returns
returns c =
    let a = c.args in
    rw (c.is_finite.ensures, c.is_finite-2.ensures)
    (curve-by a.train a.base.0 a.net.0 (heading_of a.prior) (heading_of a.current) c.curvature_of.ensures c.curve_work-work.ensures)
