-- `grade_stretch`: four of the six results are asked.
use Rattle.link.specs.Table.{elev_of}
use Rattle.path_stretches.specs.Stretches.{grade_stretch}
use Rattle.path_stretches.proofs.Tested.{grade-tests}
use Rattle.path_stretches.proofs.stretch.grade_stretch.Goals as goal

pub returns : goal.returns
unfolding grade_stretch
returns c =
    let a = c.args in
    rw (c.is_finite.ensures, c.is_finite-2.ensures, c.is_finite-3.ensures, c.is_finite-4.ensures, grade-tests a.base.0 a.net.0 (elev_of a.prior) (elev_of a.current))
