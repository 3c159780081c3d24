-- `curve_work`: below one degree per 100 ft, and from there on.
use mathlib.Core.Path.{◌≡◌}
use mathlib.Core.Bool.{true, false}
use lib.Ieee as Ieee
use Rattle.si.specs.Constants.{one_degree_per100ft}
use Rattle.path_stretches.proofs.Curved.{work-gentle, work-sharp}
use Rattle.path_stretches.proofs.stretch.curve_work.Goals as goal

pub returns-then-curvature-one : goal.returns-then-curvature-one
returns-then-curvature-one c =
    let a = c.args in
    let h : Ieee.lt a.curvature.0 one_degree_per100ft ≡ true = rw (← c.one_degree_per_100ft-one.ensures) c.if-curvature-one.true in
    rw (work-gentle a.c0.0 a.c1.0 a.c2.0 a.curvature.0 h)

pub returns : goal.returns
returns c =
    let a = c.args in
    let h : Ieee.lt a.curvature.0 one_degree_per100ft ≡ false = rw (← c.one_degree_per_100ft-one.ensures) c.if-curvature-one.false in
    rw (work-sharp a.c0.0 a.c1.0 a.c2.0 a.curvature.0 h, ← c.one_degree_per_100ft-one.ensures)
