-- A curve: the resistance on the two sides of one degree per 100 ft, and the stretch by what its callees give.
use mathlib.Core.Path.{◌≡◌, ap, ◌∙◌}
use mathlib.Core.Bool.{true, false, ◌&&◌}
use lib.Ieee as Ieee
use lib.Ieee.{Float}
use lib.Ieee.Scale.{finite}
use Rattle.ieee.specs.Number.{◌⊕◌, ◌⊖◌, ◌⊗◌, ◌⊘◌}
use Rattle.si.specs.declared.Ratio.{Ratio}
use Rattle.si.specs.Constants.{one_degree_per100ft}
use Rattle.link.specs.declared.train_params.TrainParams.{TrainParams}
use Rattle.link.specs.Train.{curve0, curve1, curve2}
use Rattle.link.specs.Table.{Sample}
use Rattle.path_stretches.specs.declared.stretch.Stretch.{Stretch}
use Rattle.path_stretches.specs.Stretches.{stretch_of, radpm, gentle, sharp, curve_work, curvature_of, curve_stretch}
use Rattle.path_stretches.proofs.Tested.{curve-tests}

module _ (c0 c1 c2 curvature : Float) where
  pub work-gentle : Ieee.lt curvature one_degree_per100ft ≡ true → (curve_work c0 c1 c2 curvature).value ≡ (gentle c0 curvature).value
  unfolding curve_work
  work-gentle h = rw h

  pub work-sharp : Ieee.lt curvature one_degree_per100ft ≡ false → (curve_work c0 c1 c2 curvature).value ≡ (sharp c0 c1 c2 curvature).value
  unfolding curve_work
  work-sharp h = rw h

-- the stretch by the resistance; its two tests stand for those of all results
module _ (base net run offset : Float) where
  abbrev curve_by : Ratio → Stretch
  curve_by work =
      let coefficient = work.0 ⊘ radpm in
      let rise = coefficient ⊗ run in
      stretch_of coefficient (base ⊕ offset) (net ⊕ rise) (finite (net ⊕ rise) && finite (base ⊕ offset))

pub curve-by :
    (train : TrainParams) (base net : Float) (prior current : Sample) {k : Float} {work : Ratio}
    → k ≡ curvature_of (current.value ⊖ prior.value) (current.offset ⊖ prior.offset)
    → work ≡ (curve_work (curve0 train) (curve1 train) (curve2 train) k).value
    → curve_by base net (current.offset ⊖ prior.offset) current.offset work ≡ curve_stretch train base net prior current
unfolding curve_stretch
curve-by train base net prior current e f =
    let run = current.offset ⊖ prior.offset in
    let value = (curve_work (curve0 train) (curve1 train) (curve2 train) (curvature_of (current.value ⊖ prior.value) run)).value in
    ap (curve_by base net run current.offset) (f ∙ ap (λ (k : Float). (curve_work (curve0 train) (curve1 train) (curve2 train) k).value) e)
    ∙ ap (stretch_of (value.0 ⊘ radpm) (base ⊕ current.offset) (curve_stretch train base net prior current).net.0) (curve-tests train base net prior current)
