-- Where the records of a link end: the offset that its stretches come to.
use mathlib.Core.Path.{◌≡◌, refl}
use mathlib.Core.Bool.{Bool, true, false}
use mathlib.Core.List.{List, [], ◌∷◌}
use lib.Ieee.{Float}
use Rattle.ieee.specs.Number.{◌⊕◌}
use Rattle.link.specs.declared.train_params.TrainParams.{TrainParams}
use Rattle.link.specs.Table.{Sample}
use Rattle.path_stretches.specs.Stretches.{grade_stretch, curve_stretch, stretch_step, stretches_from, stretches, offset_after}
use Rattle.path_join.specs.Listed.{last_offset, end_from}

step_end : (curves : Bool) (train : TrainParams) (base net : Float) (prior current : Sample) → (stretch_step curves train base net prior current).offset.0 ≡ base ⊕ current.offset
unfolding grade_stretch curve_stretch
step_end true train base net prior current = refl
step_end false train base net prior current = refl

module _ (curves : Bool) (train : TrainParams) (base : Float) where
  from_end : (o net : Float) (prior : Sample) (ss : List Sample) → o ≡ base ⊕ prior.offset
      → offset_after o (stretches_from (stretch_step curves train base) net prior ss) ≡ base ⊕ last_offset prior.offset ss
  unfolding offset_after stretches_from
  from_end o net prior [] e = e
  from_end o net prior (s ∷ ss) e = let step = stretch_step curves train base net prior s in from_end step.offset.0 step.net.0 s ss (step_end curves train base net prior s)

  -- grades and curves end alike
  pub stretches-end : (net long : Float) (ss : List Sample) → offset_after base (stretches curves train base net long ss) ≡ end_from base long ss
  unfolding offset_after stretches stretches_from
  stretches-end net long [] = refl
  stretches-end net long (s ∷ []) = refl
  stretches-end net long (s ∷ r ∷ ss) = let step = stretch_step curves train base net s r in from_end step.offset.0 step.net.0 r ss (step_end curves train base net s r)
