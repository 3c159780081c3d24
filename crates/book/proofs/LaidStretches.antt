-- Stretches laid on records: what is finite stays so.
use Prim.Native.Nat.{◌-◌}
use mathlib.Core.Path.{◌≡◌, refl, ap₂, ◌∙◌}
use mathlib.Core.Bool.{Bool, true, false, ◌&&◌}
use mathlib.Core.List.{List, [], ◌∷◌}
use lib.ListN.{length, set}
use lib.Ieee.{Float}
use lib.Ieee.Scale.{finite}
use Rattle.ieee.specs.Number.{+0, all_finite, ◌⊕◌, ◌⊖◌, ◌⊗◌, ◌⊘◌}
use Rattle.lookup.specs.declared.path_res_coeff.PathResCoeff.{PathResCoeff}
use Rattle.lookup.specs.Coeff.{no_coeff, res_coeff_record, stands_at, coefficient_of, net_of}
use Rattle.link.specs.declared.train_params.TrainParams.{TrainParams}
use Rattle.link.specs.Train.{curve0, curve1, curve2}
use Rattle.link.specs.Lists.{every}
use Rattle.link.specs.Table.{Sample}
use Rattle.link.proofs.Known.{and_both}
use Rattle.path.specs.Records.{last_coeff}
use Rattle.std.specs.Prelude.{Option, Some, None}
use Rattle.si.specs.declared.Ratio.{Ratio}
use Rattle.path_stretches.specs.declared.stretch.Stretch.{Stretch}
use Rattle.path_stretches.specs.Stretches.{grade_stretch, radpm, curvature_of, turn_finite, curve_work, curve_stretch, stretch_step, stretches_from, stretches, is_finite, given, with_coefficient, lay_stretch, lay_stretches}
use Rattle.path.proofs.Written.{values_finite}
use Rattle.path.proofs.Lasts.{every_append, every_set, every-last, whole_finite}

-- ---- what is finite in a stretch

-- the coefficient, where it gives one
abbrev given_finite : Option Ratio → Bool
given_finite None = true
given_finite (Some c) = finite c.0

-- the numbers that it lays
abbrev pub lays_finite : Stretch → Bool
lays_finite s = given_finite s.coefficient && (finite s.offset.0 && finite s.net.0)

grade-lays : (base net : Float) (prior current : Sample) → is_finite (grade_stretch base net prior current) ≡ true → lays_finite (grade_stretch base net prior current) ≡ true
unfolding grade_stretch all_finite
grade-lays base net prior current e =
    let rise = current.value ⊖ prior.value in
    let run = current.offset ⊖ prior.offset in
    let slope = rise ⊘ run in
    let raised = net ⊕ current.value in
    let next = raised ⊖ prior.value in
    let a = and_both (finite rise) _ e in
    let b = and_both (finite run) _ a.1 in
    let c = and_both (finite slope) _ b.1 in
    let d = and_both (finite raised) _ c.1 in
    let f = and_both (finite next) _ d.1 in
    ap₂ ◌&&◌ c.0 (ap₂ ◌&&◌ (and_both (finite (base ⊕ current.offset)) true f.1).0 f.0)

curve-lays : (train : TrainParams) (base net : Float) (prior current : Sample) → is_finite (curve_stretch train base net prior current) ≡ true → lays_finite (curve_stretch train base net prior current) ≡ true
unfolding curve_stretch all_finite
curve-lays train base net prior current e =
    let run = current.offset ⊖ prior.offset in
    let turn = current.value ⊖ prior.value in
    let work = curve_work (curve0 train) (curve1 train) (curve2 train) (curvature_of turn run) in
    let coefficient = work.value.0 ⊘ radpm in
    let rise = coefficient ⊗ run in
    let a = and_both (turn_finite turn run) _ e in
    let b = and_both work.finite _ a.1 in
    let c = and_both (finite coefficient) _ b.1 in
    let d = and_both (finite rise) _ c.1 in
    let f = and_both (finite (net ⊕ rise)) _ d.1 in
    ap₂ ◌&&◌ c.0 (ap₂ ◌&&◌ (and_both (finite (base ⊕ current.offset)) true f.1).0 f.0)

step-lays : (curves : Bool) (train : TrainParams) (base net : Float) (prior current : Sample) → is_finite (stretch_step curves train base net prior current) ≡ true → lays_finite (stretch_step curves train base net prior current) ≡ true
step-lays true train base net prior current e = curve-lays train base net prior current e
step-lays false train base net prior current e = grade-lays base net prior current e

from-lays : (curves : Bool) (train : TrainParams) (base net : Float) (prior : Sample) (ss : List Sample) → every is_finite (stretches_from (stretch_step curves train base) net prior ss) ≡ true
    → every lays_finite (stretches_from (stretch_step curves train base) net prior ss) ≡ true
unfolding stretches_from every
from-lays curves train base net prior [] e = refl
from-lays curves train base net prior (s ∷ ss) e =
    let step = stretch_step curves train base net prior s in
    let t = and_both (is_finite step) _ e in
    ap₂ ◌&&◌ (step-lays curves train base net prior s t.0) (from-lays curves train base step.net.0 s ss t.1)

pub stretches-lay : (curves : Bool) (train : TrainParams) (base net long : Float) (ss : List Sample) → finite net ≡ true → every is_finite (stretches curves train base net long ss) ≡ true
    → every lays_finite (stretches curves train base net long ss) ≡ true
unfolding stretches every
stretches-lay curves train base net long [] n e = ap₂ ◌&&◌ (ap₂ ◌&&◌ (and_both (finite (base ⊕ long)) true e).0 n) refl
stretches-lay curves train base net long (s ∷ ss) n e = from-lays curves train base net s ss e

-- ---- laid: what is finite stays so
with-finite : (s : Stretch) (g : PathResCoeff) → whole_finite g ≡ true → lays_finite s ≡ true → whole_finite (with_coefficient s g) ≡ true
with-finite s g e f = pick s.coefficient (and_both (given_finite s.coefficient) _ f).0
  where
    pick : (c : Option Ratio) → given_finite c ≡ true → whole_finite (given c g) ≡ true
    pick None t = e
    pick (Some c) t =
        let a = and_both (finite (stands_at g)) (values_finite g) e in
        ap₂ ◌&&◌ a.0 (ap₂ ◌&&◌ t (and_both (finite (coefficient_of g)) (finite (net_of g)) a.1).1)

pub finite-laid : (gs : List PathResCoeff) (ss : List Stretch) → every whole_finite gs ≡ true → every lays_finite ss ≡ true → every whole_finite (lay_stretches gs ss) ≡ true
unfolding lay_stretches every
finite-laid gs [] e f = e
finite-laid gs (s ∷ ss) e f =
    let t = and_both (lays_finite s) _ f in
    let changed = with_coefficient s (last_coeff gs) in
    let front = every_set whole_finite gs (length gs - 1) changed e (with-finite s (last_coeff gs) (every-last whole_finite no_coeff gs refl e) t.0) in
    let more = (and_both (given_finite s.coefficient) (finite s.offset.0 && finite s.net.0) t.0).1 in
    let new = and_both (finite s.offset.0) (finite s.net.0) more in
    finite-laid (lay_stretch gs s) ss
    (every_append whole_finite (set gs (length gs - 1) changed) (res_coeff_record s.offset.0 +0 s.net.0 ∷ []) ∙ ap₂ ◌&&◌ front (ap₂ ◌&&◌ (ap₂ ◌&&◌ new.0 new.1) refl))
    t.1
