-- What stretches come to once they are laid on records: how many there are, where the last one stands, and its net value.
use Prim.Native.Nat.{ℕ, zero, suc, ◌+◌, ◌-◌, ◌<◌}
use native.Mathlib.Omega.{arith}
use mathlib.Core.Path.{◌≡◌, refl, ap, ◌∙◌}
use mathlib.Core.Bool.{Bool}
use mathlib.Core.List.{List, [], ◌∷◌, ◌++◌}
use lib.ListN.{length, get_or, set, length-append, length-set}
use lib.Seq.{get_or-append_seam}
use lib.Ieee.{Float}
use Rattle.ieee.specs.Number.{+0}
use Rattle.lookup.specs.declared.path_res_coeff.PathResCoeff.{PathResCoeff}
use Rattle.lookup.specs.Coeff.{res_coeff_record, no_coeff, stands_at, net_of}
use Rattle.link.specs.declared.train_params.TrainParams.{TrainParams}
use Rattle.link.specs.Table.{Sample}
use Rattle.path.specs.Records.{last_coeff}
use Rattle.path_stretches.specs.declared.stretch.Stretch.{Stretch}
use Rattle.path_stretches.specs.Stretches.{stretches_from, stretches, record_count, stretch_count, offset_after, net_after, with_coefficient, lay_stretch, lay_stretches}
use Rattle.path_stretches.proofs.StretchSteps.{count-some}

-- ---- the last record

-- the last of a list with one element appended
pub last_snoc : {A : Type 0} (xs : List A) (x d : A) → get_or (xs ++ x ∷ []) (length (xs ++ x ∷ []) - 1) d ≡ x
last_snoc xs x d =
    let n : length (xs ++ x ∷ []) - 1 ≡ length xs = omega (arith, length-append xs (x ∷ [])) in
    ap (λ (k : ℕ). get_or (xs ++ x ∷ []) k d) n ∙ get_or-append_seam xs x [] d

last-laid : (gs : List PathResCoeff) (s : Stretch) → last_coeff (lay_stretch gs s) ≡ res_coeff_record s.offset.0 +0 s.net.0
last-laid gs s = last_snoc (set gs (length gs - 1) (with_coefficient s (last_coeff gs))) (res_coeff_record s.offset.0 +0 s.net.0) no_coeff

pub stands_after : (gs : List PathResCoeff) (ss : List Stretch) → stands_at (last_coeff (lay_stretches gs ss)) ≡ offset_after (stands_at (last_coeff gs)) ss
unfolding lay_stretches offset_after
stands_after gs [] = refl
stands_after gs (s ∷ ss) = stands_after (lay_stretch gs s) ss ∙ ap (λ (g : PathResCoeff). offset_after (stands_at g) ss) (last-laid gs s)

pub net-after : (gs : List PathResCoeff) (ss : List Stretch) → net_of (last_coeff (lay_stretches gs ss)) ≡ net_after (net_of (last_coeff gs)) ss
unfolding lay_stretches net_after
net-after gs [] = refl
net-after gs (s ∷ ss) = net-after (lay_stretch gs s) ss ∙ ap (λ (g : PathResCoeff). net_after (net_of g) ss) (last-laid gs s)

-- ---- how many there are

-- stretches laid on records
pub length-laid : (gs : List PathResCoeff) (ss : List Stretch) → length (lay_stretches gs ss) ≡ length gs + length ss
unfolding lay_stretches
length-laid gs [] = omega arith
length-laid gs (s ∷ ss) =
    let g = with_coefficient s (last_coeff gs) in
    omega (arith, length-laid (lay_stretch gs s) ss, length-append (set gs (length gs - 1) g) (res_coeff_record s.offset.0 +0 s.net.0 ∷ []), length-set gs (length gs - 1) g)

length_from : (step : Float → Sample → Sample → Stretch) (net : Float) (prior : Sample) (ss : List Sample) → length (stretches_from step net prior ss) ≡ length ss
unfolding stretches_from
length_from step net prior [] = refl
length_from step net prior (s ∷ ss) = ap suc (length_from step (step net prior s).net.0 s ss)

pub length-stretches : (curves : Bool) (train : TrainParams) (base net o : Float) (ss : List Sample) → length (stretches curves train base net o ss) ≡ stretch_count ss
unfolding stretches
length-stretches curves train base net o [] = refl
length-stretches curves train base net o (s ∷ ss) = length_from _ net s ss ∙ omega (arith, count-some (suc (length ss)) (omega arith))

-- few samples give few records
pub count-below : (n b : ℕ) → n < b → 1 < b → record_count n < b
count-below zero b h k = k
count-below (suc n) b h k = omega (arith, count-some (suc n) (omega arith))
