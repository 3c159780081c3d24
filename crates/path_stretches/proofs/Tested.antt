-- Results of a stretch that need no test of their own: a later result is finite only where they are.
use mathlib.Core.Path.{◌≡◌, refl, sym, subst}
use mathlib.Core.Bool.{Bool, true, false, ◌&&◌, cond, and-true}
use lib.Dec.{T}
use lib.Ieee as Ieee
use lib.Ieee.{Float, nan, inf, fin, binary64}
use lib.Ieee.Fits.{and_l, and_i}
use lib.Ieee.Scale.{finite}
use Rattle.ieee.specs.Number.{size, ◌⊕◌, ◌⊖◌, ◌⊗◌, ◌⊘◌, all_finite}
use Rattle.ieee.proofs.Sum.{add-finite, finite-size}
use Rattle.ieee.proofs.Finite.{sub-finite-l, mul-finite-l, mul-finite-r, div-finite-l}
use Rattle.si.specs.Constants.{rev, half_rev, one_degree_per100ft}
use Rattle.link.specs.declared.train_params.TrainParams.{TrainParams}
use Rattle.link.specs.Train.{curve0, curve1, curve2}
use Rattle.link.specs.Table.{Sample}
use Rattle.path_stretches.specs.Stretches.{Worked, radpm, gentle, sharp, curve_work, bend_of, curvature_of, turn_finite, grade_stretch, curve_stretch}

-- a test that the rest implies adds nothing
implied : (a s : Bool) {b : Bool} → b ≡ s → (T s → T a) → (a && b) ≡ s
implied true s e h = e
implied false true e h = absurd (h tt)
implied false false e h = refl

-- ---- a grade

pub grade-tests :
    (base net : Float) (prior current : Sample)
    → (finite ((current.value ⊖ prior.value) ⊘ (current.offset ⊖ prior.offset)) && (finite (current.offset ⊖ prior.offset) && (finite (net ⊕ current.value ⊖ prior.value) && finite (base ⊕ current.offset)))) ≡ (grade_stretch base net prior current).finite
unfolding grade_stretch all_finite
grade-tests base net prior current =
    let rise = current.value ⊖ prior.value in
    let run = current.offset ⊖ prior.offset in
    let raised = net ⊕ current.value in
    let after = raised ⊖ prior.value in
    let offset = base ⊕ current.offset in
    let ends : (finite raised && (finite after && (finite offset && true))) ≡ (finite after && finite offset) =
    implied (finite raised) _ (rw (and-true (finite offset))) (λ t. sub-finite-l raised prior.value (and_l (finite after) (finite offset) t)) in
    sym (implied (finite rise) _ (swapped (finite run) (finite (rise ⊘ run)) ends) (λ t. div-finite-l rise run (and_l (finite (rise ⊘ run)) _ t)))
  where
    swapped : (a b : Bool) {c d : Bool} → c ≡ d → (a && (b && c)) ≡ (b && (a && d))
    swapped true b e = rw e
    swapped false true e = refl
    swapped false false e = refl

-- ---- a curve

-- a remainder
rem-finite : (x y : Float) → T (finite (Ieee.rem binary64 x y)) → T (finite x)
unfolding Ieee.rem
rem-finite nan y t = t
rem-finite (inf s) y t = t
rem-finite (fin s m e) y t = tt

module _ (c0 c1 c2 k : Float) where
  -- from one degree per 100 ft on
  pub sharp-tests : (sharp c0 c1 c2 k).finite ≡ finite (sharp c0 c1 c2 k).value.0
  unfolding all_finite
  sharp-tests =
      let over = k ⊖ one_degree_per100ft in
      let a = c0 ⊗ one_degree_per100ft in
      let b = c1 ⊗ over in
      let q = c2 ⊗ over in
      let qq = q ⊗ over in
      let c = qq ⊘ radpm in
      let sum = a ⊕ b ⊕ c in
      let of-ab : T (finite sum) → T (finite (a ⊕ b)) = λ t. (add-finite binary64 (a ⊕ b) c t).0 in
      let of_c : T (finite sum) → T (finite c) = λ t. (add-finite binary64 (a ⊕ b) c t).1 in
      let of-qq : T (finite sum) → T (finite qq) = λ t. div-finite-l qq radpm (of_c t) in
      implied (finite over) _ (implied (finite a) _ (implied (finite b) _ (implied (finite (a ⊕ b)) _ (implied (finite q) _ (implied (finite qq) _ (implied (finite c) _ (and-true (finite sum)) of_c) of-qq) (λ t. mul-finite-l q over (of-qq t))) of-ab) (λ t. (add-finite binary64 a b (of-ab t)).1)) (λ t. (add-finite binary64 a b (of-ab t)).0)) (λ t. mul-finite-r q over (of-qq t))

  -- the curvature
  sharp-curvature : T (finite (sharp c0 c1 c2 k).value.0) → T (finite k)
  unfolding all_finite
  sharp-curvature t =
      let over = k ⊖ one_degree_per100ft in
      let q = c2 ⊗ over in
      let c = (add-finite binary64 (c0 ⊗ one_degree_per100ft ⊕ c1 ⊗ over) (q ⊗ over ⊘ radpm) t).1 in
      sub-finite-l k one_degree_per100ft (mul-finite-r q over (div-finite-l (q ⊗ over) radpm c))

  -- the resistance on either side
  work-tests : (curve_work c0 c1 c2 k).finite ≡ finite (curve_work c0 c1 c2 k).value.0
  unfolding curve_work
  work-tests = by_side (Ieee.lt k one_degree_per100ft)
    where
      by_side : (b : Bool) → (cond b (gentle c0 k) (sharp c0 c1 c2 k)).finite ≡ finite (cond b (gentle c0 k) (sharp c0 c1 c2 k)).value.0
      by_side true = refl
      by_side false = sharp-tests

  work-curvature : T (finite (curve_work c0 c1 c2 k).value.0) → T (finite k)
  unfolding curve_work
  work-curvature = by_side (Ieee.lt k one_degree_per100ft)
    where
      by_side : (b : Bool) → T (finite (cond b (gentle c0 k) (sharp c0 c1 c2 k)).value.0) → T (finite k)
      by_side true t = mul-finite-r c0 k t
      by_side false t = sharp-curvature t

-- the turn
turned : (turn run : Float) → T (finite run) → T (finite (curvature_of turn run)) → T (turn_finite turn run)
unfolding turn_finite bend_of all_finite
turned turn run r k =
    let shifted = turn ⊕ half_rev in
    let rest = Ieee.rem binary64 shifted rev in
    let bend : T (finite (bend_of turn)) = subst T (finite-size (bend_of turn)) (div-finite-l (size (bend_of turn)) run k) in
    let of-rest : T (finite rest) = (add-finite binary64 (Ieee.neg half_rev) rest bend).1 in
    let of-shifted = rem-finite shifted rev of-rest in
    and_i (finite run) _ r (and_i (finite turn) _ (add-finite binary64 turn half_rev of-shifted).0 (and_i (finite shifted) _ of-shifted (and_i (finite rest) _ of-rest (and_i (finite (bend_of turn)) _ bend (and_i (finite (curvature_of turn run)) true k tt)))))

-- the net value and the offset at the end
module _ (train : TrainParams) (base net : Float) (prior current : Sample) where
  abbrev run : Float
  run = current.offset ⊖ prior.offset

  abbrev work : Worked
  work = curve_work (curve0 train) (curve1 train) (curve2 train) (curvature_of (current.value ⊖ prior.value) run)

  abbrev rise : Float
  rise = work.value.0 ⊘ radpm ⊗ run

  pub curve-tests : (finite (net ⊕ rise) && finite (base ⊕ current.offset)) ≡ (curve_stretch train base net prior current).finite
  unfolding curve_stretch all_finite
  curve-tests =
      let turn = current.value ⊖ prior.value in
      let coefficient = work.value.0 ⊘ radpm in
      let ends = finite (net ⊕ rise) && finite (base ⊕ current.offset) in
      let of-rise : T ends → T (finite rise) = λ t. (add-finite binary64 net rise (and_l (finite (net ⊕ rise)) _ t)).1 in
      let of-coefficient : T ends → T (finite coefficient) = λ t. mul-finite-l coefficient run (of-rise t) in
      let of-value : T ends → T (finite work.value.0) = λ t. div-finite-l work.value.0 radpm (of-coefficient t) in
      let of-turn : T ends → T (turn_finite turn run) =
      λ t. turned turn run (mul-finite-r coefficient run (of-rise t)) (work-curvature (curve0 train) (curve1 train) (curve2 train) (curvature_of turn run) (of-value t)) in
      let of-work : T ends → T work.finite = λ t. subst T (sym (work-tests (curve0 train) (curve1 train) (curve2 train) (curvature_of turn run))) (of-value t) in
      sym (implied (turn_finite turn run) _ (implied work.finite _ (implied (finite coefficient) _ (implied (finite rise) _ (rw (and-true (finite (base ⊕ current.offset)))) of-rise) of-coefficient) of-work) of-turn)
