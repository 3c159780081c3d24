-- `Point`, R64 to R67: path_res.rs. Definitions only.
use Rattle.std.specs.Prelude.{ℕ, ◌-◌, false, ◌&&◌, cond, List, [], ◌∷◌, leb, negsuc, Float, Result, Ok, Err}
use Rattle.std.specs.Float.{fin}
use Rattle.std.specs.Float.Ieee.Scale.{finite}
use Rattle.ieee.specs.Number.{+0, ◌⊖◌, ◌⊗◌}
use Rattle.answer.specs.declared.Refusal.{Refusal}
use Rattle.lookup.specs.declared.lin_search_hint.Dir.{Dir}
use Rattle.lookup.specs.declared.lin_search_hint.Dir.TheVariants.{Fwd}
use Rattle.lookup.specs.declared.path_res_coeff.PathResCoeff.{PathResCoeff}
use Rattle.lookup.specs.Coeff.{coeffs, coeff_at, coefficient_of}
use Rattle.answer.specs.declared.Answer.{Answer}
use Rattle.answer.specs.Answers.{done, refusal}
use Rattle.path.specs.Answers.{is_done, ask, in_turn}
use Rattle.train.specs.declared.train_state.TrainState.{TrainState}
use Rattle.train.specs.Position.{front_of, length_of, weight_of, state_finite}
use Rattle.resistance.specs.declared.listed.Searched.{Searched}
use Rattle.resistance.specs.declared.point.Point.{Point}
use Rattle.resistance.specs.declared.point.PointForce.{PointForce}
use Rattle.resistance.specs.declared.point.PointAnswer.{PointAnswer}
use Rattle.resistance.specs.declared.point.PointRes.{PointRes}
use Rattle.resistance.specs.Listed.{list_answer, search, not_searched}

-- 0.5
abbrev pub half : Float
half = fin false 1 (negsuc 0)

abbrev pub point_of : ℕ → Point
point_of i = record { idx = i }

-- offset − length × 0.5
abbrev pub middle : TrainState → Float
middle s = front_of s ⊖ length_of s ⊗ half

-- question 8 of the middle, then the search's 10 and 11
unfoldable pub search_middle : Dir → ℕ → TrainState → List PathResCoeff → Searched
unfolding search
search_middle dir hint s rs = cond (finite (length_of s ⊗ half) && finite (middle s)) (search dir (middle s) hint rs) (not_searched 8)

-- ---- in a list that is known to be sound

-- R64: a new one searches Fwd from 0
unfoldable pub new_known : TrainState → List PathResCoeff → PointAnswer
unfolding search_middle
new_known s rs = let m = search_middle Fwd 0 s rs in record { answer = m.answer; point = point_of m.idx }

-- coefficient × `weight_static`
abbrev pub res_at : ℕ → TrainState → List PathResCoeff → Float
res_at i s rs = coefficient_of (coeff_at rs i) ⊗ weight_of s

-- a refused call hands the record back as it came
abbrev pub refused_res : Answer → Point → PointRes
refused_res a p = record { answer = a; point = p; res = record { 0 = +0 } }

-- ---- a result as C is told it: p is the record as it came

abbrev pub point_told : Point → Result Point Refusal → PointAnswer
point_told p (Ok q) = record { answer = done; point = q }
point_told p (Err e) = record { answer = refusal e; point = p }

abbrev pub res_told : Point → Result PointForce Refusal → PointRes
res_told p (Ok r) = record { answer = done; point = r.point; res = r.res }
res_told p (Err e) = refused_res (refusal e) p

-- ---- the resistance, in a list that is known to be sound

unfoldable pub calc_res_known : Dir → Point → TrainState → List PathResCoeff → PointRes
unfolding search_middle
calc_res_known dir p s rs =
    let m = search_middle dir p.idx s rs in
    let a = in_turn (m.answer ∷ ask 8 (finite (res_at m.idx s rs)) ∷ []) in
    cond (is_done a) (record { answer = done; point = point_of m.idx; res = record { 0 = res_at m.idx s rs } }) (refused_res a p)

-- ---- the public calls: behind questions 1 and 2

unfoldable pub new_of : TrainState → ℕ → List Float → PointAnswer
unfolding list_answer new_known
new_of s n c =
    let a = list_answer (state_finite s) n c in
    cond (is_done a) (new_known s (coeffs n c)) (record { answer = a; point = point_of 0 })

unfoldable pub calc_res_of : Dir → Point → TrainState → ℕ → List Float → PointRes
unfolding list_answer calc_res_known
calc_res_of dir p s n c =
    let a = list_answer (state_finite s) n c in
    cond (is_done a) (calc_res_known dir p s (coeffs n c)) (refused_res a p)

-- R67: a dropped count subtracted; question 11 (R114)
unfoldable pub fix_cache : Point → ℕ → PointAnswer
fix_cache p sub =
    let a = ask 11 (leb sub p.idx) in
    record { answer = a; point = cond (is_done a) (point_of (p.idx - sub)) p }
