-- `Strap`, R68 to R72: path_res.rs. Definitions only.
use Rattle.std.specs.Prelude.{ℕ, ◌-◌, Bool, true, false, not, ◌&&◌, cond, List, [], ◌∷◌, ◌++◌, leb, eqb, length, Float, Result, Ok, Err}
use Rattle.std.specs.Float.Ieee.Scale.{finite}
use Rattle.ieee.specs.Number.{+0, ◌⊖◌, ◌⊗◌, ◌⊘◌, all_finite}
use Rattle.answer.specs.declared.Refusal.{Refusal}
use Rattle.lookup.specs.declared.lin_search_hint.Dir.{Dir}
use Rattle.lookup.specs.declared.lin_search_hint.Dir.TheVariants.{Unk, Fwd, Bwd}
use Rattle.lookup.specs.declared.path_res_coeff.PathResCoeff.{PathResCoeff}
use Rattle.lookup.specs.Coeff.{coeffs, coeff_at, coefficient_of, res_val}
use Rattle.answer.specs.declared.Answer.{Answer}
use Rattle.answer.specs.Answers.{done, refusal}
use Rattle.path.specs.Answers.{is_done, ask, in_turn}
use Rattle.train.specs.declared.train_state.TrainState.{TrainState}
use Rattle.train.specs.Position.{front_of, back_of, length_of, weight_of, state_finite}
use Rattle.resistance.specs.declared.listed.Searched.{Searched}
use Rattle.resistance.specs.declared.strap.Strap.{Strap}
use Rattle.resistance.specs.declared.strap.Ends.{Ends}
use Rattle.resistance.specs.declared.strap.StrapForce.{StrapForce}
use Rattle.resistance.specs.declared.strap.StrapAnswer.{StrapAnswer}
use Rattle.resistance.specs.declared.strap.StrapRes.{StrapRes}
use Rattle.resistance.specs.Listed.{list_answer, search, not_searched, value_steps}

abbrev pub strap_of : ℕ → ℕ → Strap
strap_of front back = record { idx_front = front; idx_back = back }

abbrev pub front_idx : Strap → ℕ
front_idx t = t.idx_front

abbrev pub back_idx : Strap → ℕ
back_idx t = t.idx_back

abbrev pub answered : Answer → Strap → StrapAnswer
answered a t = record { answer = a; strap = t }

-- a result as C is told it: t is the record as it came
abbrev pub strap_told : Strap → Result Strap Refusal → StrapAnswer
strap_told t (Ok u) = answered done u
strap_told t (Err e) = answered (refusal e) t

-- ---- the searches of a call

-- what follows a search is made only where the search is done
abbrev pub after_search : {A : Type 0} → (Answer → A) → Searched → A → A
after_search refuse found next = cond (is_done found.answer) next (refuse found.answer)

-- what the searches of a call leave: the answer, the indices, and whether one record serves both ends
pub record Moved : Type 0 where
  pub answer : Answer
  pub strap : Strap
  pub one : Bool

-- the two indices, and whether one record serves both ends
abbrev pub moved_to : ℕ → ℕ → Bool → Moved
moved_to front back one = record { answer = done; strap = strap_of front back; one = one }

-- a refusal hands the indices back as they came
abbrev pub not_moved : ℕ → ℕ → Answer → Moved
not_moved front back a = record { answer = a; strap = strap_of front back; one = false }

-- a result of the searches, t being the indices as they came
abbrev pub moved_told : Strap → Result Ends Refusal → Moved
moved_told t (Ok m) = record { answer = done; strap = m.strap; one = m.one }
moved_told t (Err e) = record { answer = refusal e; strap = t; one = false }

-- front and back exchanged
abbrev pub turned : Moved → Moved
turned m = record { answer = m.answer; strap = strap_of (back_idx m.strap) (front_idx m.strap); one = m.one }

-- the end at x from index i, and then the other at y from k, unless the first is found at k; `both` in any case, and only there are the two compared after it
unfoldable pub moved_ends : Dir → Bool → Float → ℕ → Float → ℕ → List PathResCoeff → Moved
unfolding search
moved_ends dir both x i y k rs =
    let first = search dir x i rs in
    let second = search dir y k rs in
    after_search (not_moved i k) first
    (cond (not both && eqb first.idx k) (moved_to first.idx k true)
    (after_search (not_moved i k) second (moved_to first.idx second.idx (both && eqb first.idx second.idx))))

-- R69: the front first, for Bwd the back; Unk searches for both
unfoldable pub moved : Dir → Strap → TrainState → List PathResCoeff → Moved
unfolding moved_ends
moved Fwd t s rs = moved_ends Fwd false (front_of s) (front_idx t) (back_of s) (back_idx t) rs
moved Bwd t s rs = turned (moved_ends Bwd false (back_of s) (back_idx t) (front_of s) (front_idx t) rs)
moved Unk t s rs = moved_ends Unk true (front_of s) (front_idx t) (back_of s) (back_idx t) rs

-- ---- the resistance at two indices

-- the value at the front by the front's record
abbrev pub front_value : Strap → TrainState → List PathResCoeff → Float
front_value t s rs = res_val (coeff_at rs (front_idx t)) (front_of s)

-- the value at the back by the back's record
abbrev pub back_value : Strap → TrainState → List PathResCoeff → Float
back_value t s rs = res_val (coeff_at rs (back_idx t)) (back_of s)

-- R70: the coefficient of the one record that serves both ends, otherwise (front value − back value) / length
unfoldable pub calc_res_strap : Bool → Strap → TrainState → List PathResCoeff → Float
calc_res_strap one t s rs = cond one (coefficient_of (coeff_at rs (front_idx t))) ((front_value t s rs ⊖ back_value t s rs) ⊘ length_of s)

-- R70: times `weight_static`
abbrev pub res_at : Bool → Strap → TrainState → List PathResCoeff → Float
res_at one t s rs = calc_res_strap one t s rs ⊗ weight_of s

-- every result on the way, in the order of the operations
unfoldable pub res_steps : Bool → Strap → TrainState → List PathResCoeff → List Float
unfolding calc_res_strap
res_steps one t s rs =
    cond one
    (res_at one t s rs ∷ [])
    (value_steps (coeff_at rs (front_idx t)) (front_of s) ++ (value_steps (coeff_at rs (back_idx t)) (back_of s)
    ++ ((front_value t s rs ⊖ back_value t s rs) ∷ calc_res_strap one t s rs ∷ res_at one t s rs ∷ [])))

-- ---- in a list that is known to be sound

-- no strap, or the one of a single record: 0 and 0
abbrev pub no_strap : Answer → StrapAnswer
no_strap a = answered a (strap_of 0 0)

-- R68: the back searched for from 0, the front from its index; 0 and 0 for a single record
unfoldable pub new_known : TrainState → List PathResCoeff → StrapAnswer
unfolding search
new_known s rs =
    let x = front_of s ⊖ length_of s in
    let back = cond (finite x) (search Fwd x 0 rs) (not_searched 8) in
    let front = search Fwd (front_of s) back.idx rs in
    cond (leb (length rs) 1) (no_strap done) (after_search no_strap back (after_search no_strap front (answered done (strap_of front.idx back.idx))))

-- a refused call hands the record back as it came
abbrev pub refused_res : Answer → Strap → StrapRes
refused_res a t = record { answer = a; strap = t; res = record { 0 = +0 } }

-- a result with its force as C is told it
abbrev pub res_told : Strap → Result StrapForce Refusal → StrapRes
res_told t (Ok r) = record { answer = done; strap = r.strap; res = r.res }
res_told t (Err e) = refused_res (refusal e) t

-- the searches, and then question 8
unfoldable pub calc_res_known : Dir → Strap → TrainState → List PathResCoeff → StrapRes
unfolding moved res_steps calc_res_strap
calc_res_known dir t s rs =
    let m = moved dir t s rs in
    let a = in_turn (m.answer ∷ ask 8 (all_finite (res_steps m.one m.strap s rs)) ∷ []) in
    cond (is_done a) (record { answer = done; strap = m.strap; res = record { 0 = res_at m.one m.strap s rs } }) (refused_res a t)

-- ---- the public calls: behind questions 1 and 2

unfoldable pub new_of : TrainState → ℕ → List Float → StrapAnswer
unfolding list_answer new_known
new_of s n c =
    let a = list_answer (state_finite s) n c in
    cond (is_done a) (new_known s (coeffs n c)) (no_strap a)

unfoldable pub calc_res_of : Dir → Strap → TrainState → ℕ → List Float → StrapRes
unfolding list_answer calc_res_known
calc_res_of dir t s n c =
    let a = list_answer (state_finite s) n c in
    cond (is_done a) (calc_res_known dir t s (coeffs n c)) (refused_res a t)

-- R72: a dropped count subtracted; question 11 (R114) of both indices before either changes
unfoldable pub fix_cache : Strap → ℕ → StrapAnswer
fix_cache t sub =
    let a = ask 11 (leb sub (back_idx t) && leb sub (front_idx t)) in
    answered a (cond (is_done a) (strap_of (front_idx t - sub) (back_idx t - sub)) t)
