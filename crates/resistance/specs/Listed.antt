-- A list searched alone: questions 1 and 2, one search, the values of one record. Definitions only.
use Rattle.std.specs.Prelude.{ℕ, Bool, true, ◌&&◌, cond, List, [], ◌∷◌, ltb, Float, Result, Ok, Err}
use Rattle.ieee.specs.Number.{+0, ◌⊖◌, ◌⊗◌, all_finite}
use Rattle.answer.specs.declared.Refusal.{Refusal}
use Rattle.answer.specs.declared.Answer.{Answer}
use Rattle.answer.specs.Answers.{done, refusal}
use Rattle.si.specs.declared.Length.{Length}
use Rattle.si.specs.declared.Ratio.{Ratio}
use Rattle.lookup.specs.declared.lin_search_hint.Dir.{Dir}
use Rattle.lookup.specs.declared.path_res_coeff.PathResCoeff.{PathResCoeff}
use Rattle.lookup.specs.Coeff.{coeffs, coeff_at, stands_at, coefficient_of, res_val, coeffs_finite}
use Rattle.lookup.specs.CalcIdx.{Indexed, find_in, list_sound}
use Rattle.path.specs.Answers.{is_done, ask, in_turn}
use Rattle.train.specs.declared.train_state.TrainState.{TrainState}
use Rattle.train.specs.Position.{state_finite}
use Rattle.resistance.specs.declared.listed.Searched.{Searched}
use Rattle.resistance.specs.declared.listed.CoeffAnswer.{CoeffAnswer}
use Rattle.resistance.specs.declared.listed.NetAnswer.{NetAnswer}

-- questions 1 and 2 of a list; `also` is question 1 of the call's other numbers
unfoldable pub list_answer : Bool → ℕ → List Float → Answer
list_answer also n c = in_turn (ask 1 (also && coeffs_finite true n c) ∷ ask 2 (list_sound n c) ∷ [])

-- ---- a result as C is told it

-- a coefficient, 0 for a refusal
abbrev pub coeff_told : Result Ratio Refusal → CoeffAnswer
coeff_told (Ok x) = record { answer = done; res_coeff = x }
coeff_told (Err e) = record { answer = refusal e; res_coeff = record { 0 = +0 } }

-- a net value, 0 for a refusal
abbrev pub net_told : Result Length Refusal → NetAnswer
net_told (Ok x) = record { answer = done; res_net = x }
net_told (Err e) = record { answer = refusal e; res_net = record { 0 = +0 } }

-- ---- one search

abbrev pub searched_of : Indexed → Searched
searched_of f = record { answer = record { number = f.number; place = f.place }; idx = f.index }

-- questions 10 and 11, and the index; 0 for a refusal
unfoldable pub search : Dir → Float → ℕ → List PathResCoeff → Searched
search dir x hint rs = searched_of (find_in dir x hint rs)

-- a search that is not made: question n was answered with no
abbrev pub not_searched : ℕ → Searched
not_searched n = record { answer = record { number = n; place = 0 }; idx = 0 }

-- ---- one record

-- every result on the way to a value, in the order of the operations
abbrev pub value_steps : PathResCoeff → Float → List Float
value_steps g x = (x ⊖ stands_at g) ∷ (coefficient_of g ⊗ (x ⊖ stands_at g)) ∷ res_val g x ∷ []

-- question 11 of a call that reads record i: it is an index
unfoldable pub res_coeff_of : ℕ → ℕ → List Float → CoeffAnswer
unfolding list_answer
res_coeff_of i n c =
    let a = in_turn (list_answer true n c ∷ ask 11 (ltb i n) ∷ []) in
    record { answer = a; res_coeff = record { 0 = cond (is_done a) (coefficient_of (coeff_at (coeffs n c) i)) +0 } }

-- the value at x by record i: questions 1, 2, 11 and 8
unfoldable pub res_net_of : ℕ → Float → TrainState → ℕ → List Float → NetAnswer
unfolding list_answer
res_net_of i x s n c =
    let g = coeff_at (coeffs n c) i in
    let a = in_turn (list_answer (state_finite s) n c ∷ ask 11 (ltb i n) ∷ ask 8 (all_finite (value_steps g x)) ∷ []) in
    record { answer = a; res_net = record { 0 = cond (is_done a) (res_val g x) +0 } }
