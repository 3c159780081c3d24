-- `Point`: the search of the middle, and the resistance there.
use Prim.Native.Nat.{ℕ, ◌<◌}
use mathlib.Core.Path.{◌≡◌, sym, ap, ◌∙◌, subst}
use mathlib.Core.Bool.{Bool, true, false, cond}
use mathlib.Core.List.{List}
use native.Mathlib.Omega.{arith}
use lib.ListN.{length}
use lib.Ieee.{Float}
use lib.Ieee.Scale.{finite}
use Rattle.ieee.specs.Number.{◌⊗◌}
use Rattle.lookup.specs.declared.lin_search_hint.Dir.{Dir}
use Rattle.lookup.specs.declared.path_res_coeff.PathResCoeff.{PathResCoeff}
use Rattle.lookup.specs.Coeff.{coeffs, coeff_at, coefficient_of}
use Rattle.answer.specs.declared.Answer.{Answer}
use Rattle.answer.specs.Answers.{done}
use Rattle.path.specs.Answers.{ask}
use Rattle.train.specs.declared.train_state.TrainState.{TrainState}
use Rattle.train.specs.Position.{front_of, length_of, weight_of, state_finite}
use Rattle.resistance.specs.declared.listed.Searched.{Searched}
use Rattle.resistance.specs.declared.point.Point.{Point}
use Rattle.resistance.specs.declared.point.PointAnswer.{PointAnswer}
use Rattle.resistance.specs.declared.point.PointRes.{PointRes}
use Rattle.resistance.specs.Listed.{list_answer, search, not_searched}
use Rattle.resistance.specs.Point.{half, point_of, middle, search_middle, res_at, new_known, refused_res, calc_res_known, new_of, calc_res_of}
use Rattle.ieee.proofs.Finite.{sub-finite-r}
use Rattle.resistance.proofs.Answered.{behind-no, behind-yes, both_first, both-second, both-done}
use Rattle.resistance.proofs.ListSteps.{list-of-state, Within, search-within, implied}

-- ---- the search of the middle
module _ (dir : Dir) (hint : ℕ) (s : TrainState) (rs : List PathResCoeff) where
  abbrev searched_if : Bool → Searched
  searched_if b = cond b (search dir (middle s) hint rs) (not_searched 8)

  -- the middle is finite only where half the length is
  middle-asked : search_middle dir hint s rs ≡ searched_if (finite (middle s))
  unfolding search_middle
  middle-asked = ap searched_if (implied (finite (length_of s ⊗ half)) (finite (middle s)) (sub-finite-r (front_of s) (length_of s ⊗ half)))

  pub middle-refused : {a : Answer} → finite (middle s) ≡ false → a ≡ ask 8 false → record { answer = a; idx = 0 } ≡ search_middle dir hint s rs
  middle-refused t e = ap (λ (a : Answer). record { answer = a; idx = 0 }) e ∙ sym (middle-asked ∙ ap searched_if t)

  pub middle-searched : {r : Searched} → finite (middle s) ≡ true → r ≡ search dir (middle s) hint rs → r ≡ search_middle dir hint s rs
  middle-searched t e = e ∙ sym (middle-asked ∙ ap searched_if t)

  middle-within : Within rs (search_middle dir hint s rs)
  middle-within = subst (Within rs) (sym middle-asked) (go (finite (middle s)))
    where
      go : (b : Bool) → Within rs (searched_if b)
      go true z = search-within dir (middle s) hint rs z
      go false z = absurd (omega arith)

-- ---- the resistance; m is the code's answer of that search
module _ (dir : Dir) (p : Point) (s : TrainState) (rs : List PathResCoeff) {m : Searched} (e : m ≡ search_middle dir p.idx s rs) where
  abbrev there : ℕ
  there = (search_middle dir p.idx s rs).idx

  abbrev refuse : Answer → PointRes
  refuse a = refused_res a p

  abbrev good : PointRes
  good = record { answer = done; point = point_of there; res = record { 0 = res_at there s rs } }

  abbrev question : Bool
  question = finite (res_at there s rs)

  answer-is : m.answer ≡ (search_middle dir p.idx s rs).answer
  answer-is = ap (λ (r : Searched). r.answer) e

  pub res-refused : (m.answer.number ≡ 0 → ⊥) → refused_res m.answer p ≡ calc_res_known dir p s rs
  unfolding calc_res_known
  res-refused h = both_first refuse good answer-is 7 question h

  within : m.answer.number ≡ 0 → (m.answer ≡ done) × (m.idx < length rs)
  within = subst (Within rs) (sym e) (middle-within dir p.idx s rs)

  pub res-below : m.answer.number ≡ 0 → m.idx < length rs
  res-below z = (within z).1

  -- g is the record that the code reads
  module _ (z : m.answer.number ≡ 0) {g : PathResCoeff} (f : g ≡ coeff_at rs m.idx) where
    force : coefficient_of g ⊗ weight_of s ≡ res_at there s rs
    force = ap (λ (k : PathResCoeff). coefficient_of k ⊗ weight_of s) (f ∙ ap (λ (r : Searched). coeff_at rs r.idx) e)

    pub res-8 : {r : Answer} → finite (coefficient_of g ⊗ weight_of s) ≡ false → r ≡ ask 8 false → refused_res r p ≡ calc_res_known dir p s rs
    unfolding calc_res_known
    res-8 t k = both-second refuse good answer-is 7 question z (ap finite (sym force) ∙ t) k

    pub res-found : finite (coefficient_of g ⊗ weight_of s) ≡ true → record { answer = m.answer; point = point_of m.idx; res = record { 0 = coefficient_of g ⊗ weight_of s } } ≡ calc_res_known dir p s rs
    unfolding calc_res_known
    res-found t = given ∙ both-done refuse good answer-is 7 question z (ap finite (sym force) ∙ t)
      where
        given : record { answer = m.answer; point = point_of m.idx; res = record { 0 = coefficient_of g ⊗ weight_of s } } ≡ good
        given = cc ((within z).0, e, force)

-- ---- behind questions 1 and 2, to which first is the code's answer
module _ (s : TrainState) (n : ℕ) (c : List Float) {ok : Bool} (o : ok ≡ state_finite s) {first : Answer} (l : first ≡ list_answer ok n c) where
  abbrev nowhere : Answer → PointAnswer
  nowhere a = record { answer = a; point = point_of 0 }

  pub new-refused : (first.number ≡ 0 → ⊥) → record { answer = first; point = point_of 0 } ≡ new_of s n c
  unfolding new_of
  new-refused h = behind-no nowhere (list-of-state s n c o l) (new_known s (coeffs n c)) h

  pub new-passed : {r : PointAnswer} → first.number ≡ 0 → r ≡ new_known s (coeffs n c) → r ≡ new_of s n c
  unfolding new_of
  new-passed z e = behind-yes nowhere (list-of-state s n c o l) z e

  module _ (dir : Dir) (p : Point) where
    pub calc-refused : (first.number ≡ 0 → ⊥) → refused_res first p ≡ calc_res_of dir p s n c
    unfolding calc_res_of
    calc-refused h = behind-no (λ (a : Answer). refused_res a p) (list-of-state s n c o l) (calc_res_known dir p s (coeffs n c)) h

    pub calc-passed : {r : PointRes} → first.number ≡ 0 → r ≡ calc_res_known dir p s (coeffs n c) → r ≡ calc_res_of dir p s n c
    unfolding calc_res_of
    calc-passed z e = behind-yes (λ (a : Answer). refused_res a p) (list-of-state s n c o l) z e
