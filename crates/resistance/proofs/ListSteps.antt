-- A list searched alone: its questions in turn, where a search that is done ends, and the values of one record.
use Prim.Native.Nat.{ℕ, ◌≤◌, ◌<◌}
use mathlib.Core.Path.{◌≡◌, refl, sym, ap, ap₂, ◌∙◌}
use mathlib.Core.Bool.{Bool, true, false, ◌&&◌, and-true, cond}
use mathlib.Core.List.{List, [], ◌∷◌}
use borrow.Author.Tests.{lt-ltb, le-ltb}
use lib.Dec.{T, ltb}
use lib.ListN.{length}
use lib.Ieee.{Float}
use lib.Ieee.Scale.{finite}
use Rattle.ieee.specs.Number.{+0, ◌⊖◌, ◌⊗◌, all_finite}
use Rattle.lookup.specs.declared.lin_search_hint.Dir.{Dir}
use Rattle.lookup.specs.declared.path_res_coeff.PathResCoeff.{PathResCoeff}
use Rattle.lookup.specs.Coeff.{coeffs, coeff_at, stands_at, coefficient_of, res_val, coeffs_finite}
use Rattle.lookup.specs.CalcIdx.{Indexed, find_in, list_sound, judged}
use Rattle.lookup.proofs.Coeffs.{length-coeffs, value-way}
use Rattle.lookup.proofs.Place.{found_below}
use Rattle.link.proofs.Known.{and_both}
use Rattle.answer.specs.declared.Answer.{Answer}
use Rattle.answer.specs.declared.Question.TheVariants.{Finite, Sound}
use Rattle.answer.specs.declared.Refusal.{Refusal}
use Rattle.answer.specs.Answers.{done, answer, refused_at}
use Rattle.std.proofs.Common.{Result, Ok}
use Rattle.path.specs.Answers.{ask, in_turn}
use Rattle.path.proofs.InTurn.{turn-no, first_done, last_one, turn-none}
use Rattle.train.specs.declared.train_state.TrainState.{TrainState}
use Rattle.train.specs.Position.{state_finite}
use Rattle.resistance.specs.declared.listed.Searched.{Searched}
use Rattle.resistance.specs.declared.listed.CoeffAnswer.{CoeffAnswer}
use Rattle.resistance.specs.declared.listed.NetAnswer.{NetAnswer}
use Rattle.resistance.specs.Listed.{list_answer, searched_of, search, value_steps, res_coeff_of, res_net_of}
use Rattle.resistance.proofs.Answered.{settled-no, settled-yes, asked-no, then-no, then-yes}

-- ---- questions 1 and 2
module _ (also : Bool) (n : ℕ) (c : List Float) where
  pub list-answered : {r : Answer} → r ≡ list_answer also n c → r.number ≡ 0 → r ≡ done
  unfolding list_answer
  list-answered e h = e ∙ turn-none (ask 1 (also && coeffs_finite true n c) ∷ ask 2 (list_sound n c) ∷ []) (ap (λ (a : Answer). a.number) (sym e) ∙ h)

  pub list-also : (list_answer also n c).number ≡ 0 → also ≡ true
  unfolding list_answer
  list-also h = (and_both also (coeffs_finite true n c) (first_done 0 (ask 2 (list_sound n c) ∷ []) (also && coeffs_finite true n c) h).0).0

-- the list that answers them; r is the code's result
module _ (also : Bool) (n : ℕ) (c : List Float) where
  judged-answer : answer (judged also n c) ≡ list_answer also n c
  unfolding judged list_answer in_turn
  judged-answer = go (also && coeffs_finite true n c) (list_sound n c)
    where
      go : (a b : Bool) → answer (cond a (cond b (Ok (coeffs n c)) (refused_at Sound 0)) (refused_at Finite 0)) ≡ in_turn (ask 1 a ∷ ask 2 b ∷ [])
      go true true = refl
      go true false = refl
      go false b = refl

  module _ {r : Result (List PathResCoeff) Refusal} (e : r ≡ judged also n c) where
    pub list-told : answer r ≡ list_answer also n c
    list-told = ap answer e ∙ judged-answer

    pub list-is : {rs : List PathResCoeff} → r ≡ Ok rs → rs ≡ coeffs n c
    unfolding judged
    list-is f = go (also && coeffs_finite true n c) (list_sound n c) (sym f ∙ e)
      where
        go : {rs : List PathResCoeff} (a b : Bool) → Ok rs ≡ cond a (cond b (Ok (coeffs n c)) (refused_at Sound 0)) (refused_at Finite 0) → rs ≡ coeffs n c
        go true true h = cc
        go true false h = cc
        go false b h = cc

    pub list-long : {rs : List PathResCoeff} → r ≡ Ok rs → length rs ≡ n
    list-long f = ap length (list-is f) ∙ length-coeffs n c

-- where the other numbers are a position's
pub list-of-state : (s : TrainState) (n : ℕ) (c : List Float) {ok : Bool} {r : Answer} → ok ≡ state_finite s → r ≡ list_answer ok n c → r ≡ list_answer (state_finite s) n c
list-of-state s n c e f = f ∙ ap (λ (b : Bool). list_answer b n c) e

-- ---- one search

-- the answer of a search that is done, and its index
abbrev pub Within : List PathResCoeff → Searched → Type 0
Within rs r = r.answer.number ≡ 0 → (r.answer ≡ done) × (r.idx < length rs)

module _ (dir : Dir) (x : Float) (hint : ℕ) (rs : List PathResCoeff) where
  pub search-of : {f : Indexed} → f ≡ find_in dir x hint rs → searched_of f ≡ search dir x hint rs
  unfolding search
  search-of e = ap searched_of e

  pub search-within : Within rs (search dir x hint rs)
  unfolding search
  search-within z =
      let found = found_below dir x hint rs z in
      (ap (λ (f : Indexed). (searched_of f).answer) found.0, found.1)

-- ---- one record
-- a question that another follows from
pub implied : (a b : Bool) → (T b → T a) → (a && b) ≡ b
implied true b h = refl
implied false true h = absurd (h tt)
implied false false h = refl

-- the last of three questions, where the two before it follow from it
pub last-of-three : (a b c : Bool) → (T c → T a) → (T c → T b) → (a && (b && (c && true))) ≡ c
last-of-three a b c h k = ap (λ (x : Bool). a && (b && x)) (and-true c) ∙ ap (λ (x : Bool). a && x) (implied b c k) ∙ implied a c h

-- a value is finite only where every result on the way is
pub value-finite : (g : PathResCoeff) (x : Float) → all_finite (value_steps g x) ≡ finite (res_val g x)
unfolding all_finite
value-finite g x =
    let d = x ⊖ stands_at g in
    last-of-three (finite d) (finite (coefficient_of g ⊗ d)) (finite (res_val g x)) (λ t. (value-way g x t).0) (λ t. (value-way g x t).1)

-- first is the code's answer to questions 1 and 2
module _ (i n : ℕ) (c : List Float) {first : Answer} (e : first ≡ list_answer true n c) where
  abbrev asked-11 : List Answer
  asked-11 = ask 11 (ltb i n) ∷ []

  abbrev coefficient : Answer → Bool → CoeffAnswer
  coefficient a b = record { answer = a; res_coeff = record { 0 = cond b (coefficient_of (coeff_at (coeffs n c) i)) +0 } }

  pub coeff-refused : (first.number ≡ 0 → ⊥) → record { answer = first; res_coeff = record { 0 = +0 } } ≡ res_coeff_of i n c
  unfolding res_coeff_of
  coeff-refused h = settled-no coefficient (sym (turn-no (list_answer true n c) asked-11 e h)) h

module _ (i : ℕ) (x : Float) (s : TrainState) (n : ℕ) (c : List Float) {ok : Bool} (o : ok ≡ state_finite s) {first : Answer} (l : first ≡ list_answer ok n c) where
  e : first ≡ list_answer (state_finite s) n c
  e = list-of-state s n c o l

  abbrev asked-8 : List Answer
  asked-8 = ask 8 (all_finite (value_steps (coeff_at (coeffs n c) i) x)) ∷ []

  abbrev net : Answer → Bool → NetAnswer
  net a b = record { answer = a; res_net = record { 0 = cond b (res_val (coeff_at (coeffs n c) i) x) +0 } }

  pub net-refused : (first.number ≡ 0 → ⊥) → record { answer = first; res_net = record { 0 = +0 } } ≡ res_net_of i x s n c
  unfolding res_net_of
  net-refused h = settled-no net (sym (turn-no (list_answer (state_finite s) n c) (ask 11 (ltb i n) ∷ asked-8) e h)) h

  module _ (z : first.number ≡ 0) where
    pub net-past : {r : Answer} → r ≡ ask 11 false → n ≤ i → record { answer = r; res_net = record { 0 = +0 } } ≡ res_net_of i x s n c
    unfolding res_net_of
    net-past f h = settled-no net (f ∙ then-no e z 10 asked-8 (le-ltb i n h)) (asked-no f)

    -- v is the value that the code works out
    module _ (h : i < n) {g : PathResCoeff} (f : g ≡ coeff_at (coeffs n c) i) {v : Float} (w : v ≡ res_val g x) where
      value : v ≡ res_val (coeff_at (coeffs n c) i) x
      value = w ∙ ap (λ (k : PathResCoeff). res_val k x) f

      -- question 8 after the others
      net-last : {b : Bool} → finite v ≡ b → ask 8 b ≡ in_turn (list_answer (state_finite s) n c ∷ ask 11 (ltb i n) ∷ asked-8)
      net-last t =
          sym (then-yes e z 10 asked-8 (lt-ltb i n h)
          ∙ last_one 7 (all_finite (value_steps (coeff_at (coeffs n c) i) x))
          ∙ ap (ask 8) (value-finite (coeff_at (coeffs n c) i) x ∙ ap finite (sym value) ∙ t))

      pub net-8 : {r : Answer} → finite v ≡ false → r ≡ ask 8 false → record { answer = r; res_net = record { 0 = +0 } } ≡ res_net_of i x s n c
      unfolding res_net_of
      net-8 t k = settled-no net (k ∙ net-last t) (asked-no k)

      pub net-found : finite v ≡ true → record { answer = first; res_net = record { 0 = v } } ≡ res_net_of i x s n c
      unfolding res_net_of
      net-found t =
          ap₂ (λ (a : Answer) (y : Float). record { answer = a; res_net = record { 0 = y } }) (list-answered (state_finite s) n c e z) value
          ∙ settled-yes net (net-last t) refl
