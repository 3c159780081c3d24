-- Questions in turn: the first no is the answer, and done says that each was answered with yes. What a call leaves, refused and done.
use Rattle.std.specs.Prelude.{Option, Some, None}
use Prim.Native.Nat.{ℕ, suc}
use native.Mathlib.Omega.{arith}
use mathlib.Core.Path.{◌≡◌, refl, sym, ap, ap₂, ◌∙◌}
use mathlib.Core.Bool.{Bool, true, false, ◌&&◌}
use mathlib.Core.List.{List, [], ◌∷◌}
use lib.Dec.{eqb}
use borrow.Author.Tests.{eq-eqb, ne_eqb, eqb-true, eqb-false}
use Rattle.link.specs.declared.train_params.TrainType.{TrainType}
use Rattle.link.specs.Table.{LinkTable}
use Rattle.link.specs.Questions.{question4, question6, question7}
use Rattle.link.proofs.Known.{and_both}
use Rattle.answer.specs.declared.Answer.{Answer}
use Rattle.path.specs.declared.path_tpc.PathTpc.{PathTpc}
use Rattle.path.specs.Records.{Columns, Path, record_of, columns_of}
use Rattle.answer.specs.Answers.{done}
use Rattle.path.specs.Answers.{ask, ask_each, in_turn, links_answer, changed, outcome, left}
use Rattle.path.specs.Sound.{path_finite, sound, path_answer}

-- r is the code's answer to the first question
module _ (a : Answer) (rest : List Answer) where
  pub turn-no : {r : Answer} → r ≡ a → (r.number ≡ 0 → ⊥) → in_turn (a ∷ rest) ≡ r
  unfolding in_turn
  turn-no e h = rw (ne_eqb a.number 0 (λ k. h (ap (λ (b : Answer). b.number) e ∙ k))) (sym e)

  pub turn-yes : {r : Answer} → r ≡ a → r.number ≡ 0 → in_turn (a ∷ rest) ≡ in_turn rest
  unfolding in_turn
  turn-yes e h = rw (eq-eqb a.number 0 (ap (λ (b : Answer). b.number) (sym e) ∙ h))

  pub turn-done : (in_turn (a ∷ rest)).number ≡ 0 → (a.number ≡ 0) × ((in_turn rest).number ≡ 0)
  unfolding in_turn
  turn-done h = go (eqb a.number 0) refl
    where
      go : (b : Bool) → eqb a.number 0 ≡ b → (a.number ≡ 0) × ((in_turn rest).number ≡ 0)
      go true e = let z = eqb-true a.number 0 e in (z, sym (ap (λ (r : Answer). r.number) (turn-yes refl z)) ∙ h)
      go false e = let z : a.number ≡ 0 = sym (ap (λ (r : Answer). r.number) (turn-no refl (eqb-false a.number 0 e))) ∙ h in absurd (eqb-false a.number 0 e z)

module _ (n : ℕ) (rest : List Answer) where
  pub first-no : {b : Bool} → b ≡ false → in_turn (ask (suc n) b ∷ rest) ≡ ask (suc n) false
  first-no e = ap (λ (b : Bool). in_turn (ask (suc n) b ∷ rest)) e ∙ turn-no (ask (suc n) false) rest refl (λ h. omega arith)

  pub first-yes : {b : Bool} → b ≡ true → in_turn (ask (suc n) b ∷ rest) ≡ in_turn rest
  first-yes e = ap (λ (b : Bool). in_turn (ask (suc n) b ∷ rest)) e ∙ turn-yes done rest refl refl

  pub first_done : (b : Bool) → (in_turn (ask (suc n) b ∷ rest)).number ≡ 0 → (b ≡ true) × ((in_turn rest).number ≡ 0)
  first_done true h = (refl, (turn-done done rest h).1)
  first_done false h = let e = (turn-done (ask (suc n) false) rest h).0 in absurd (omega arith)

pub last_one : (n : ℕ) (b : Bool) → in_turn (ask (suc n) b ∷ []) ≡ ask (suc n) b
unfolding in_turn
last_one n true = refl
last_one n false = first-no n [] refl

pub last-each : (n : ℕ) (j : Option ℕ) → in_turn (ask_each (suc n) j ∷ []) ≡ ask_each (suc n) j
unfolding in_turn
last-each n None = refl
last-each n (Some i) = turn-no (ask_each (suc n) (Some i)) [] refl (λ h. omega arith)

-- an answer with number 0 has place 0
pub turn-none : (answers : List Answer) → (in_turn answers).number ≡ 0 → in_turn answers ≡ done
unfolding in_turn
turn-none [] h = refl
turn-none (a ∷ rest) h =
    let t = turn-done a rest h in
    turn-yes a rest refl t.0 ∙ turn-none rest t.1

pub each-done : (n : ℕ) (j : Option ℕ) → (ask_each (suc n) j).number ≡ 0 → j ≡ None
each-done n None h = refl
each-done n (Some i) h = absurd (omega arith)

-- the last question is itself several in turn
pub turn_last : (answers : List Answer) → in_turn (in_turn answers ∷ []) ≡ in_turn answers
unfolding in_turn
turn_last answers = go (eqb (in_turn answers).number 0) refl
  where
    go : (b : Bool) → eqb (in_turn answers).number 0 ≡ b → in_turn (in_turn answers ∷ []) ≡ in_turn answers
    go true e = let z = eqb-true (in_turn answers).number 0 e in turn-yes (in_turn answers) [] refl z ∙ sym (turn-none answers z)
    go false e = turn-no (in_turn answers) [] refl (eqb-false (in_turn answers).number 0 e)

-- ---- questions 4 to 7
module _ (t : LinkTable) (type : TrainType) (fifth : Option ℕ) (ns : List ℕ) where
  abbrev after6 : List Answer
  after6 = ask_each 7 (question7 t.sets type ns) ∷ []

  abbrev after5 : List Answer
  after5 = ask_each 6 (question6 t ns) ∷ after6

  abbrev after4 : List Answer
  after4 = ask_each 5 fifth ∷ after5

  abbrev first4 : Answer
  first4 = ask_each 4 (question4 t.links t.lengths t.sets ns)

  -- r4 to r6 are the code's answers to questions 4 to 6
  module _ {r4 : Answer} (e4 : r4 ≡ first4) where
    pub links-4 : (r4.number ≡ 0 → ⊥) → r4 ≡ links_answer t type fifth ns
    unfolding links_answer
    links-4 h = sym (turn-no first4 after4 e4 h)

    module _ (h4 : r4.number ≡ 0) {r5 : Answer} (e5 : r5 ≡ ask_each 5 fifth) where
      pub links-5 : (r5.number ≡ 0 → ⊥) → r5 ≡ links_answer t type fifth ns
      unfolding links_answer
      links-5 h = sym (turn-yes first4 after4 e4 h4 ∙ turn-no (ask_each 5 fifth) after5 e5 h)

      module _ (h5 : r5.number ≡ 0) {r6 : Answer} (e6 : r6 ≡ ask_each 6 (question6 t ns)) where
        pub links-6 : (r6.number ≡ 0 → ⊥) → r6 ≡ links_answer t type fifth ns
        unfolding links_answer
        links-6 h = sym (turn-yes first4 after4 e4 h4 ∙ turn-yes (ask_each 5 fifth) after5 e5 h5 ∙ turn-no (ask_each 6 (question6 t ns)) after6 e6 h)

        pub links-7 : {r7 : Answer} → r6.number ≡ 0 → r7 ≡ ask_each 7 (question7 t.sets type ns) → r7 ≡ links_answer t type fifth ns
        unfolding links_answer
        links-7 h6 e7 =
            e7
            ∙ sym (turn-yes first4 after4 e4 h4 ∙ turn-yes (ask_each 5 fifth) after5 e5 h5 ∙ turn-yes (ask_each 6 (question6 t ns)) after6 e6 h6 ∙ last-each 6 (question7 t.sets type ns))

  -- what is known of links that pass
  pub links-done : (links_answer t type fifth ns).number ≡ 0 → (question6 t ns ≡ None) × (question7 t.sets type ns ≡ None)
  unfolding links_answer
  links-done h =
      let a = turn-done first4 after4 h in
      let b = turn-done (ask_each 5 fifth) after5 a.1 in
      let c = turn-done (ask_each 6 (question6 t ns)) after6 b.1 in
      let d = turn-done (ask_each 7 (question7 t.sets type ns)) [] c.1 in
      (each-done 5 (question6 t ns) c.0, each-done 6 (question7 t.sets type ns) d.0)

-- ---- questions without a place
pub turn-place : (a : Answer) (rest : List Answer) → a.place ≡ 0 → (in_turn rest).place ≡ 0 → (in_turn (a ∷ rest)).place ≡ 0
unfolding in_turn
turn-place a rest e f = go (eqb a.number 0) refl
  where
    go : (b : Bool) → eqb a.number 0 ≡ b → (in_turn (a ∷ rest)).place ≡ 0
    go true t = rw t f
    go false t = rw t e

pub ask-place : (n : ℕ) (b : Bool) (rest : List Answer) → (in_turn rest).place ≡ 0 → (in_turn (ask n b ∷ rest)).place ≡ 0
ask-place n b rest e = turn-place (ask n b) rest (go b) e
  where
    go : (b : Bool) → (ask n b).place ≡ 0
    go true = refl
    go false = refl

-- ---- questions 1 and 2
module _ (also : Bool) (p : PathTpc) (c : Columns) where
  pub judged-else : also ≡ false → path_answer also p c ≡ ask 1 false
  unfolding path_answer
  judged-else e = first-no 0 (ask 2 (sound p c) ∷ []) (ap (λ (b : Bool). path_finite p c && b) e ∙ go (path_finite p c))
    where
      go : (b : Bool) → (b && false) ≡ false
      go true = refl
      go false = refl

  pub judged-1 : path_finite p c ≡ false → path_answer also p c ≡ ask 1 false
  unfolding path_answer
  judged-1 e = first-no 0 (ask 2 (sound p c) ∷ []) (ap (λ (b : Bool). b && also) e)

  pub judged-2 : also ≡ true → path_finite p c ≡ true → path_answer also p c ≡ ask 2 (sound p c)
  unfolding path_answer
  judged-2 e f = first-yes 0 (ask 2 (sound p c) ∷ []) (ap₂ ◌&&◌ f e) ∙ last_one 1 (sound p c)

  pub judged-done : {r : Answer} → r ≡ path_answer also p c → r.number ≡ 0 → (also ≡ true) × (path_finite p c ≡ true) × (sound p c ≡ true)
  unfolding path_answer
  judged-done e h =
      let one = first_done 0 (ask 2 (sound p c) ∷ []) (path_finite p c && also) (ap (λ (b : Answer). b.number) (sym e) ∙ h) in
      let both = and_both (path_finite p c) also one.0 in
      (both.1, both.0, (first_done 1 [] (sound p c) one.1).0)

  pub path-place : (path_answer also p c).place ≡ 0
  unfolding path_answer in_turn
  path-place = ask-place 1 (path_finite p c && also) (ask 2 (sound p c) ∷ []) (ask-place 2 (sound p c) [] refl)

-- ---- what a call leaves
module _ (a : Answer) (p : PathTpc) (c : Columns) (after : Path) where
  pub outcome-refused : (a.number ≡ 0 → ⊥) → outcome a p c after ≡ left (record { answer = a; path = p }) c
  unfolding outcome
  outcome-refused h = rw (ne_eqb a.number 0 h)

  pub outcome-changed : a.number ≡ 0 → outcome a p c after ≡ changed c after
  unfolding outcome
  outcome-changed h = rw (eq-eqb a.number 0 h)

  pub outcome-done : a.number ≡ 0 → outcome a p c after ≡ left (record { answer = done; path = record_of after }) (columns_of c after)
  unfolding changed
  outcome-done h = outcome-changed h
