-- What a call gives by its answer, and a question after others.
use Prim.Native.Nat.{ℕ, suc}
use native.Mathlib.Omega.{arith}
use mathlib.Core.Path.{◌≡◌, refl, sym, ap, ap₂, ◌∙◌}
use mathlib.Core.Bool.{Bool, true, false, cond}
use mathlib.Core.List.{List, [], ◌∷◌}
use borrow.Author.Tests.{eq-eqb, ne_eqb}
use Rattle.answer.specs.declared.Answer.{Answer}
use Rattle.answer.specs.Answers.{done}
use Rattle.path.specs.Answers.{is_done, ask, in_turn}
use Rattle.path.proofs.InTurn.{turn-no, turn-yes, first-no, first-yes, last_one}

-- give a b: what a call gives with the answer a, by whether that is done; r is the code's answer
module _ {A : Type 0} (give : Answer → Bool → A) {r a : Answer} (e : r ≡ a) where
  pub settled-no : (r.number ≡ 0 → ⊥) → give r false ≡ give a (is_done a)
  settled-no h = ap₂ give e (sym (ne_eqb a.number 0 (λ k. h (ap (λ (x : Answer). x.number) e ∙ k))))

  pub settled-yes : r.number ≡ 0 → give r true ≡ give a (is_done a)
  settled-yes h = ap₂ give e (sym (eq-eqb a.number 0 (ap (λ (x : Answer). x.number) (sym e) ∙ h)))

-- a question that was answered with no
pub asked-no : {n : ℕ} {r : Answer} → r ≡ ask (suc n) false → r.number ≡ 0 → ⊥
asked-no e z = omega (arith, ap (λ (x : Answer). x.number) e)

-- the question n + 1 after the first, to which r is the code's answer
module _ {first r : Answer} (e : r ≡ first) (z : r.number ≡ 0) (n : ℕ) {b : Bool} where
  pub then-no : (rest : List Answer) → b ≡ false → ask (suc n) false ≡ in_turn (first ∷ ask (suc n) b ∷ rest)
  then-no rest f = sym (turn-yes first (ask (suc n) b ∷ rest) e z ∙ first-no n rest f)

  pub then-yes : (rest : List Answer) → b ≡ true → in_turn (first ∷ ask (suc n) b ∷ rest) ≡ in_turn rest
  then-yes rest f = turn-yes first (ask (suc n) b ∷ rest) e z ∙ first-yes n rest f

  -- no other is asked
  pub then-done : b ≡ true → done ≡ in_turn (first ∷ ask (suc n) b ∷ [])
  then-done f = sym (turn-yes first (ask (suc n) b ∷ []) e z ∙ last_one n b ∙ ap (ask (suc n)) f)

-- ---- what a call gives: `good` where it is done, and by `refuse` otherwise
module _ {A : Type 0} (refuse : Answer → A) {r a : Answer} (e : r ≡ a) where
  pub behind-no : (good : A) → (r.number ≡ 0 → ⊥) → refuse r ≡ cond (is_done a) good (refuse a)
  behind-no good h = settled-no (λ (x : Answer) (b : Bool). cond b good (refuse x)) e h

  pub behind-yes : {x good : A} → r.number ≡ 0 → x ≡ good → x ≡ cond (is_done a) good (refuse a)
  behind-yes {good = good} z f = f ∙ settled-yes (λ (x : Answer) (b : Bool). cond b good (refuse x)) e z

-- a first answer, and then the question n + 1
abbrev both : Answer → ℕ → Bool → Answer
both first n b = in_turn (first ∷ ask (suc n) b ∷ [])

module _ {A : Type 0} (refuse : Answer → A) (good : A) {first r : Answer} (e : r ≡ first) (n : ℕ) (b : Bool) where
  pub both_first : (r.number ≡ 0 → ⊥) → refuse r ≡ cond (is_done (both first n b)) good (refuse (both first n b))
  both_first h = behind-no refuse (sym (turn-no first (ask (suc n) b ∷ []) e h)) good h

  module _ (z : r.number ≡ 0) where
    pub both-second : {k : Answer} → b ≡ false → k ≡ ask (suc n) false → refuse k ≡ cond (is_done (both first n b)) good (refuse (both first n b))
    both-second t f = behind-no refuse (f ∙ then-no e z n [] t) good (asked-no f)

    pub both-done : b ≡ true → good ≡ cond (is_done (both first n b)) good (refuse (both first n b))
    both-done t = behind-yes refuse (then-done e z n t) refl refl
