-- What C is told of a result: a refusal is never done.
use Prim.Native.Nat.{ℕ}
use mathlib.Core.Path.{◌≡◌, refl, sym, ap, ◌∙◌}
use mathlib.Core.Bool.{Bool, true, false}
use native.Mathlib.Omega.{arith}
use borrow.Author.Tests.{ne_eqb}
use lib.Dec.{eqb}
use Rattle.std.proofs.Common.{Result, Ok, Err}
use Rattle.answer.specs.declared.Question.{Question}
use Rattle.answer.specs.declared.Question.TheVariants.{Finite, Sound, Open, InTable, Follows, Formed, HasSet, Results, Room, InRange, Hint, Drops}
use Rattle.answer.specs.declared.Refusal.{Refusal}
use Rattle.answer.specs.declared.Answer.{Answer}
use Rattle.answer.specs.Answers.{number, asked, done, refusal, answer}
use Rattle.lookup.specs.CalcIdx.{indexed}
use Rattle.resistance.specs.declared.listed.Searched.{Searched}
use Rattle.resistance.specs.Listed.{searched_of}

some-number : (q : Question) → number q ≡ 0 → ⊥
some-number Finite h = omega arith
some-number Sound h = omega arith
some-number Open h = omega arith
some-number InTable h = omega arith
some-number Follows h = omega arith
some-number Formed h = omega arith
some-number HasSet h = omega arith
some-number Results h = omega arith
some-number Room h = omega arith
some-number InRange h = omega arith
some-number Hint h = omega arith
some-number Drops h = omega arith

pub not-done : (x : Refusal) → (refusal x).number ≡ 0 → ⊥
not-done x h = some-number x.question h

pub not-zero : (x : Refusal) → eqb (number x.question) 0 ≡ false
not-zero x = ne_eqb (number x.question) 0 (some-number x.question)

-- r is the code's result
module _ {A : Type 0} {r : Result A Refusal} {a : Answer} (e : answer r ≡ a) where
  pub no-is : {x : Refusal} → r ≡ Err x → refusal x ≡ a
  no-is f = sym (ap answer f) ∙ e

  pub yes-is : {x : A} → r ≡ Ok x → done ≡ a
  yes-is f = sym (ap answer f) ∙ e

-- found is the code's result of a search
module _ {found : Result ℕ Refusal} {s : Searched} (e : searched_of (indexed found) ≡ s) where
  pub search-no : {x : Refusal} → found ≡ Err x → record { answer = refusal x; idx = 0 } ≡ s
  search-no f = ap (λ (r : Result ℕ Refusal). searched_of (indexed r)) (sym f) ∙ e

  pub search-yes : {i : ℕ} → found ≡ Ok i → record { answer = done; idx = i } ≡ s
  search-yes f = ap (λ (r : Result ℕ Refusal). searched_of (indexed r)) (sym f) ∙ e

-- r is the code's answer to a question that is asked once
module _ (q : Question) {b : Bool} {r : Result Unit Refusal} (e : r ≡ asked q b) where
  pub ask-no : {x : Refusal} → r ≡ Err x → (b ≡ false) × (x ≡ record { question = q; place = 0 })
  ask-no {x} f = go b (sym f ∙ e)
    where
      go : (b : Bool) → Err x ≡ asked q b → (b ≡ false) × (x ≡ record { question = q; place = 0 })
      go true h = cc
      go false h = (refl, cc)

  pub ask-yes : {u : Unit} → r ≡ Ok u → b ≡ true
  ask-yes {u} f = go b (sym f ∙ e)
    where
      go : (b : Bool) → Ok u ≡ asked q b → b ≡ true
      go true h = refl
      go false h = cc
