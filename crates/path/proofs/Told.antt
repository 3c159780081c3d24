-- A question's result as the answer of its number, and what a refusal is: no answer that is done.
use Prim.Native.Nat.{ℕ}
use native.Mathlib.Omega.{arith}
use mathlib.Core.Path.{◌≡◌, refl, sym, ap, ◌∙◌}
use mathlib.Core.Bool.{Bool, true, false}
use Rattle.std.specs.Prelude.{Option, Some, None, Result, Ok, Err}
use Rattle.std.specs.Result.{IsErrAnd}
use Rattle.answer.specs.declared.Question.{Question}
use Rattle.answer.specs.declared.Question.TheVariants.{Finite, Sound, Open, InTable, Follows, Formed, HasSet, Results, Room, InRange, Hint, Drops}
use Rattle.answer.specs.declared.Refusal.{Refusal}
use Rattle.answer.specs.declared.Answer.{Answer}
use Rattle.answer.specs.Answers.{number, done, refusal, answer, asked, asked_each}
use Rattle.std.proofs.Common.{rules}
use Rattle.path.specs.declared.path_tpc.PathTpc.{PathTpc}
use Rattle.path.specs.declared.path_tpc.PathAnswer.{PathAnswer}
use Rattle.path.specs.Records.{Columns, Path}
use Rattle.path.specs.Answers.{ask, ask_each, told, left, outcome}
use Rattle.path.proofs.InTurn.{outcome-refused}

pub told-asked : (q : Question) (b : Bool) → answer (asked q b) ≡ ask (number q) b
told-asked q true = refl
told-asked q false = refl

pub told-each : (q : Question) (j : Option ℕ) → answer (asked_each q j) ≡ ask_each (number q) j
told-each q None = refl
told-each q (Some i) = refl

-- a refusal has a number
pub numbered : (q : Question) → number q ≡ 0 → ⊥
numbered Finite h = absurd (omega arith)
numbered Sound h = absurd (omega arith)
numbered Open h = absurd (omega arith)
numbered InTable h = absurd (omega arith)
numbered Follows h = absurd (omega arith)
numbered Formed h = absurd (omega arith)
numbered HasSet h = absurd (omega arith)
numbered Results h = absurd (omega arith)
numbered Room h = absurd (omega arith)
numbered InRange h = absurd (omega arith)
numbered Hint h = absurd (omega arith)
numbered Drops h = absurd (omega arith)

-- the call r, whose answer is a, was refused or done
module _ {A : Type 0} {r : Result A Refusal} {a : Answer} (e : answer r ≡ a) where
  pub told-err : {f : Refusal} → r ≡ Err f → refusal f ≡ a
  told-err was = ap answer (sym was) ∙ e

  pub told-ok : {x : A} → r ≡ Ok x → done ≡ a
  told-ok was = ap answer (sym was) ∙ e

-- a refusal that `?` hands on
pub handed-on : {A : Type 0} (r : Result A Refusal) (f : Refusal) → IsErrAnd r (λ g. g ≡ f) → answer r ≡ refusal f
handed-on (Ok x) f h = absurd h
handed-on (Err g) f h = ap refusal h

-- a refusal that `?` hands on out of a call on the path p: its record and the columns c stay, as the answer a leaves them
module _ (p : PathTpc) (c : Columns) (after : Path) where
  handed-told : (s : Result PathTpc Refusal) (f : Refusal) → IsErrAnd s (λ g. g ≡ f) → told p s ≡ record { answer = refusal f; path = p }
  handed-told (Ok x) f h = absurd h
  handed-told (Err g) f h = ap (λ (k : Refusal). record { answer = refusal k; path = p }) h

  pub handed-outcome :
      (s : Result PathTpc Refusal)
      → {A : Type 0} {r : Result A Refusal} {f : Refusal} {a : Answer}
      → answer r ≡ a
      → r ≡ Err f
      → IsErrAnd s (λ g. g ≡ f)
      → left (told p s) c ≡ outcome a p c after
  handed-outcome s {f = f} {a = a} e was h =
      ap (λ (t : PathAnswer). left t c) (handed-told s f h ∙ ap (λ (b : Answer). record { answer = b; path = p }) (told-err e was))
      ∙ sym (outcome-refused a p c after (λ k. numbered f.question (ap (λ (b : Answer). b.number) (told-err e was) ∙ k)))

-- a question that was asked once
module _ (q : Question) (b : Bool) {r : Result Unit Refusal} (e : r ≡ asked q b) where
  pub once : answer r ≡ ask (number q) b
  once = ap answer e ∙ told-asked q b

  pub said-no : {f : Refusal} → r ≡ Err f → b ≡ false
  said-no was = go b (sym was ∙ e)
    where
      go : {f : Refusal} (b : Bool) → Err f ≡ asked q b → b ≡ false
      go false h = refl
      go true h = absurd (search rules)

  pub said-yes : {x : Unit} → r ≡ Ok x → b ≡ true
  said-yes was = go b (sym was ∙ e)
    where
      go : {x : Unit} (b : Bool) → Ok x ≡ asked q b → b ≡ true
      go true h = refl
      go false h = absurd (search rules)

-- a question that was put to each position
pub each : (q : Question) (j : Option ℕ) {r : Result Unit Refusal} → r ≡ asked_each q j → answer r ≡ ask_each (number q) j
each q j e = ap answer e ∙ told-each q j
