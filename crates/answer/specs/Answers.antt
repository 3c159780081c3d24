-- Questions and answers, R98 to R100: the first no gives number and place; done is 0, place 0. Definitions only.
use Rattle.std.specs.Prelude.{ℕ, Bool, true, false, Option, Some, None, Result, Ok, Err}
use Rattle.answer.specs.declared.Question.{Question}
use Rattle.answer.specs.declared.Question.TheVariants.{Finite, Sound, Open, InTable, Follows, Formed, HasSet, Results, Room, InRange, Hint, Drops}
use Rattle.answer.specs.declared.Refusal.{Refusal}
use Rattle.answer.specs.declared.Answer.{Answer}

-- the number of a question
abbrev pub number : Question → ℕ
number Finite = 1
number Sound = 2
number Open = 3
number InTable = 4
number Follows = 5
number Formed = 6
number HasSet = 7
number Results = 8
number Room = 9
number InRange = 10
number Hint = 11
number Drops = 12

abbrev pub done : Answer
done = record { number = 0; place = 0 }

-- a refusal as an answer
abbrev pub refusal : Refusal → Answer
refusal e = record { number = number e.question; place = e.place }

-- a result as an answer, whatever value a call that is done gives
abbrev pub answer : {A : Type 0} → Result A Refusal → Answer
answer (Ok x) = done
answer (Err e) = refusal e

-- a no at a place
abbrev pub refused_at : {A : Type 0} → Question → ℕ → Result A Refusal
refused_at q place = Err (record { question = q; place = place })

-- a question asked once
abbrev pub asked : Question → Bool → Result Unit Refusal
asked q true = Ok tt
asked q false = refused_at q 0

-- a question put to each position in turn: the first no
abbrev pub asked_each : Question → Option ℕ → Result Unit Refusal
asked_each q None = Ok tt
asked_each q (Some i) = refused_at q i
