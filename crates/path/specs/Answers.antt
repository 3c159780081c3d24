-- Questions and answers, R98 to R101: the first no gives number and place; done is 0, place 0. Definitions only.
use Rattle.std.specs.Prelude.{ℕ, Bool, cond, List, [], ◌∷◌, eqb, Option, Some, None, Result, Ok, Err}
use Rattle.link.specs.declared.train_params.TrainType.{TrainType}
use Rattle.link.specs.Table.{LinkTable}
use Rattle.link.specs.Questions.{question4, question6, question7}
use Rattle.answer.specs.Answers.{done, refusal}
use Rattle.path.specs.declared.path_tpc.PathTpc.{PathTpc}
use Rattle.answer.specs.declared.Answer.{Answer}
use Rattle.answer.specs.declared.Refusal.{Refusal}
use Rattle.path.specs.declared.path_tpc.PathAnswer.{PathAnswer}
use Rattle.path.specs.Records.{Columns, Path, record_of, columns_of}

abbrev pub is_done : Answer → Bool
is_done a = eqb a.number 0

-- question n, with place 0
abbrev pub ask : ℕ → Bool → Answer
ask n yes? = cond yes? done (record { number = n; place = 0 })

-- question n put to each position in turn
abbrev pub ask_each : ℕ → Option ℕ → Answer
ask_each n None = done
ask_each n (Some i) = record { number = n; place = i }

-- the first refusal of a list of answers, and done where there is none
unfoldable pub in_turn : List Answer → Answer
in_turn [] = done
in_turn (a ∷ rest) = cond (is_done a) (in_turn rest) a

-- questions 4 to 7 of the links ns; `fifth` is the answer to question 5, which a recalculation does not ask (yes)
unfoldable pub links_answer : LinkTable → TrainType → Option ℕ → List ℕ → Answer
unfolding in_turn
links_answer t type fifth ns =
    in_turn (
    ask_each 4 (question4 t.links t.lengths t.sets ns)
    ∷ ask_each 5 fifth
    ∷ ask_each 6 (question6 t ns)
    ∷ ask_each 7 (question7 t.sets type ns)
    ∷ [])

-- what a call that may change a path leaves: its answer with the path's record, and the columns
pub record Outcome : Type 0 where
  pub answer : PathAnswer
  pub columns : Columns

abbrev pub left : PathAnswer → Columns → Outcome
left a c = record { answer = a; columns = c }

-- what C is told of a call that may change the path p: its new record, or p as it came with the refusal
abbrev pub told : PathTpc → Result PathTpc Refusal → PathAnswer
told p (Ok after) = record { answer = done; path = after }
told p (Err e) = record { answer = refusal e; path = p }

-- what a call that is done leaves: the path `after`, in the columns c
unfoldable pub changed : Columns → Path → Outcome
unfolding record_of columns_of
changed c after = left (record { answer = done; path = record_of after }) (columns_of c after)

-- R101: refused, the record and every column come back as they were
unfoldable pub outcome : Answer → PathTpc → Columns → Path → Outcome
unfolding changed
outcome a p c after = cond (is_done a) (changed c after) (left (record { answer = a; path = p }) c)
