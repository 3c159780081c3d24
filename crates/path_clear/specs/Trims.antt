-- A list of trims, R76 to R78: `clear` at one offset after another, each on the path and the columns as the one before left them, all or nothing. Definitions only.
use Rattle.std.specs.Prelude.{ℕ, ◌+◌, true, cond, List, [], ◌∷◌, Float}
use Rattle.ieee.specs.Number.{+0}
use Rattle.path.specs.declared.path_tpc.PathTpc.{PathTpc}
use Rattle.answer.specs.declared.Answer.{Answer}
use Rattle.path.specs.declared.link_point.LinkPoint.{LinkPoint}
use Rattle.path.specs.Records.{Columns, link_point, grade_count_of, curve_count_of, power_count_of, no_link_point, path_of}
use Rattle.answer.specs.Answers.{done}
use Rattle.path.specs.Answers.{is_done, left, changed}
use Rattle.path.specs.Sound.{path_answer}
use Rattle.path_clear.specs.Clear.{Cleared, clear_of}

-- the answer of so many calls of `clear` in turn: done, or the first refusal, its place the position in the list; k is the position of the first of these
unfoldable pub trims_answer : ℕ → List Float → PathTpc → Columns → Answer
trims_answer k [] p c = done
trims_answer k (x ∷ xs) p c =
    let o = (clear_of x p c).outcome in
    cond (is_done o.answer.answer) (trims_answer (k + 1) xs o.answer.path o.columns) (record { number = o.answer.answer.number; place = k })

-- the counts of two trims together
abbrev pub both : LinkPoint → LinkPoint → LinkPoint
both a b = link_point +0 (grade_count_of a + grade_count_of b) (curve_count_of a + curve_count_of b) (power_count_of a + power_count_of b) 0

-- what they leave where none is refused; `dropped` are the counts of the links that went before these
unfoldable pub trims_leave : LinkPoint → List Float → PathTpc → Columns → Cleared
trims_leave dropped [] p c = record { outcome = left (record { answer = done; path = p }) c; dropped = dropped }
trims_leave dropped (x ∷ xs) p c = let r = clear_of x p c in trims_leave (both dropped r.dropped) xs r.outcome.answer.path r.outcome.columns

-- an empty list asks questions 1 and 2 ..
unfoldable pub list_answer : List Float → PathTpc → Columns → Answer
list_answer [] p c = path_answer true p c
list_answer (x ∷ xs) p c = trims_answer 0 (x ∷ xs) p c

-- .. and leaves the path with zeros past the counts, as an empty extension does
unfoldable pub list_leaves : List Float → PathTpc → Columns → Cleared
list_leaves [] p c = record { outcome = changed c (path_of p c); dropped = no_link_point }
list_leaves (x ∷ xs) p c = trims_leave no_link_point (x ∷ xs) p c

-- all or nothing: a refusal hands back the record and every column as they came, and no counts
unfoldable pub clear_each : List Float → PathTpc → Columns → Cleared
unfolding list_answer list_leaves
clear_each xs p c =
    let a = list_answer xs p c in
    cond (is_done a) (list_leaves xs p c) (record { outcome = left (record { answer = a; path = p }) c; dropped = no_link_point })
