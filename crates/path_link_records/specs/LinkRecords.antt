-- The grade or curve records of a link, R58 and R82: the part of the caller's column that link k counts. Definitions only.
use Rattle.std.specs.Prelude.{ℕ, ◌+◌, ◌*◌, Bool, true, false, cond, List, [], ◌∷◌, ltb, take, drop, Float, Result, Ok, Err}
use Rattle.std.specs.Borrow.{Bor}
use Rattle.path.specs.declared.path_tpc.PathTpc.{PathTpc}
use Rattle.answer.specs.declared.Answer.{Answer}
use Rattle.answer.specs.declared.Refusal.{Refusal}
use Rattle.answer.specs.Answers.{done, refusal}
use Rattle.path.specs.declared.link_point.LinkPoint.{LinkPoint}
use Rattle.path.specs.Records.{Columns, link_point_at, path_of}
use Rattle.path.specs.Answers.{is_done, ask, in_turn}
use Rattle.path.specs.Sound.{path_answer, total, count_of}
use Rattle.path_link_records.specs.declared.link_records.Range.{Range}
use Rattle.path_link_records.specs.declared.link_records.RangeAnswer.{RangeAnswer}

-- an answer, and the part that is handed back with it
pub record Part : Type 0 where
  pub answer : Answer
  pub part : List Float

-- questions 1, 2 and 10: there is a k-th link
unfoldable pub part_answer : ℕ → PathTpc → Columns → Answer
part_answer k p c = in_turn (path_answer true p c ∷ ask 10 (ltb (k + 1) p.link_count) ∷ [])

-- where the records of link k lie in their column: three entries to a record, located by the summed counts
unfoldable pub range_of : (LinkPoint → ℕ) → ℕ → List LinkPoint → Range
range_of count k ps = record { from = 3 * total count (take k ps); len = 3 * count (link_point_at ps k) }

unfoldable pub part_of : (LinkPoint → ℕ) → ℕ → List LinkPoint → List Float → List Float
unfolding range_of
part_of count k ps column = take (range_of count k ps).len (drop (range_of count k ps).from column)

-- the column of a kind of records
abbrev pub column_of : Bool → Columns → List Float
column_of curves c = cond curves c.curves c.grades

-- a refused call hands an empty part back
abbrev pub handed_back : Answer → List Float → Part
handed_back a part = record { answer = a; part = cond (is_done a) part [] }

unfoldable pub link_grades_of : ℕ → PathTpc → Columns → Part
unfolding part_answer part_of
link_grades_of k p c = handed_back (part_answer k p c) (part_of (count_of false) k (path_of p c).links c.grades)

unfoldable pub link_curves_of : ℕ → PathTpc → Columns → Part
unfolding part_answer part_of
link_curves_of k p c = handed_back (part_answer k p c) (part_of (count_of true) k (path_of p c).links c.curves)

-- the records of a kind
abbrev pub link_records_of : Bool → ℕ → PathTpc → Columns → Part
link_records_of curves k p c = cond curves (link_curves_of k p c) (link_grades_of k p c)

-- a result as such a part
abbrev pub part_told : Result (Bor (List Float)) Refusal → Part
part_told (Ok entries) = record { answer = done; part = entries.now }
part_told (Err e) = record { answer = refusal e; part = [] }

-- a range as C is told it: nothing from 0 for a refusal
abbrev pub range_told : Result Range Refusal → RangeAnswer
range_told (Ok r) = record { answer = done; range = r }
range_told (Err e) = record { answer = refusal e; range = record { from = 0; len = 0 } }

-- the same as a range of the column of grades or curves; nothing from 0 for a refusal
unfoldable pub link_range_of : Bool → ℕ → PathTpc → Columns → RangeAnswer
unfolding part_answer range_of
link_range_of curves k p c =
    let a = part_answer k p c in
    record { answer = a; range = cond (is_done a) (range_of (count_of curves) k (path_of p c).links) (record { from = 0; len = 0 }) }
