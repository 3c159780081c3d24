-- `reindex`, R57: path_tpc.rs. Definitions only.
use Rattle.std.specs.Prelude.{ℕ, Bool, true, not, ◌&&◌, List, [], ◌∷◌, map, eqb, ltb, length, get_or}
use Rattle.link.specs.Lists.{first_no}
use Rattle.path.specs.declared.path_tpc.PathTpc.{PathTpc}
use Rattle.answer.specs.declared.Answer.{Answer}
use Rattle.path.specs.declared.link_point.LinkPoint.{LinkPoint}
use Rattle.path.specs.Records.{Columns, Path, link_point, offset_of, grade_count_of, curve_count_of, power_count_of, number_of, beginnings, path_of}
use Rattle.path.specs.Answers.{ask_each, in_turn, Outcome, outcome}
use Rattle.path.specs.Sound.{path_answer}

-- the new number of link n
abbrev pub new_number : List ℕ → ℕ → ℕ
new_number new n = get_or new n 0

-- question 4 (R107): the list of new numbers reaches to n, and its number is not 0
unfoldable pub renumbers : List ℕ → ℕ → Bool
renumbers new n = ltb n (length new) && not (eqb (new_number new n) 0)

abbrev pub with_number : ℕ → LinkPoint → LinkPoint
with_number n p = link_point (offset_of p) (grade_count_of p) (curve_count_of p) (power_count_of p) n

-- R57: the end point gets the last link's number; `last` is the new number of the link before these points
unfoldable pub renumbered_from : ℕ → List ℕ → LinkPoint → List LinkPoint → List LinkPoint
renumbered_from last new p [] = with_number last p ∷ []
renumbered_from last new p (q ∷ qs) = with_number (new_number new (number_of p)) p ∷ renumbered_from (new_number new (number_of p)) new q qs

-- a path without links keeps its one point
unfoldable pub renumbered : List ℕ → List LinkPoint → List LinkPoint
unfolding renumbered_from
renumbered new [] = []
renumbered new (p ∷ ps) = renumbered_from (number_of p) new p ps

unfoldable pub reindexed_path : List ℕ → Path → Path
unfolding renumbered
reindexed_path new path =
    record {
      links = renumbered new path.links;
      grades = path.grades;
      curves = path.curves;
      speeds = path.speeds;
      powers = path.powers;
      finished = path.finished;
    }

-- questions 1, 2 and 4
unfoldable pub reindex_answer : List ℕ → PathTpc → Columns → Answer
unfolding renumbers
reindex_answer new p c = in_turn (path_answer true p c ∷ ask_each 4 (first_no (map (renumbers new) (map number_of (beginnings (path_of p c).links)))) ∷ [])

unfoldable pub reindex_of : List ℕ → PathTpc → Columns → Outcome
unfolding reindex_answer reindexed_path
reindex_of new p c = outcome (reindex_answer new p c) p c (reindexed_path new (path_of p c))
