-- `clear`, R50 to R53: path_tpc.rs. Definitions only.
use Rattle.std.specs.Prelude.{ℕ, zero, suc, Bool, ◌&&◌, cond, List, [], ◌∷◌, leb, take, drop, Float, Result, Ok, Err}
use Rattle.std.specs.Float.Ieee as Ieee
use Rattle.std.specs.Float.Ieee.Scale.{finite}
use Rattle.speed.specs.Clear.{clear_points}
use Rattle.path.specs.declared.path_tpc.PathTpc.{PathTpc}
use Rattle.answer.specs.declared.Answer.{Answer}
use Rattle.answer.specs.declared.Refusal.{Refusal}
use Rattle.answer.specs.Answers.{done}
use Rattle.path.specs.declared.link_point.LinkPoint.{LinkPoint}
use Rattle.path.specs.Records.{Columns, Path, offset_of, grade_count_of, curve_count_of, power_count_of, no_link_point, link_point_at, end_point, path_of}
use Rattle.path.specs.Answers.{is_done, ask, in_turn, Outcome, left, told, outcome}
use Rattle.path.specs.Sound.{path_answer, totals}
use Rattle.path_clear.specs.declared.clear.Trimmed.{Trimmed}
use Rattle.path_clear.specs.declared.clear.ClearAnswer.{ClearAnswer}

-- how many of these link points lie before x, up to the first that does not
unfoldable pub count_before : Float → List LinkPoint → ℕ
count_before x [] = 0
count_before x (p ∷ ps) = cond (Ieee.lt (offset_of p) x) (suc (count_before x ps)) 0

-- R50: so many link points go; the first whose next one is not before x stays
abbrev pub drop_count : Float → List LinkPoint → ℕ
drop_count x ps = count_before x (drop 1 ps)

-- the path without its first d links; its beginning is the offset of link point d
unfoldable pub without_links : ℕ → Path → Path
without_links d path =
    let dropped = totals (take d path.links) in
    record {
      links = drop d path.links;
      grades = drop (grade_count_of dropped) path.grades;
      curves = drop (curve_count_of dropped) path.curves;
      speeds = clear_points path.speeds (offset_of (link_point_at path.links d));
      powers = drop (power_count_of dropped) path.powers;
      finished = path.finished;
    }

-- where no link goes nothing changes
unfoldable pub cleared_path : ℕ → Path → Path
unfolding without_links
cleared_path zero path = path
cleared_path (suc d) path = without_links (suc d) path

-- question 10 (R113): from the first to the last link point
abbrev pub in_range : Float → List LinkPoint → Bool
in_range x ps = Ieee.le (offset_of (link_point_at ps 0)) x && Ieee.le x (offset_of (end_point ps))

-- questions 1, 2, 10 and 12
unfoldable pub clear_answer : Float → PathTpc → Columns → Answer
clear_answer x p c =
    in_turn (
    path_answer (finite x) p c
    ∷ ask 10 (in_range x (path_of p c).links)
    ∷ ask 12 (leb 2 p.link_count)
    ∷ [])

-- what `clear` leaves, and the dropped counts (R53), as a link point with offset 0 and number 0
pub record Cleared : Type 0 where
  pub outcome : Outcome
  pub dropped : LinkPoint

-- what a change that is done leaves
abbrev pub done_left : PathTpc → Columns → Outcome
done_left p c = left (record { answer = done; path = p }) c

-- what C is told of a drop on the path p: a refused one has p as it came, and no counts
abbrev pub trimmed_told : PathTpc → Result Trimmed Refusal → ClearAnswer
trimmed_told p (Ok t) = record { outcome = told p (Ok t.path); dropped = t.dropped }
trimmed_told p (Err e) = record { outcome = told p (Err e); dropped = no_link_point }

-- .. and the columns with it
abbrev pub trimmed_left : ClearAnswer → Columns → Cleared
trimmed_left a c = record { outcome = left a.outcome c; dropped = a.dropped }

unfoldable pub clear_of : Float → PathTpc → Columns → Cleared
unfolding clear_answer cleared_path count_before
clear_of x p c =
    let path = path_of p c in
    let d = drop_count x path.links in
    let answer = clear_answer x p c in
    record {
      outcome = outcome answer p c (cleared_path d path);
      dropped = cond (is_done answer) (totals (take d path.links)) no_link_point;
    }
