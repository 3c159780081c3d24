-- `posted_speed`, R182: the speed posted at an offset of a path. Definitions only.
use Rattle.std.specs.Prelude.{Bool, cond, List, [], ◌∷◌, Float, Result, Ok, Err}
use Rattle.std.specs.Float.Ieee as Ieee
use Rattle.std.specs.Float.Ieee.Scale.{finite}
use Rattle.ieee.specs.Number.{+0}
use Rattle.speed.specs.Posted.{posted}
use Rattle.path.specs.declared.path_tpc.PathTpc.{PathTpc}
use Rattle.answer.specs.declared.Refusal.{Refusal}
use Rattle.answer.specs.declared.Answer.{Answer}
use Rattle.answer.specs.Answers.{done, refusal}
use Rattle.si.specs.declared.Velocity.{Velocity}
use Rattle.path.specs.declared.link_point.LinkPoint.{LinkPoint}
use Rattle.path.specs.Records.{Columns, offset_of, link_point_at, path_of}
use Rattle.path.specs.Answers.{is_done, ask, in_turn}
use Rattle.path.specs.Sound.{path_answer}
use Rattle.path_posted.specs.declared.posted_speed.PostedAnswer.{PostedAnswer}

-- question 10 (R113): not before the first link point
abbrev pub not_before : Float → List LinkPoint → Bool
not_before x ps = Ieee.le (offset_of (link_point_at ps 0)) x

-- questions 1, 2 and 10
unfoldable pub posted_answer : Float → PathTpc → Columns → Answer
posted_answer x p c = in_turn (path_answer (finite x) p c ∷ ask 10 (not_before x (path_of p c).links) ∷ [])

-- a speed as C is told it: +0 for a refusal
abbrev pub posted_told : Result Velocity Refusal → PostedAnswer
posted_told (Ok v) = record { answer = done; speed = v }
posted_told (Err e) = record { answer = refusal e; speed = record { 0 = +0 } }

-- the speed of the last speed point at or before x; +0 where the call is refused
unfoldable pub posted_of : Float → PathTpc → Columns → PostedAnswer
unfolding posted_answer
posted_of x p c =
    let a = posted_answer x p c in
    record { answer = a; speed = record { 0 = cond (is_done a) (posted x (path_of p c).speeds +0) +0 } }
