-- What the functions below `clear_each` and the proofs need: the trims of a list told by the link points alone. No public contract cites it. Definitions only.
use Rattle.std.specs.Prelude.{ℕ, ◌+◌, Bool, true, cond, List, [], ◌∷◌, ◌≡◌, leb, length, drop, Float, Result, Ok, Err}
use Rattle.std.specs.Float.Ieee.Scale.{finite}
use Rattle.path.specs.declared.path_tpc.PathTpc.{PathTpc}
use Rattle.answer.specs.declared.Answer.{Answer}
use Rattle.answer.specs.declared.Refusal.{Refusal}
use Rattle.path.specs.declared.link_point.LinkPoint.{LinkPoint}
use Rattle.path.specs.Records.{Columns, link_points}
use Rattle.answer.specs.Answers.{done, refusal}
use Rattle.path.specs.Answers.{is_done, ask, in_turn}
use Rattle.path.specs.Sound.{path_answer}
use Rattle.path_clear.specs.Clear.{drop_count, in_range}

-- questions 1, 10 and 12 of a trim behind x, where these link points are left
unfoldable pub trim_answer : Float → List LinkPoint → Answer
trim_answer x ps = in_turn (ask 1 (finite x) ∷ ask 10 (in_range x ps) ∷ ask 12 (leb 2 (length ps)) ∷ [])

-- how far the trims of a list get: so many link points go, where none is refused; and the answer
pub record Progress : Type 0 where
  pub gone : ℕ
  pub answer : Answer

-- what a result says of that: the answer, and how many link points go where it is done
abbrev pub got : Result ℕ Refusal → Progress → Type 0
got (Ok n) g = g ≡ record { gone = n; answer = done }
got (Err e) g = g.answer ≡ refusal e

-- how far the trims get where d link points are gone and k trims are done: a refusal's place is its position
unfoldable pub going_of : ℕ → ℕ → List Float → List LinkPoint → Progress
unfolding trim_answer
going_of d k [] ps = record { gone = d; answer = done }
going_of d k (x ∷ xs) ps =
    let answer = trim_answer x (drop d ps) in
    cond (is_done answer) (going_of (d + drop_count x (drop d ps)) (k + 1) xs ps) (record { gone = d; answer = record { number = answer.number; place = k } })

-- the first offset of a list is finite; an empty list has none that is not
abbrev pub first_finite : List Float → Bool
first_finite [] = true
first_finite (x ∷ xs) = finite x

-- how far they get on a path: questions 1 and 2 come first
unfoldable pub progress_of : List Float → PathTpc → Columns → Progress
unfolding going_of
progress_of xs p c =
    let a = path_answer (first_finite xs) p c in
    cond (is_done a) (going_of 0 0 xs (link_points p.link_count c.offsets c.numbers)) (record { gone = 0; answer = a })
