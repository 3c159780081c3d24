-- `posted_speed`: its questions in turn, what they settle of the speed points, and what is handed back.
use Prim.Native.Nat.{◌*◌, ◌≤◌, ◌<◌}
use native.Mathlib.Omega.{arith}
use mathlib.Core.Path.{◌≡◌, refl, sym, ap, ◌∙◌}
use mathlib.Core.Bool.{Bool, true, cond}
use mathlib.Core.List.{List, [], ◌∷◌}
use lib.Dec.{T}
use lib.ListN.{length, get_or}
use lib.Ieee as Ieee
use lib.Ieee.{Float}
use lib.Ieee.Bits.{is_true}
use lib.Ieee.Scale.{finite}
use borrow.Author.Tests.{ne_eqb}
use Rattle.ieee.specs.Number.{+0}
use Rattle.ieee.proofs.Order.{eq→le, le_trans, of-true}
use Rattle.speed.specs.Points.{Point, offset_at}
use Rattle.speed.specs.Column.{points}
use Rattle.speed.specs.Posted.{posted, Sorted}
use Rattle.speed.proofs.PointColumn.{length-points}
use Rattle.path.specs.declared.path_tpc.PathTpc.{PathTpc}
use Rattle.std.specs.Prelude.{Result, Ok, Err}
use Rattle.std.specs.Result.{IsErrAnd}
use Rattle.si.specs.declared.Velocity.{Velocity}
use Rattle.answer.specs.declared.Refusal.{Refusal}
use Rattle.answer.specs.declared.Answer.{Answer}
use Rattle.answer.specs.Answers.{number, done, refusal}
use Rattle.path.proofs.Told.{numbered}
use Rattle.path.specs.declared.link_point.LinkPoint.{LinkPoint}
use Rattle.path.specs.Records.{Columns, offset_of, link_point_at, link_points, no_link_point, path_of}
use Rattle.path.specs.Answers.{is_done, ask}
use Rattle.path.specs.Sound.{sorted_from, sound, path_answer}
use Rattle.path.proofs.LinkPoints.{link_at}
use Rattle.path.proofs.InTurn.{turn-no, turn-yes, turn-done, first_done, last_one, judged-done}
use Rattle.path.proofs.Clauses.{sound_more, sound-within, some-link, some-records, room}
use Rattle.path.proofs.WrittenSound.{points-order, points-begin, clauses}
use Rattle.path_posted.specs.declared.posted_speed.PostedAnswer.{PostedAnswer}
use Rattle.path_posted.specs.Posted.{not_before, posted_answer, posted_told, posted_of}

module _ (x : Float) (p : PathTpc) (c : Columns) where
  abbrev links : List LinkPoint
  links = link_points p.link_count c.offsets c.numbers

  abbrev speeds : List Point
  speeds = points p.speed_count c.speeds

  abbrev tenth : List Answer
  tenth = ask 10 (not_before x links) ∷ []

  -- ---- the questions: also is the code's answer to question 1 of the offset, and first to questions 1 and 2 of the path
  module _ {also : Bool} {first : Answer} (g : also ≡ finite x) (e : first ≡ path_answer also p c) where
    first-is : first ≡ path_answer (finite x) p c
    first-is = e ∙ ap (λ (b : Bool). path_answer b p c) g

    pub posted-first : (first.number ≡ 0 → ⊥) → first ≡ posted_answer x p c
    unfolding posted_answer path_of
    posted-first h = sym (turn-no (path_answer (finite x) p c) tenth first-is h)

    pub posted-10 : {o : Float} {r : Answer} → first.number ≡ 0 → o ≡ get_or c.offsets 0 +0 → r ≡ ask 10 (Ieee.le o x) → r ≡ posted_answer x p c
    unfolding posted_answer path_of
    posted-10 t f k =
        let some = some-link p c (sound-within p c (judged-done also p c e t).2).0 in
        let begins = f ∙ ap offset_of (sym (link_at p.link_count c.offsets c.numbers 0 no_link_point some)) in
        k ∙ ap (λ (b : Float). ask 10 (Ieee.le b x)) begins ∙ sym (turn-yes (path_answer (finite x) p c) tenth first-is t ∙ last_one 9 (not_before x links))

  -- ---- what is handed back
  abbrev answered : Answer → Float → PostedAnswer
  answered a v = record { answer = a; speed = record { 0 = v } }

  pub no-speed : (s : Result Velocity Refusal) (f : Refusal) → refusal f ≡ posted_answer x p c → IsErrAnd s (λ g. g ≡ f) → posted_told s ≡ posted_of x p c
  unfolding posted_of path_of
  no-speed (Ok v) f e h = absurd h
  no-speed (Err g) f e h =
      ap (λ (k : Refusal). answered (refusal k) +0) h
      ∙ sym (ap (λ (b : Answer). answered b (cond (is_done b) (posted x speeds +0) +0)) (sym e) ∙ rw (ne_eqb (number f.question) 0 (numbered f.question)))

  -- the questions are answered with yes
  module _ (e : done ≡ posted_answer x p c) where
    pub speed-handed : {v : Velocity} → v.0 ≡ posted x speeds +0 → posted_told (Ok v) ≡ posted_of x p c
    unfolding posted_of path_of
    speed-handed k = ap (answered done) k ∙ ap (λ (b : Answer). answered b (cond (is_done b) (posted x speeds +0) +0)) e

    known : (sound p c ≡ true) × (not_before x links ≡ true)
    unfolding posted_answer path_of
    known =
        let turns = turn-done (path_answer (finite x) p c) tenth (ap (λ (b : Answer). b.number) (sym e)) in
        ((judged-done (finite x) p c refl turns.0).2, (first_done 9 [] (not_before x links) turns.1).0)

    in_order : sorted_from (offset_of (link_point_at links 0)) speeds ≡ true
    unfolding path_of
    in_order =
        let within = sound-within p c known.0 in
        (clauses (path_of p c) (sym (sound_more p c within.0 within.1) ∙ known.0)).order

    some-speed : 0 < p.speed_count
    some-speed = (some-records p c (sound-within p c known.0).0).2

    -- what the search by halves asks of the speed points
    pub searchable : (0 < p.speed_count) × ((2 * p.speed_count ≤ length c.speeds) × (Sorted speeds × (Ieee.le (offset_at speeds 0) x ≡ true)))
    searchable =
        let first = offset_of (link_point_at links 0) in
        let begin : T (Ieee.eq (offset_at speeds 0) first) = points-begin first speeds in_order (omega (arith, length-points p.speed_count c.speeds, some-speed)) in (
          some-speed,
          (
            (room p c (sound-within p c known.0).1).speeds,
            (points-order first speeds in_order, is_true (Ieee.le (offset_at speeds 0) x) (le_trans (offset_at speeds 0) first x (eq→le (offset_at speeds 0) first begin) (of-true known.1))),
          ),
        )
