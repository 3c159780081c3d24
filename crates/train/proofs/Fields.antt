-- The three link fields: question 8 among link points, and the questions of a position in turn, refused and done.
use Prim.Native.Nat.{◌<◌}
use native.Mathlib.Omega.{arith}
use mathlib.Core.Path.{◌≡◌, refl, sym, ap, ◌∙◌}
use mathlib.Core.Bool.{Bool, true, false, cond}
use mathlib.Core.List.{List, [], ◌∷◌}
use lib.Ieee.Scale.{finite}
use borrow.Author.Tests.{ne_eqb}
use Rattle.ieee.specs.Number.{◌⊖◌}
use Rattle.path.specs.declared.path_tpc.PathTpc.{PathTpc}
use Rattle.answer.specs.declared.Answer.{Answer}
use Rattle.answer.specs.declared.Refusal.{Refusal}
use Rattle.answer.specs.Answers.{done, refusal}
use Rattle.std.specs.Prelude.{Result, Ok, Err}
use Rattle.std.specs.Result.{IsErrAnd}
use Rattle.path.specs.declared.link_point.LinkPoint.{LinkPoint}
use Rattle.path.specs.Records.{Columns, offset_of, number_of, link_points, path_of}
use Rattle.path.specs.Answers.{is_done, ask}
use Rattle.path.specs.Sound.{path_answer}
use Rattle.path.proofs.InTurn.{turn-no, turn-yes, first-no, first-yes, last_one, judged-done}
use Rattle.path.proofs.Told.{numbered}
use Rattle.path.proofs.Clauses.{sound-within, some-link}
use Rattle.train.specs.declared.train_state.TrainState.{TrainState}
use Rattle.train.specs.declared.locate.LinkFields.{LinkFields}
use Rattle.train.specs.Position.{front_of, back_of, state_finite}
use Rattle.train.specs.declared.locate.Located.{Located}
use Rattle.train.specs.Locate.{state_told, placed, located_told, point_behind, offset_in_link_of, not_before_path, located_as_before, located_at, locate_answer, locate_of}

-- ---- a refusal that `?` hands on
pub handed-located : (s : TrainState) (r : Result LinkFields Refusal) (f : Refusal) → IsErrAnd r (λ g. g ≡ f) → located_told s r ≡ located_as_before s (refusal f)
handed-located s (Ok l) f h = absurd h
handed-located s (Err g) f h = ap (λ (k : Refusal). located_as_before s (refusal k)) h

-- ---- question 8, and the fields among these link points
module _ (s : TrainState) (ps : List LinkPoint) where
  -- what question 8 makes of its answer
  abbrev judged : Bool → Located
  judged b = cond b (located_at s ps) (located_as_before s (ask 8 false))

  abbrev among : Located
  among = judged (finite (offset_in_link_of s ps))

  -- front is the code's link point of the front, and b its answer to question 8
  module _ {front : LinkPoint} {b : Bool} (e : front ≡ point_behind (front_of s) ps) (f : b ≡ finite (front_of s ⊖ offset_of front)) where
    judged-is : {v : Bool} → b ≡ v → among ≡ judged v
    judged-is t = ap judged (ap (λ (p : LinkPoint). finite (front_of s ⊖ offset_of p)) (sym e) ∙ sym f ∙ t)

    pub among-refused : {a : Answer} → b ≡ false → a ≡ ask 8 b → located_as_before s a ≡ among
    among-refused t g = ap (located_as_before s) (g ∙ ap (ask 8) t) ∙ sym (judged-is t)

    pub among-done :
        {back : LinkPoint}
        → b ≡ true
        → back ≡ point_behind (back_of s) ps
        → ◌≡◌ {A = Located} (record { answer = done; link_idx_front = number_of front; link_idx_back = number_of back; offset_in_link = record { 0 = front_of s ⊖ offset_of front } }) among
    unfolding located_at
    among-done t g = cc (judged-is t, e, g)

-- ---- the questions
module _ (s : TrainState) (p : PathTpc) (c : Columns) where
  abbrev links : List LinkPoint
  links = link_points p.link_count c.offsets c.numbers

  -- those after question 10, and those after question 2
  abbrev after10 : List Answer
  after10 = ask 8 (finite (offset_in_link_of s links)) ∷ []

  abbrev after2 : List Answer
  after2 = ask 10 (not_before_path s links) ∷ after10

  -- what the questions' answer a makes of the fields
  abbrev answered : Answer → Located
  answered a = cond (is_done a) (located_at s links) (located_as_before s a)

  refused : {a : Answer} → locate_answer s p c ≡ a → (a.number ≡ 0 → ⊥) → locate_of s p c ≡ located_as_before s a
  unfolding locate_of path_of
  refused e h = ap answered e ∙ rw (ne_eqb _ 0 h)

  -- also is the code's answer to question 1 of the position, and first to questions 1 and 2 of the path
  module _ {also : Bool} {first : Answer} (g : also ≡ state_finite s) (e : first ≡ path_answer also p c) where
    first-is : first ≡ path_answer (state_finite s) p c
    first-is = e ∙ ap (λ (b : Bool). path_answer b p c) g

    pub locate-first : (first.number ≡ 0 → ⊥) → located_as_before s first ≡ locate_of s p c
    unfolding locate_answer path_of
    locate-first h = sym (refused (turn-no (path_answer (state_finite s) p c) after2 first-is h) h)

    module _ (t : first.number ≡ 0) where
      pub links-there : 0 < p.link_count
      links-there = some-link p c (sound-within p c (judged-done also p c e t).2).0

      -- b is the code's answer to question 10
      module _ {b : Bool} (f : b ≡ not_before_path s links) where
        pub locate-10 : {a : Answer} → b ≡ false → a ≡ ask 10 b → located_as_before s a ≡ locate_of s p c
        unfolding locate_answer path_of
        locate-10 v h =
            ap (located_as_before s) (h ∙ ap (ask 10) v) ∙ sym (refused (turn-yes (path_answer (state_finite s) p c) after2 first-is t ∙ first-no 9 after10 (sym f ∙ v)) (λ z. omega arith))

        pub locate-8 : {r : Located} → b ≡ true → r ≡ among s links → r ≡ locate_of s p c
        unfolding locate_of locate_answer path_of
        locate-8 v k =
            k
            ∙ go (finite (offset_in_link_of s links))
            ∙ sym (ap answered (turn-yes (path_answer (state_finite s) p c) after2 first-is t ∙ first-yes 9 after10 (sym f ∙ v) ∙ last_one 7 (finite (offset_in_link_of s links))))
          where
            go : (b : Bool) → judged s links b ≡ answered (ask 8 b)
            go true = refl
            go false = refl

-- ---- the record by value, where the call is refused with f
pub refused-state : (s : TrainState) (r : Result TrainState Refusal) (f : Refusal) → IsErrAnd r (λ g. g ≡ f) → (state_told s r).state ≡ s
refused-state s (Ok after) f h = absurd h
refused-state s (Err g) f h = refl

pub refused-placed : (s : TrainState) (p : PathTpc) (c : Columns) (f : Refusal) → refusal f ≡ (locate_of s p c).answer → placed s (locate_of s p c) ≡ s
unfolding locate_of located_at
refused-placed s p c f h = go (is_done (locate_answer s p c)) h
  where
    after : Bool → Located
    after b = cond b (located_at s (path_of p c).links) (located_as_before s (locate_answer s p c))

    go : (b : Bool) → refusal f ≡ (after b).answer → placed s (after b) ≡ s
    go true k = absurd (numbered f.question (ap (λ (a : Answer). a.number) k))
    go false k = refl
