-- `clear`: how many link points go, and the questions.
use Prim.Native.Nat.{ℕ, suc, ◌+◌, ◌-◌, ◌≤◌, ◌<◌}
use native.Mathlib.Omega.{arith}
use mathlib.Core.Path.{◌≡◌, refl, sym, ap, ap₂, ◌∙◌}
use mathlib.Core.Bool.{Bool, true, false, ◌&&◌, cond}
use mathlib.Core.List.{List, [], ◌∷◌}
use lib.Dec.{leb}
use lib.ListN.{length, get_or}
use lib.Ieee as Ieee
use lib.Ieee.{Float}
use lib.Ieee.Scale.{finite}
use Rattle.ieee.specs.Number.{+0}
use Rattle.path.specs.declared.path_tpc.PathTpc.{PathTpc}
use Rattle.answer.specs.declared.Answer.{Answer}
use Rattle.path.specs.declared.link_point.LinkPoint.{LinkPoint}
use Rattle.path.specs.Records.{Columns, offset_of, no_link_point, link_points, path_of}
use Rattle.path.specs.Answers.{ask}
use Rattle.path.specs.Sound.{sound, path_answer}
use Rattle.path.proofs.LinkPoints.{links_from, links-more, links-none, link_at, end-at}
use Rattle.path.proofs.InTurn.{turn-no, turn-yes, turn-done, first-no, first-yes, last_one, judged-done}
use Rattle.path.proofs.Clauses.{sound-within, some-link}
use Rattle.path_clear.specs.Clear.{count_before, drop_count, in_range, clear_answer}

-- ---- how many link points go
one_more : (b : Bool) (k m : ℕ) → k ≤ m → cond b (suc k) 0 ≤ suc m
one_more true k m h = omega arith
one_more false k m h = omega arith

module _ (x : Float) where
  count_most : (ps : List LinkPoint) → count_before x ps ≤ length ps
  unfolding count_before
  count_most [] = omega arith
  count_most (p ∷ ps) = one_more (Ieee.lt (offset_of p) x) (count_before x ps) (length ps) (count_most ps)

  -- one stays
  pub one-stays : (ps : List LinkPoint) → 0 < length ps → drop_count x ps < length ps
  one-stays [] h = absurd (omega arith)
  one-stays (p ∷ ps) h = omega (arith, count_most ps)

  module _ (os : List Float) (ns : List ℕ) (n : ℕ) where
    -- the points up to i, but for the first, and those from i on that lie before x are the answer
    abbrev pub Passed : ℕ → Type 0
    Passed i = (i - 1) + count_before x (links_from os ns n i) ≡ drop_count x (link_points n os ns)

    pub passed_first : 0 < n → Passed 1
    unfolding link_points
    passed_first h =
        let e : n ≡ suc (n - 1) = omega arith in
        omega (arith, ap (λ (k : ℕ). drop_count x (link_points k os ns)) e)

    module _ (i : ℕ) (passed : Passed i) where
      pub passed-more : 0 < i → i < n → Ieee.lt (get_or os i +0) x ≡ true → Passed (i + 1)
      unfolding count_before
      passed-more some h t =
          let e : count_before x (links_from os ns n i) ≡ suc (count_before x (links_from os ns n (i + 1))) = ap (count_before x) (links-more os ns n i h) ∙ rw t in
          omega arith

      pub passed-stop : i < n → Ieee.lt (get_or os i +0) x ≡ false → i - 1 ≡ drop_count x (link_points n os ns)
      unfolding count_before
      passed-stop h t =
          let e : count_before x (links_from os ns n i) ≡ 0 = ap (count_before x) (links-more os ns n i h) ∙ rw t in
          omega arith

      pub passed-all : n ≤ i → i - 1 ≡ drop_count x (link_points n os ns)
      unfolding count_before
      passed-all h =
          let e : count_before x (links_from os ns n i) ≡ 0 = ap (count_before x) (links-none os ns n i h) in
          omega arith

-- ---- the first and the last link point
pub range_at :
    (x : Float) (os : List Float) (ns : List ℕ) (n : ℕ) {first last : Float}
    → 0 < n
    → first ≡ get_or os 0 +0
    → last ≡ get_or os (n - 1) +0
    → (Ieee.le first x && Ieee.le x last) ≡ in_range x (link_points n os ns)
range_at x os ns n h e f =
    ap₂ (λ (a b : Float). Ieee.le a x && Ieee.le x b) (e ∙ ap offset_of (sym (link_at n os ns 0 no_link_point h))) (f ∙ ap offset_of (sym (end-at n os ns h)))

-- ---- the questions
module _ (x : Float) (p : PathTpc) (c : Columns) where
  -- question 10, and those after it and after question 2
  abbrev pub ranged : Bool
  ranged = in_range x (link_points p.link_count c.offsets c.numbers)

  abbrev after10 : List Answer
  after10 = ask 12 (leb 2 p.link_count) ∷ []

  abbrev after2 : List Answer
  after2 = ask 10 ranged ∷ after10

  -- r is the code's answer to questions 1 and 2
  module _ {r : Answer} (e : r ≡ path_answer (finite x) p c) where
    pub clear_first : (r.number ≡ 0 → ⊥) → clear_answer x p c ≡ r
    unfolding clear_answer path_of
    clear_first h = turn-no (path_answer (finite x) p c) after2 e h

    module _ (t : r.number ≡ 0) where
      pub links-there : 0 < p.link_count
      links-there = some-link p c (sound-within p c (judged-done (finite x) p c e t).2).0

      pub clear-10 : ranged ≡ false → clear_answer x p c ≡ ask 10 false
      unfolding clear_answer path_of
      clear-10 h = turn-yes (path_answer (finite x) p c) after2 e t ∙ first-no 9 after10 h

      pub clear-12 : ranged ≡ true → clear_answer x p c ≡ ask 12 (leb 2 p.link_count)
      unfolding clear_answer path_of
      clear-12 h = turn-yes (path_answer (finite x) p c) after2 e t ∙ first-yes 9 after10 h ∙ last_one 11 (leb 2 p.link_count)

  -- what a call that is not refused knows
  pub clear-done : {a : Answer} → a ≡ clear_answer x p c → a.number ≡ 0 → sound p c ≡ true
  unfolding clear_answer path_of
  clear-done e h =
      (judged-done (finite x) p c refl (turn-done (path_answer (finite x) p c) after2 (ap (λ (b : Answer). b.number) (sym e) ∙ h)).0).2
