-- A list of trims is one cut: the trims asked on the link points alone, and the path cut where they end.
use Prim.Native.Nat.{ℕ, zero, suc, ◌+◌, ◌<◌}
use native.Mathlib.Omega.{arith}
use mathlib.Core.Path.{◌≡◌, refl, sym, ap, ap₂, ◌∙◌}
use mathlib.Core.Bool.{Bool, true, false, cond}
use mathlib.Core.List.{List, [], ◌∷◌}
use lib.Dec.{leb}
use lib.ListN.{length, take, drop}
use lib.Ieee.{Float}
use lib.Ieee.Scale.{finite}
use borrow.Author.Tests.{eq-eqb, eqb-true, eqb-false}
use Rattle.path.specs.declared.path_tpc.PathTpc.{PathTpc}
use Rattle.answer.specs.declared.Answer.{Answer}
use Rattle.path.specs.declared.link_point.LinkPoint.{LinkPoint}
use Rattle.path.specs.Records.{Columns, no_link_point, Path, path_of, record_of, columns_of}
use Rattle.answer.specs.Answers.{done}
use Rattle.path.specs.Answers.{is_done, ask, in_turn, Outcome, left, changed}
use Rattle.path.specs.Sound.{one_of_each, path_finite, sound_path, sound, path_answer, totals}
use Rattle.path.proofs.InTurn.{turn-no, turn-yes, first-no, first-yes, judged-else, judged-2, outcome-changed}
use Rattle.path.proofs.ReadBack.{counted, read_back}
use Rattle.path.proofs.WrittenSound.{before}
use Rattle.path.proofs.Tidied.{Long, changed-long, written-long}
use Rattle.path_clear.specs.Clear.{drop_count, without_links, cleared_path, in_range, clear_answer, Cleared, clear_of}
use Rattle.path_clear.proofs.Trimmed.{refused}
use Rattle.path_clear.specs.TrimsByPoints.{Progress, trim_answer, going_of}
use Rattle.path_clear.specs.Trims.{trims_answer, both, trims_leave}
use Rattle.path_clear.proofs.WithoutLinks.{own-clear}
use Rattle.path_clear.proofs.StillSound.{lists-one, lists-sound, stays-trimmed}
use Rattle.path_clear.proofs.Twice.{both-totals, clear-twice}
use Rattle.path_clear.proofs.Gone.{trim-left, going_more, going-ends, going-first}

-- ---- the questions of a trim, once questions 1 and 2 of the path pass
module _ (x : Float) (p : PathTpc) (c : Columns) (f : path_finite p c ≡ true) (s : sound p c ≡ true) where
  abbrev asked10 : ℕ → List Answer
  asked10 n = ask 10 (in_range x (path_of p c).links) ∷ ask 12 (leb 2 n) ∷ []

  links-counted : length (path_of p c).links ≡ p.link_count
  unfolding record_of
  links-counted = ap (λ (q : PathTpc). q.link_count) (counted p c)

  clear-asks : clear_answer x p c ≡ trim_answer x (path_of p c).links
  unfolding clear_answer trim_answer
  clear-asks = go (finite x) refl
    where
      go : (b : Bool) → finite x ≡ b → clear_answer x p c ≡ trim_answer x (path_of p c).links
      go true e =
          turn-yes (path_answer (finite x) p c) (asked10 p.link_count) {r = done} (sym (judged-2 (finite x) p c e f ∙ ap (ask 2) s)) refl
          ∙ ap (λ (n : ℕ). in_turn (asked10 n)) (sym links-counted)
          ∙ sym (first-yes 0 (asked10 (length (path_of p c).links)) e)
      go false e =
          turn-no (path_answer (finite x) p c) (asked10 p.link_count) {r = ask 1 false} (sym (judged-else (finite x) p c e)) (λ h. omega arith)
          ∙ sym (first-no 0 (asked10 (length (path_of p c).links)) e)

-- ---- the answer of a list of trims, as what the first leaves decides it
abbrev decided : ℕ → List Float → Outcome → Answer
decided k xs o = cond (is_done o.answer.answer) (trims_answer (k + 1) xs o.answer.path o.columns) (record { number = o.answer.answer.number; place = k })

-- ---- a path without its first d links, as a trim finds it: q in the columns l
pub record Found (path : Path) (c : Columns) (d : ℕ) (q : PathTpc) (l : Columns) : Type 0 where
  pub numbers : path_finite q l ≡ true
  pub known : sound q l ≡ true
  pub is : path_of q l ≡ cleared_path d path
  pub long : Long l c

links-left : (d : ℕ) (path : Path) → (cleared_path d path).links ≡ drop d path.links
unfolding cleared_path without_links
links-left zero path = refl
links-left (suc d) path = refl

module _ (path : Path) (one : one_of_each (record_of path) ≡ true) (known : sound_path path ≡ true) (c : Columns) (x : Float) (d : ℕ) {q : PathTpc} {l : Columns} (at : Found path c d q l) where
  abbrev rest : List LinkPoint
  rest = drop d path.links

  rest-is : (path_of q l).links ≡ rest
  rest-is = ap (λ (y : Path). y.links) at.is ∙ links-left d path

  answer-is : clear_answer x q l ≡ trim_answer x rest
  answer-is = clear-asks x q l at.numbers at.known ∙ ap (trim_answer x) rest-is

  trim-refused : is_done (trim_answer x rest) ≡ false → clear_of x q l ≡ record { outcome = left (record { answer = trim_answer x rest; path = q }) l; dropped = no_link_point }
  trim-refused e =
      let n : (trim_answer x rest).number ≡ 0 → ⊥ = eqb-false (trim_answer x rest).number 0 e in
      sym (refused x q l (sym answer-is) n)

  trim-done : is_done (trim_answer x rest) ≡ true → clear_of x q l ≡ record { outcome = changed c (cleared_path (d + drop_count x rest) path); dropped = totals (take (drop_count x rest) rest) }
  unfolding clear_of
  trim-done e =
      let ps = (path_of q l).links in
      let done? : (trim_answer x rest).number ≡ 0 = eqb-true (trim_answer x rest).number 0 e in
      let z : (clear_answer x q l).number ≡ 0 = ap (λ (a : Answer). a.number) answer-is ∙ done? in
      let after = cleared_path (drop_count x ps) (path_of q l) in
      let cut : after ≡ cleared_path (d + drop_count x rest) path =
      ap₂ (λ (qs : List LinkPoint) (y : Path). cleared_path (drop_count x qs) y) rest-is at.is
      ∙ clear-twice path one known d (drop_count x rest) (omega (arith, trim-left x d path.links done?)) in
      ap₂ (λ (o : Outcome) (r : LinkPoint). record { outcome = o; dropped = r })
      (outcome-changed (clear_answer x q l) q l after z ∙ changed-long at.long after ∙ ap (changed c) cut)
      (ap (λ (b : Bool). cond b (totals (take (drop_count x ps) ps)) no_link_point) (eq-eqb (clear_answer x q l).number 0 z)
      ∙ ap (λ (qs : List LinkPoint). totals (take (drop_count x qs) qs)) rest-is)

  -- the trims after it
  module _ (xs : List Float) where
    answer-ends : (k : ℕ) → is_done (trim_answer x rest) ≡ false → trims_answer k (x ∷ xs) q l ≡ record { number = (trim_answer x rest).number; place = k }
    unfolding trims_answer
    answer-ends k e = ap (decided k xs) (ap (λ (r : Cleared). r.outcome) (trim-refused e)) ∙ rw e

    answer-more : (k : ℕ) → is_done (trim_answer x rest) ≡ true
        → trims_answer k (x ∷ xs) q l ≡ trims_answer (k + 1) xs (record_of (cleared_path (d + drop_count x rest) path)) (columns_of c (cleared_path (d + drop_count x rest) path))
    unfolding trims_answer changed
    answer-more k e = ap (decided k xs) (ap (λ (r : Cleared). r.outcome) (trim-done e))

    leave-more : (dropped : LinkPoint) → is_done (trim_answer x rest) ≡ true
        → trims_leave dropped (x ∷ xs) q l
        ≡ trims_leave (both dropped (totals (take (drop_count x rest) rest))) xs (record_of (cleared_path (d + drop_count x rest) path)) (columns_of c (cleared_path (d + drop_count x rest) path))
    unfolding trims_leave changed
    leave-more dropped e = ap (λ (r : Cleared). trims_leave (both dropped r.dropped) xs r.outcome.answer.path r.outcome.columns) (trim-done e)

-- ---- all of them
module _ (p : PathTpc) (c : Columns) (f : path_finite p c ≡ true) (s : sound p c ≡ true) where
  abbrev path : Path
  path = path_of p c

  abbrev ps : List LinkPoint
  ps = path.links

  -- what the trims leave that get so far
  abbrev pub reached : Progress → Cleared
  reached g = record { outcome = changed c (cleared_path g.gone path); dropped = totals (take g.gone ps) }

  found-next : (d : ℕ) → d + 1 < length ps → Found path c d (record_of (cleared_path d path)) (columns_of c (cleared_path d path))
  found-next d h =
      let stays = stays-trimmed p c f s d h in
      record { numbers = stays.0; known = stays.1; is = read_back c (cleared_path d path); long = written-long c (cleared_path d path) (own-clear d path h c (before p c f s)).1 }

  pub found_first : Found path c 0 p c
  unfolding cleared_path
  found_first = record { numbers = f; known = s; is = refl; long = record { offsets = refl; numbers = refl; grades = refl; curves = refl; speeds = refl; powers = refl; districts = refl } }

  pub follow-answer : (xs : List Float) (d k : ℕ) {q : PathTpc} {l : Columns} → Found path c d q l → trims_answer k xs q l ≡ (going_of d k xs ps).answer
  unfolding trims_answer going_of
  follow-answer [] d k at = refl
  follow-answer (x ∷ xs) d k {q} {l} at = go (is_done (trim_answer x (drop d ps))) refl (λ h. follow-answer xs (d + drop_count x (drop d ps)) (k + 1) (found-next (d + drop_count x (drop d ps)) h))
    where
      m : ℕ
      m = d + drop_count x (drop d ps)

      go : (b : Bool) → is_done (trim_answer x (drop d ps)) ≡ b
          → (m + 1 < length ps → trims_answer (k + 1) xs (record_of (cleared_path m path)) (columns_of c (cleared_path m path)) ≡ (going_of m (k + 1) xs ps).answer)
          → trims_answer k (x ∷ xs) q l ≡ (going_of d k (x ∷ xs) ps).answer
      go true e i =
          answer-more path (lists-one p c f s) (lists-sound p c f s) c x d at xs k e
          ∙ i (trim-left x d ps (eqb-true (trim_answer x (drop d ps)).number 0 e))
          ∙ ap (λ (g : Progress). g.answer) (sym (going_more ps d k x xs e))
      go false e i =
          answer-ends path (lists-one p c f s) (lists-sound p c f s) c x d at xs k e
          ∙ ap (λ (g : Progress). g.answer) (sym (going-ends ps d k x xs e))

  -- what the trims xs leave of the path without its first d links
  abbrev Leaves : List Float → Type 0
  Leaves xs = (d k : ℕ) → d + 1 < length ps → (going_of d k xs ps).answer.number ≡ 0 → trims_leave (totals (take d ps)) xs (record_of (cleared_path d path)) (columns_of c (cleared_path d path)) ≡ reached (going_of d k xs ps)

  pub leave-step : (x : Float) (xs : List Float) → Leaves xs → (d k : ℕ) {q : PathTpc} {l : Columns} → Found path c d q l → (going_of d k (x ∷ xs) ps).answer.number ≡ 0
      → trims_leave (totals (take d ps)) (x ∷ xs) q l ≡ reached (going_of d k (x ∷ xs) ps)
  leave-step x xs more d k at z =
      let m = d + drop_count x (drop d ps) in
      let e = going-first ps d k x xs z in
      let next = going_more ps d k x xs e in
      leave-more path (lists-one p c f s) (lists-sound p c f s) c x d at xs (totals (take d ps)) e
      ∙ ap (λ (r : LinkPoint). trims_leave r xs (record_of (cleared_path m path)) (columns_of c (cleared_path m path))) (both-totals d (drop_count x (drop d ps)) ps)
      ∙ more m (k + 1) (trim-left x d ps (eqb-true (trim_answer x (drop d ps)).number 0 e)) (ap (λ (g : Progress). g.answer.number) (sym next) ∙ z)
      ∙ ap reached (sym next)

  pub follow-leave : (xs : List Float) → Leaves xs
  unfolding trims_leave going_of changed
  follow-leave [] d k h z = refl
  follow-leave (x ∷ xs) d k h z = leave-step x xs (follow-leave xs) d k (found-next d h) z
