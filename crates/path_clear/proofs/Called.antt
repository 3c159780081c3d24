-- `clear_each` as the code has it: every question in one walk over the link points, and the path cut where the trims end.
use Prim.Native.Nat.{ℕ, ◌<◌}
use native.Mathlib.Omega.{arith}
use mathlib.Core.Path.{◌≡◌, refl, sym, ap, ap₂, ◌∙◌, subst}
use mathlib.Core.Bool.{Bool, true, false, ◌&&◌, cond}
use mathlib.Core.List.{List, [], ◌∷◌}
use lib.Dec.{eqb}
use lib.ListN.{take}
use lib.Ieee.{Float}
use borrow.Author.Tests.{eq-eqb, ne_eqb, eqb-true, eqb-false}
use Rattle.std.specs.Prelude.{Result, Ok, Err}
use Rattle.std.specs.Result.{IsErrAnd}
use Rattle.path.specs.declared.path_tpc.PathTpc.{PathTpc}
use Rattle.answer.specs.declared.Answer.{Answer}
use Rattle.answer.specs.declared.Refusal.{Refusal}
use Rattle.answer.specs.Answers.{done, refusal}
use Rattle.path.specs.declared.link_point.LinkPoint.{LinkPoint}
use Rattle.path.specs.Records.{Columns, link_points, no_link_point, path_of}
use Rattle.path.specs.Answers.{is_done, ask, Outcome, left, changed}
use Rattle.path.specs.Sound.{path_finite, sound, path_answer, totals}
use Rattle.path.proofs.LinkPoints.{length-links}
use Rattle.path.proofs.InTurn.{judged-done, turn-none, path-place}
use Rattle.path.proofs.Clauses.{sound-within, some-link}
use Rattle.path.proofs.Told.{numbered}
use Rattle.path_clear.specs.Clear.{cleared_path, Cleared, done_left, trimmed_told, trimmed_left}
use Rattle.path_clear.specs.declared.clear.Trimmed.{Trimmed}
use Rattle.path_clear.proofs.Dropping.{clear_first}
use Rattle.path_clear.proofs.Trimmed.{refused, handed-trimmed}
use Rattle.path_clear.specs.TrimsByPoints.{Progress, got, going_of, first_finite, progress_of}
use Rattle.path_clear.specs.Trims.{trims_answer, list_answer, list_leaves, clear_each}
use Rattle.path_clear.proofs.Gone.{going-below}
use Rattle.path_clear.proofs.Each.{reached, found_first, follow-answer, leave-step, follow-leave}

-- ---- the questions, as the code puts them
module _ (xs : List Float) (p : PathTpc) (c : Columns) where
  abbrev links : List LinkPoint
  links = link_points p.link_count c.offsets c.numbers

  -- b is the code's answer to question 1 of the first offset, r that to questions 1 and 2
  module _ {b : Bool} (f : b ≡ first_finite xs) {r : Answer} (e : r ≡ path_answer b p c) where
    asked : r ≡ path_answer (first_finite xs) p c
    asked = e ∙ ap (λ (k : Bool). path_answer k p c) f

    progress-refused : (r.number ≡ 0 → ⊥) → progress_of xs p c ≡ record { gone = 0; answer = r }
    unfolding progress_of
    progress-refused h = rw (ne_eqb (path_answer (first_finite xs) p c).number 0 (λ z. h (ap (λ (a : Answer). a.number) asked ∙ z))) (ap (λ (a : Answer). record { gone = 0; answer = a }) (sym asked))

    progress-goes : r.number ≡ 0 → progress_of xs p c ≡ going_of 0 0 xs links
    unfolding progress_of
    progress-goes h = rw (eq-eqb (path_answer (first_finite xs) p c).number 0 (ap (λ (a : Answer). a.number) (sym asked) ∙ h))

    pub got-going : r.number ≡ 0 → (s : Result ℕ Refusal) → got s (going_of 0 0 xs links) → got s (progress_of xs p c)
    got-going h s k = subst (got s) (sym (progress-goes h)) k

    pub some-links : r.number ≡ 0 → 0 < p.link_count
    some-links t = some-link p c (sound-within p c (judged-done (first_finite xs) p c asked t).2).0

  -- a refusal of the path that `?` hands on
  pub got-first : {b : Bool} → b ≡ first_finite xs → (f : Refusal) → refusal f ≡ path_answer b p c → (s : Result ℕ Refusal) → IsErrAnd s (λ g. g ≡ f) → got s (progress_of xs p c)
  got-first o f e (Ok n) h = absurd h
  got-first o f e (Err g) h = ap (λ (k : Progress). k.answer) (progress-refused o e (numbered f.question)) ∙ ap refusal (sym h)

-- ---- questions 1 and 2
module _ (xs : List Float) (p : PathTpc) (c : Columns) where
  abbrev first : Answer
  first = path_answer (first_finite xs) p c

  first-no : (first.number ≡ 0 → ⊥) → progress_of xs p c ≡ record { gone = 0; answer = first }
  first-no h = progress-refused xs p c refl refl h

  first-yes : first.number ≡ 0 → progress_of xs p c ≡ going_of 0 0 xs (path_of p c).links
  unfolding path_of
  first-yes h = progress-goes xs p c refl refl h

  pub passed : (progress_of xs p c).answer.number ≡ 0 → first.number ≡ 0
  passed z = go (eqb first.number 0) refl
    where
      go : (b : Bool) → eqb first.number 0 ≡ b → first.number ≡ 0
      go true e = eqb-true first.number 0 e
      go false e = let n = eqb-false first.number 0 e in absurd (n (ap (λ (g : Progress). g.answer.number) (sym (first-no n)) ∙ z))

-- the first trim refused by question 1 or 2
first-trim : (x : Float) (xs : List Float) (p : PathTpc) (c : Columns) → ((first (x ∷ xs) p c).number ≡ 0 → ⊥) → trims_answer 0 (x ∷ xs) p c ≡ first (x ∷ xs) p c
unfolding trims_answer
first-trim x xs p c h =
    let a = first (x ∷ xs) p c in
    let here : record { number = a.number; place = 0 } ≡ a = ap (λ (k : ℕ). record { number = a.number; place = k }) (sym (path-place (first_finite (x ∷ xs)) p c)) in
    ap (λ (r : Cleared). cond (is_done r.outcome.answer.answer) (trims_answer 1 xs r.outcome.answer.path r.outcome.columns) (record { number = r.outcome.answer.answer.number; place = 0 }))
    (sym (refused x p c (sym (clear_first x p c refl h)) h))
    ∙ rw (ne_eqb a.number 0 h) here

-- ---- the answer
pub progress-answer : (xs : List Float) (p : PathTpc) (c : Columns) → (progress_of xs p c).answer ≡ list_answer xs p c
unfolding list_answer going_of path_answer
progress-answer xs p c = go (eqb (first xs p c).number 0) refl
  where
    no : (l : List Float) → ((first l p c).number ≡ 0 → ⊥) → first l p c ≡ list_answer l p c
    no [] h = refl
    no (x ∷ l) h = sym (first-trim x l p c h)

    yes : (l : List Float) → (first l p c).number ≡ 0 → (going_of 0 0 l (path_of p c).links).answer ≡ list_answer l p c
    yes [] h = sym (turn-none (ask 1 (path_finite p c && true) ∷ ask 2 (sound p c) ∷ []) h)
    yes (x ∷ l) h = let k = judged-done (first_finite (x ∷ l)) p c refl h in sym (follow-answer p c k.1 k.2 (x ∷ l) 0 0 (found_first p c k.1 k.2))

    go : (b : Bool) → eqb (first xs p c).number 0 ≡ b → (progress_of xs p c).answer ≡ list_answer xs p c
    go true e = let z = eqb-true (first xs p c).number 0 e in ap (λ (g : Progress). g.answer) (first-yes xs p c z) ∙ yes xs z
    go false e = let n = eqb-false (first xs p c).number 0 e in ap (λ (g : Progress). g.answer) (first-no xs p c n) ∙ no xs n

-- ---- what is left, where the code reads the columns as l
module _ (xs : List Float) (p : PathTpc) (c : Columns) where
  -- refused with f, which `?` hands on
  pub called-refused :
      (s : Result Trimmed Refusal) (f : Refusal) {l : Columns}
      → l ≡ c
      → (progress_of xs p l).answer ≡ refusal f
      → IsErrAnd s (λ g. g ≡ f)
      → trimmed_left (trimmed_told p s) c ≡ clear_each xs p c
  unfolding clear_each
  called-refused s f same e h =
      let answer-is : list_answer xs p c ≡ refusal f = sym (progress-answer xs p c) ∙ ap (λ (k : Columns). (progress_of xs p k).answer) (sym same) ∙ e in
      let n : (list_answer xs p c).number ≡ 0 → ⊥ = λ z. numbered f.question (ap (λ (a : Answer). a.number) (sym answer-is) ∙ z) in
      handed-trimmed p c s f h
      ∙ ap (λ (a : Answer). record { outcome = left (record { answer = a; path = p }) c; dropped = no_link_point }) (sym answer-is)
      ∙ sym (ap (λ (b : Bool). cond b (list_leaves xs p c) (record { outcome = left (record { answer = list_answer xs p c; path = p }) c; dropped = no_link_point })) (ne_eqb (list_answer xs p c).number 0 n))

  -- done: n link points go
  module _ {n : ℕ} {l : Columns} (same : l ≡ c) (read : progress_of xs p l ≡ record { gone = n; answer = done }) where
    e : progress_of xs p c ≡ record { gone = n; answer = done }
    e = ap (progress_of xs p) (sym same) ∙ read

    was-passed : (first xs p c).number ≡ 0
    was-passed = passed xs p c (ap (λ (h : Progress). h.answer.number) e)

    numbers : path_finite p c ≡ true
    numbers = (judged-done (first_finite xs) p c refl was-passed).1

    pub known : sound p c ≡ true
    known = (judged-done (first_finite xs) p c refl was-passed).2

    goes : record { gone = n; answer = done } ≡ going_of 0 0 xs (path_of p c).links
    goes = sym e ∙ first-yes xs p c was-passed

    pub gone-below : n < p.link_count
    unfolding path_of
    gone-below =
        let m = length-links p.link_count c.offsets c.numbers in
        let some = some-link p c (sound-within p c known).0 in
        omega (arith, ap (λ (h : Progress). h.gone) goes, going-below (path_of p c).links xs 0 0 (omega arith))

    leaves : (l : List Float) → (going_of 0 0 l (path_of p c).links).answer.number ≡ 0 → reached p c numbers known (going_of 0 0 l (path_of p c).links) ≡ list_leaves l p c
    unfolding list_leaves going_of cleared_path totals
    leaves [] z = refl
    leaves (x ∷ l) z = sym (leave-step p c numbers known x l (follow-leave p c numbers known l) 0 0 (found_first p c numbers known) z)

    pub called-done : {r : Trimmed} {m : Columns} → done_left r.path m ≡ changed c (cleared_path n (path_of p c)) → r.dropped ≡ totals (take n (path_of p c).links)
        → trimmed_left (trimmed_told p (Ok r)) m ≡ clear_each xs p c
    unfolding clear_each
    called-done cut f =
        let z : (list_answer xs p c).number ≡ 0 = ap (λ (a : Answer). a.number) (sym (progress-answer xs p c)) ∙ ap (λ (h : Progress). h.answer.number) e in
        rw (eq-eqb (list_answer xs p c).number 0 z)
        (ap₂ (λ (a : Outcome) (b : LinkPoint). record { outcome = a; dropped = b }) cut f
        ∙ ap (reached p c numbers known) goes
        ∙ leaves xs (ap (λ (h : Progress). h.answer.number) (sym goes)))
