-- `reindex` leaves a path finite and sound.
use Prim.Native.Nat.{ℕ, zero, suc, ◌-◌}
use native.Mathlib.Omega.{arith}
use mathlib.Core.Path.{◌≡◌, refl, sym, ap, ap₂, ◌∙◌}
use mathlib.Core.Bool.{Bool, true, not, ◌&&◌}
use mathlib.Core.List.{List, [], ◌∷◌, map}
use lib.Dec.{eqb, ltb}
use lib.ListN.{length, take}
use Rattle.link.specs.declared.train_params.TrainParams.{TrainParams}
use Rattle.link.specs.Lists.{every, first_no}
use Rattle.link.proofs.Known.{and_both, none-fails}
use Rattle.path.specs.declared.path_tpc.PathTpc.{PathTpc}
use Rattle.path.specs.declared.link_point.LinkPoint.{LinkPoint}
use Rattle.path.specs.Records.{Columns, grade_count_of, curve_count_of, power_count_of, number_of, link_point_at, end_point, beginnings, Path, path_of, record_of}
use Rattle.path.specs.Answers.{ask_each}
use Rattle.path.specs.Sound.{path_answer, total, closed_at_infinity, end_counts_zero, all_numbered, numbers_real}
use Rattle.path.proofs.InTurn.{turn-done, judged-done, each-done}
use Rattle.path_reindex.specs.Reindex.{new_number, renumbers, with_number, renumbered_from, renumbered, reindexed_path, reindex_answer}
use Rattle.book.specs.Book.{Book}
use Rattle.book.specs.Claims.{Claims}
use Rattle.book.proofs.Matching.{Matched, Grounded}
use Rattle.path.proofs.Lasts.{real-many}
use Rattle.path.proofs.WrittenSound.{Own, Stays, NoMore, fewer-within, before}
use Rattle.book.proofs.Staying.{stays}
use Rattle.path_reindex.proofs.Renumbered.{length-renumbered}

-- ---- a count that the number does not change
module _ (count : LinkPoint → ℕ) (same : (n : ℕ) (p : LinkPoint) → count (with_number n p) ≡ count p) where
  total-from : (last : ℕ) (new : List ℕ) (p : LinkPoint) (ps : List LinkPoint) → total count (renumbered_from last new p ps) ≡ total count (p ∷ ps)
  unfolding renumbered_from total
  total-from last new p [] = omega (arith, same last p)
  total-from last new p (q ∷ qs) = omega (arith, same (new_number new (number_of p)) p, total-from (new_number new (number_of p)) new q qs)

  pub total-renumbered : (new : List ℕ) (ps : List LinkPoint) → total count (renumbered new ps) ≡ total count ps
  unfolding renumbered
  total-renumbered new [] = refl
  total-renumbered new (p ∷ ps) = total-from (number_of p) new p ps

  count-from : (last : ℕ) (new : List ℕ) (p : LinkPoint) (ps : List LinkPoint) (k : ℕ) → count (link_point_at (renumbered_from last new p ps) k) ≡ count (link_point_at (p ∷ ps) k)
  unfolding renumbered_from
  count-from last new p [] zero = same last p
  count-from last new p [] (suc k) = refl
  count-from last new p (q ∷ qs) zero = same (new_number new (number_of p)) p
  count-from last new p (q ∷ qs) (suc k) = count-from (new_number new (number_of p)) new q qs k

  pub end-renumbered : (new : List ℕ) (ps : List LinkPoint) → count (end_point (renumbered new ps)) ≡ count (end_point ps)
  unfolding renumbered
  end-renumbered new [] = refl
  end-renumbered new (p ∷ ps) =
      ap (λ (k : ℕ). count (link_point_at (renumbered_from (number_of p) new p ps) (k - 1))) (length-renumbered new (p ∷ ps)) ∙ count-from (number_of p) new p ps (suc (length ps) - 1)

-- ---- the numbers

-- the end point has the number before it
end-alike : (last : ℕ) (new : List ℕ) (p q : LinkPoint) (qs : List LinkPoint)
    → number_of (link_point_at (renumbered_from last new p (q ∷ qs)) (suc (length qs))) ≡ number_of (link_point_at (renumbered_from last new p (q ∷ qs)) (length qs))
unfolding renumbered_from
end-alike last new p q [] = refl
end-alike last new p q (r ∷ rs) = end-alike (new_number new (number_of p)) new q r rs

begins-next : (p q : LinkPoint) (qs : List LinkPoint) → beginnings (p ∷ q ∷ qs) ≡ p ∷ beginnings (q ∷ qs)
begins-next p q qs =
    let e : length (p ∷ q ∷ qs) - 1 ≡ suc (length (q ∷ qs) - 1) = omega arith in
    ap (λ (k : ℕ). take k (p ∷ q ∷ qs)) e

-- `last` is not 0
numbered-from : (last : ℕ) (new : List ℕ) (p : LinkPoint) (ps : List LinkPoint) → not (eqb last 0) ≡ true → every (renumbers new) (map number_of (beginnings (p ∷ ps))) ≡ true
    → all_numbered (renumbered_from last new p ps) ≡ true
unfolding renumbered_from every renumbers
numbered-from last new p [] l e = ap (λ (b : Bool). b && true) l
numbered-from last new p (q ∷ qs) l e =
    let t = and_both (renumbers new (number_of p)) _ (sym (ap (λ (bs : List LinkPoint). every (renumbers new) (map number_of bs)) (begins-next p q qs)) ∙ e) in
    let n = (and_both (ltb (number_of p) (length new)) (not (eqb (new_number new (number_of p)) 0)) t.0).1 in
    ap₂ ◌&&◌ n (numbered-from (new_number new (number_of p)) new q qs n t.1)

numbers-renumbered : (new : List ℕ) (ps : List LinkPoint) → every (renumbers new) (map number_of (beginnings ps)) ≡ true → numbers_real ps ≡ true → numbers_real (renumbered new ps) ≡ true
unfolding renumbered
numbers-renumbered new [] h e = e
numbers-renumbered new (p ∷ []) h e = unfold renumbered_from numbers_real in e
numbers-renumbered new (p ∷ q ∷ qs) h e =
    real-many (renumbered_from (number_of p) new p (q ∷ qs)) (length qs) (length-renumbered new (p ∷ q ∷ qs)) (unfold renumbered_from in numbered-from 1 new p (q ∷ qs) refl h) (end-alike (number_of p) new p q qs)

-- ---- the path
own-reindex : (new : List ℕ) (path : Path) → every (renumbers new) (map number_of (beginnings path.links)) ≡ true → Own path → Own (reindexed_path new path)
unfolding reindexed_path closed_at_infinity end_counts_zero
own-reindex new path h own =
    record {
      powers-counted = total-renumbered power_count_of (λ n p. refl) new path.links ∙ own.powers-counted;
      closed = own.closed;
      end-zero =
          rw (
            end-renumbered grade_count_of (λ n p. refl) new path.links,
            end-renumbered curve_count_of (λ n p. refl) new path.links,
            end-renumbered power_count_of (λ n p. refl) new path.links,
          ) own.end-zero;
      numbers = numbers-renumbered new path.links h own.numbers;
      grades-finite = own.grades-finite;
      curves-finite = own.curves-finite;
      powers-finite = own.powers-finite;
    }

as_many : (new : List ℕ) (path : Path) → NoMore (record_of (reindexed_path new path)) (record_of path)
unfolding reindexed_path record_of
as_many new path = record { links = omega (arith, length-renumbered new path.links); grades = omega arith; curves = omega arith; speeds = omega arith; powers = omega arith }

pub stays-reindex : (train : TrainParams) (b : Book) (new : List ℕ) (p : PathTpc) (c : Columns) → (reindex_answer new p c).number ≡ 0
    → Claims train b → Matched (reindexed_path new (path_of p c)) b → Grounded (reindexed_path new (path_of p c)) b → Stays c (reindexed_path new (path_of p c))
unfolding reindex_answer
stays-reindex train b new p c e claims matched grounded =
    let path = path_of p c in
    let old = map number_of (beginnings path.links) in
    let fourth = ask_each 4 (first_no (map (renumbers new) old)) in
    let two = turn-done (path_answer true p c) (fourth ∷ []) e in
    let good = judged-done true p c refl two.0 in
    let four = none-fails (renumbers new) old (each-done 3 (first_no (map (renumbers new) old)) (turn-done fourth [] two.1).0) in
    let was = before p c good.1 good.2 in
    stays train b (reindexed_path new path) claims matched grounded (own-reindex new path four was.own) c
    (fewer-within (record_of (reindexed_path new path)) (record_of path) c (as_many new path) was.within)
