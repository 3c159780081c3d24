-- The calls other than `extend` do to link points and speed points what the book does to its ends and points.
use Prim.Native.Nat.{ℕ, zero, suc, ◌<◌}
use native.Mathlib.Nat.{add-zero}
use native.Mathlib.Omega.{arith}
use mathlib.Core.Path.{◌≡◌, refl, sym, ap, ap₂, ◌∙◌}
use mathlib.Core.Bool.{Bool, true, false, cond}
use mathlib.Core.List.{List, [], ◌∷◌, map}
use lib.ListN.{length, drop, length-drop}
use lib.Seq.{get_or-drop}
use lib.Ieee as Ieee
use lib.Ieee.{Float}
use Rattle.ieee.proofs.Sum.{finite-real}
use Rattle.speed.specs.Clear.{clear_points}
use Rattle.speed_laws.proofs.Clear.{clear-same}
use Rattle.link.specs.declared.train_params.TrainParams.{TrainParams}
use Rattle.path.specs.declared.link_point.LinkPoint.{LinkPoint}
use Rattle.path.specs.Records.{Path, offset_of, link_point_at}
use Rattle.path_ends.specs.New.{new_path}
use Rattle.path_ends.specs.Finish.{finished_path}
use Rattle.path_clear.specs.Clear.{count_before, drop_count, without_links, cleared_path}
use Rattle.path_reindex.specs.Reindex.{reindexed_path}
use Rattle.book.specs.Book.{Book, new_book, first_end, drop_ends_from, drop_ends, drop_behind}
use Rattle.book.specs.Claims.{Claims}
use Rattle.book.proofs.Matching.{Matched}
use Rattle.book.proofs.Ends.{first-offset}
use Rattle.book.proofs.LinkEnds.{end-offset, same_count}
use Rattle.path_reindex.proofs.Renumbered.{same-offsets}

-- ---- the links that `clear` drops are the ends that the book drops

drop-step : (t : Bool) (p q : LinkPoint) (qs : List LinkPoint) (k : ℕ) (es : List Float) → map offset_of (drop k (q ∷ qs)) ≡ es → map offset_of (drop (cond t (suc k) 0) (p ∷ q ∷ qs)) ≡ cond t es (offset_of p ∷ offset_of q ∷ map offset_of qs)
drop-step true p q qs k es h = h
drop-step false p q qs k es h = refl

drop-from : (x : Float) (p : LinkPoint) (qs : List LinkPoint) → map offset_of (drop (count_before x qs) (p ∷ qs)) ≡ drop_ends_from x (offset_of p) (map offset_of qs)
unfolding count_before drop_ends_from
drop-from x p [] = refl
drop-from x p (q ∷ qs) = drop-step (Ieee.lt (offset_of q) x) p q qs (count_before x qs) (drop_ends_from x (offset_of q) (map offset_of qs)) (drop-from x q qs)

pub ends-drop : (x : Float) (ps : List LinkPoint) → map offset_of (drop (drop_count x ps) ps) ≡ drop_ends x (map offset_of ps)
unfolding drop_ends count_before
ends-drop x [] = refl
ends-drop x (p ∷ ps) = drop-from x p ps

-- a link point stays
count_most : (x : Float) (ps : List LinkPoint) → count_before x ps < suc (length ps)
unfolding count_before
count_most x [] = omega arith
count_most x (p ∷ ps) = pick (Ieee.lt (offset_of p) x) (count_most x ps)
  where
    pick : (t : Bool) → count_before x ps < suc (length ps) → cond t (suc (count_before x ps)) 0 < suc (suc (length ps))
    pick true h = omega (arith, h)
    pick false h = omega arith

pub drop-less : (x : Float) (ps : List LinkPoint) → 0 < length ps → drop_count x ps < length ps
drop-less x [] h = absurd (omega (arith, h))
drop-less x (p ∷ ps) h = count_most x ps

-- ---- `clear`

-- so many links go
module _ (train : TrainParams) (x : Float) (path : Path) (b : Book) (c : Claims train b) (m : Matched path b) where
  kept-ends : (d : ℕ) → drop_count x path.links ≡ d → map offset_of (drop d path.links) ≡ drop_ends x b.ends
  kept-ends d e = ap (λ (k : ℕ). map offset_of (drop k path.links)) (sym e) ∙ ends-drop x path.links ∙ ap (drop_ends x) m.links

  -- none
  nothing-goes : drop_count x path.links ≡ 0 → Matched path (drop_behind x b)
  unfolding drop_behind
  nothing-goes e =
      let same : b.ends ≡ drop_ends x b.ends = sym m.links ∙ kept-ends 0 e in
      let stay : clear_points b.points (first_end b.ends) ≡ b.points =
      clear-same b.points (first_end b.ends) c.starts (finite-real (first_end b.ends) (first-offset b.ends c.some_end c.ends-good).is_finite) in
      record { links = m.links ∙ same; points = m.points ∙ sym stay ∙ ap (λ (es : List Float). clear_points b.points (first_end es)) same }

  -- some
  links-go : (d : ℕ) → drop_count x path.links ≡ d → Matched (without_links d path) (drop_behind x b)
  unfolding drop_behind without_links
  links-go d e =
      let less : d < length path.links = omega (arith, e, drop-less x path.links (omega (arith, same_count path.links b.ends m.links, c.some_end))) in
      let ends = kept-ends d e in
      let first : offset_of (link_point_at path.links d) ≡ first_end (drop_ends x b.ends) =
      sym (end-offset (drop d path.links) 0 (omega (arith, less, length-drop d path.links)) ∙ ap offset_of (get_or-drop d path.links 0 _) ∙ ap (λ (k : ℕ). offset_of (link_point_at path.links k)) (add-zero d))
      ∙ ap first_end ends in
      record { links = ends; points = ap₂ clear_points m.points first }

  pub clear-matched : Matched (cleared_path (drop_count x path.links) path) (drop_behind x b)
  clear-matched = pick (drop_count x path.links) refl
    where
      pick : (d : ℕ) → drop_count x path.links ≡ d → Matched (cleared_path d path) (drop_behind x b)
      pick zero e = unfold cleared_path in nothing-goes e
      pick (suc d) e = unfold cleared_path in links-go (suc d) e

-- ---- `reindex`, `finish` and `new`

pub reindex-matched : (new : List ℕ) (path : Path) (b : Book) → Matched path b → Matched (reindexed_path new path) b
unfolding reindexed_path
reindex-matched new path b m = record { links = same-offsets new path.links ∙ m.links; points = m.points }

pub finish-matched : (path : Path) (b : Book) → Matched path b → Matched (finished_path path) b
unfolding finished_path
finish-matched path b m = record { links = m.links; points = m.points }

pub new-matched : (train : TrainParams) → Matched (new_path train) (new_book train)
unfolding new_path
new-matched train = record { links = refl; points = refl }
