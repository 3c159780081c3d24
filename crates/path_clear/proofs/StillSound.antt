-- A path that passes questions 1 and 2 passes them without its first links, as long as two link points are left.
use Prim.Native.Nat.{ℕ, zero, suc, ◌+◌, ◌<◌}
use native.Mathlib.Omega.{arith}
use mathlib.Core.Path.{◌≡◌, sym, ap, ap₂, ◌∙◌}
use mathlib.Core.Bool.{true, false, ◌&&◌}
use lib.Dec.{T, leb}
use lib.ListN.{length, drop, length-drop}
use lib.Ieee as Ieee
use lib.Ieee.{Float}
use borrow.Author.Tests.{leb-true}
use Rattle.ieee.proofs.Order.{lt→le, eq→le, le_trans}
use Rattle.ieee.proofs.Sum.{finite-real}
use Rattle.speed.specs.Points.{offset_at}
use Rattle.speed.specs.Clear.{clear_points}
use Rattle.speed.specs.Posted.{Sorted}
use Rattle.speed_laws.specs.Words.{Finite}
use Rattle.speed_laws.proofs.Clear.{clear-order, clear-begins, clear-some, clear-every}
use Rattle.link.proofs.Known.{and_both}
use Rattle.path.specs.declared.path_tpc.PathTpc.{PathTpc}
use Rattle.path.specs.declared.link_point.LinkPoint.{LinkPoint}
use Rattle.path.specs.Records.{Columns, offset_of, grade_count_of, curve_count_of, link_point_at, Path, path_of, record_of}
use Rattle.path.specs.Sound.{path_finite, one_of_each, within_bounds, totals, counts_add_up, links_sound, sorted_from, count_of, sound_path, sound}
use Rattle.path.proofs.Clauses.{sound_more, sound-within}
use Rattle.path.proofs.ReadBack.{counted}
use Rattle.path.proofs.Written.{FinitePath, read-finite, written-finite, written-sound}
use Rattle.path.proofs.Lasts.{total-split}
use Rattle.path.proofs.WrittenSound.{Stays, Before, before, in-order-from, points-order, points-begin, clauses, add-up, one_each}
use Rattle.path_clear.specs.Clear.{without_links, cleared_path}
use Rattle.path_clear.proofs.WithoutLinks.{goes, stay-grades, stay-curves, own-without, own-clear}
use Rattle.path_clear.proofs.Rising.{rise-drop, after_first, point-drop, offset-finite, offsets-drop, points-finite, points-every, first-drop}

some-speed : (path : Path) → one_of_each (record_of path) ≡ true → 0 < length path.speeds
unfolding one_of_each record_of
some-speed path e =
    let g = (and_both (leb 1 (length path.links)) _ e).1 in
    let k = (and_both (leb 1 (length path.grades)) _ g).1 in
    leb-true 1 (length path.speeds) (and_both (leb 1 (length path.curves)) (leb 1 (length path.speeds)) k).1

-- ---- the speed points, where link point d is kept as the first
module _ (path : Path) (one : one_of_each (record_of path) ≡ true) (known : sound_path path ≡ true) where
  abbrev begins : ℕ → Float
  begins k = offset_of (link_point_at path.links k)

  pub in_order : Sorted path.speeds
  in_order = points-order (begins 0) path.speeds (clauses path known).order

  pub not_after : (d : ℕ) → suc d < length path.links → T (Ieee.le (offset_at path.speeds 0) (begins (suc d)))
  not_after d h =
      le_trans (offset_at path.speeds 0) (begins 0) (begins (suc d))
      (eq→le (offset_at path.speeds 0) (begins 0) (points-begin (begins 0) path.speeds (clauses path known).order (some-speed path one)))
      (lt→le (begins 0) (begins (suc d)) (after_first d path.links (clauses path known).rise h))

-- ---- the path without its first links
module _ (d : ℕ) (path : Path) (h : suc d + 1 < length path.links) (c : Columns) (was : Before path c) (fine : FinitePath path) (one : one_of_each (record_of path) ≡ true) (known : sound_path path ≡ true) where
  abbrev after : Path
  after = without_links (suc d) path

  abbrev X : Float
  X = offset_of (link_point_at path.links (suc d))

  X-finite : Finite X
  X-finite = offset-finite (suc d) path.links fine.offsets (omega arith)

  abbrev ordered : Sorted path.speeds
  ordered = in_order path one known

  abbrev behind : T (Ieee.le (offset_at path.speeds 0) X)
  behind = not_after path one known d (omega arith)

  after-finite : FinitePath after
  unfolding without_links totals
  after-finite =
      let own = own-without (suc d) path h c was in
      record {
        offsets = offsets-drop (suc d) path.links fine.offsets;
        grades = own.grades-finite;
        curves = own.curves-finite;
        speeds = points-finite Finite (λ o f. f) (clear_points path.speeds X) (clear-every path.speeds X ordered behind Finite Finite X-finite (points-every path.speeds fine.speeds));
        powers = own.powers-finite;
      }

  after-links : 0 < length (drop (suc d) path.links)
  after-links = omega (arith, length-drop (suc d) path.links)

  after_one : one_of_each (record_of after) ≡ true
  unfolding without_links totals
  after_one =
      one_each after after-links
      (omega (arith, stay-grades (suc d) path h c was, length-drop (goes (suc d) path h c was grade_count_of) path.grades))
      (omega (arith, stay-curves (suc d) path h c was, length-drop (goes (suc d) path h c was curve_count_of) path.curves))
      (clear-some path.speeds X ordered behind)

  after-counts : counts_add_up after ≡ true
  unfolding without_links totals
  after-counts =
      add-up after
      (omega (arith, total-split grade_count_of (suc d) path.links, was.grades-counted, length-drop (goes (suc d) path h c was grade_count_of) path.grades))
      (omega (arith, total-split curve_count_of (suc d) path.links, was.curves-counted, length-drop (goes (suc d) path h c was curve_count_of) path.curves))
      (own-without (suc d) path h c was).powers-counted

  after-order : sorted_from (offset_of (link_point_at (drop (suc d) path.links) 0)) (clear_points path.speeds X) ≡ true
  after-order =
      let e : link_point_at (drop (suc d) path.links) 0 ≡ link_point_at path.links (suc d) = point-drop (suc d) 0 path.links ∙ ap (link_point_at path.links) (omega arith) in
      ap (λ (p : LinkPoint). sorted_from (offset_of p) (clear_points path.speeds X)) e
      ∙ in-order-from X (clear_points path.speeds X) (clear-begins path.speeds X ordered behind) (finite-real X X-finite) (clear-order path.speeds X ordered behind)

  after-sound : sound_path after ≡ true
  unfolding sound_path links_sound without_links totals
  after-sound =
      let own = own-without (suc d) path h c was in
      let k = clauses path known in
      ap₂ ◌&&◌ after-counts
      (ap₂ ◌&&◌ own.closed
      (ap₂ ◌&&◌ (ap₂ ◌&&◌ own.end-zero (ap₂ ◌&&◌ (rise-drop (suc d) path.links k.rise) own.numbers))
      (ap₂ ◌&&◌ after-order
      (ap₂ ◌&&◌ (first-drop (count_of false) (suc d) path.links path.grades k.first-grades) (first-drop (count_of true) (suc d) path.links path.curves k.first-curves)))))

  after-stays : Stays c after
  after-stays =
      let within : within_bounds (record_of after) c ≡ true = unfold cleared_path in (own-clear (suc d) path h c was).1 in
      (written-finite c after within after-finite, written-sound c after within after_one after-sound)

-- ---- as a call finds it, which has passed questions 1 and 2
module _ (p : PathTpc) (c : Columns) (f : path_finite p c ≡ true) (s : sound p c ≡ true) where
  pub lists-one : one_of_each (record_of (path_of p c)) ≡ true
  lists-one = ap one_of_each (counted p c) ∙ (sound-within p c s).0

  pub lists-within : within_bounds (record_of (path_of p c)) c ≡ true
  lists-within = ap (λ (q : PathTpc). within_bounds q c) (counted p c) ∙ (sound-within p c s).1

  pub lists-sound : sound_path (path_of p c) ≡ true
  lists-sound = let w = sound-within p c s in sym (sound_more p c w.0 w.1) ∙ s

  lists-finite : FinitePath (path_of p c)
  lists-finite = read-finite p c f (sound-within p c s).1

  pub stays-trimmed : (d : ℕ) → d + 1 < length (path_of p c).links → Stays c (cleared_path d (path_of p c))
  unfolding cleared_path
  stays-trimmed zero h = (written-finite c (path_of p c) lists-within lists-finite, written-sound c (path_of p c) lists-within lists-one lists-sound)
  stays-trimmed (suc d) h = after-stays d (path_of p c) h c (before p c f s) lists-finite lists-one lists-sound
