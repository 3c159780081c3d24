-- A path without its first links: two link points stay, and so does what the path shows of itself.
use Prim.Native.Nat.{ℕ, zero, suc, ◌+◌, ◌-◌, ◌≤◌, ◌<◌}
use native.Mathlib.Omega.{arith}
use mathlib.Core.Path.{◌≡◌, refl, sym, ap, ap₂, ◌∙◌}
use mathlib.Core.Bool.{Bool, true, false, not, ◌&&◌, ◌||◌, cond}
use mathlib.Core.List.{List, [], ◌∷◌}
use lib.Dec.{T, eqb}
use lib.ListN.{length, take, drop, length-drop}
use lib.Ieee as Ieee
use lib.Ieee.{Float}
use borrow.Author.Tests.{ne_eqb}
use Rattle.ieee.specs.Number.{+∞}
use Rattle.ieee.proofs.Order.{lt_not_le, of-true}
use Rattle.speed_laws.proofs.Clear.{clear-count}
use Rattle.lookup.specs.declared.path_res_coeff.PathResCoeff.{PathResCoeff}
use Rattle.lookup.specs.Coeff.{no_coeff}
use Rattle.link.proofs.Known.{and_both}
use Rattle.path.specs.declared.link_point.LinkPoint.{LinkPoint}
use Rattle.path.specs.Records.{Columns, offset_of, grade_count_of, curve_count_of, power_count_of, number_of, no_link_point, link_point_at, end_point, Path, record_of}
use Rattle.path.specs.Sound.{within_bounds, total, totals, closes, closed_at_infinity, end_counts_zero, all_numbered, numbered, numbers_real}
use Rattle.path.proofs.Counts.{total-fewer}
use Rattle.path.proofs.Lasts.{last-next, from_end, every_drop, total-split, drop-finite, drop-powers}
use Rattle.path.proofs.WrittenSound.{Own, spare-some, NoMore, fewer-within, Before}
use Rattle.path_clear.specs.Clear.{count_before, drop_count, without_links, cleared_path}

-- the end point is not before x, so the last links stay
not-all-before : (x : Float) (q : LinkPoint) (qs : List LinkPoint) → T (Ieee.le x (offset_of (end_point (q ∷ qs)))) → count_before x (q ∷ qs) < length (q ∷ qs)
unfolding count_before
not-all-before x q [] h = go (Ieee.lt (offset_of q) x) refl
  where
    go : (b : Bool) → Ieee.lt (offset_of q) x ≡ b → cond b (suc 0) 0 < 1
    go true e = absurd (lt_not_le (offset_of q) x (of-true e) h)
    go false e = omega arith
not-all-before x q (r ∷ rs) h = go (Ieee.lt (offset_of q) x) (not-all-before x r rs (rw (last-next no_link_point q r rs) at h))
  where
    go : (b : Bool) → count_before x (r ∷ rs) < length (r ∷ rs) → cond b (suc (count_before x (r ∷ rs))) 0 < length (q ∷ r ∷ rs)
    go true l = omega arith
    go false l = omega arith

pub two-left : (x : Float) (ps : List LinkPoint) → 2 ≤ length ps → T (Ieee.le x (offset_of (end_point ps))) → drop_count x ps + 1 < length ps
two-left x [] k h = absurd (omega arith)
two-left x (p ∷ []) k h = absurd (omega arith)
two-left x (p ∷ q ∷ qs) k h = omega (arith, not-all-before x q qs (rw (last-next no_link_point p q qs) at h))

-- the numbers of the points from the d-th on, two of them or more
drop-numbers : (d : ℕ) (ps : List LinkPoint) → d + 1 < length ps → numbers_real ps ≡ true → numbers_real (drop d ps) ≡ true
unfolding numbers_real
drop-numbers d ps h e =
    let many : eqb (length ps) 1 ≡ false = ne_eqb (length ps) 1 (λ k. omega arith) in
    let few : eqb (length (drop d ps)) 1 ≡ false = ne_eqb (length (drop d ps)) 1 (λ k. omega (arith, length-drop d ps)) in
    let same : Bool = eqb (number_of (end_point ps)) (number_of (link_point_at ps (length ps - 2))) in
    let t = and_both (all_numbered ps) same (sym (ap (λ (b : Bool). cond b (eqb (number_of (end_point ps)) 0) (all_numbered ps && same)) many) ∙ e) in
    ap (λ (b : Bool). cond b (eqb (number_of (end_point (drop d ps))) 0) (all_numbered (drop d ps) && eqb (number_of (end_point (drop d ps))) (number_of (link_point_at (drop d ps) (length (drop d ps) - 2))))) few
    ∙ ap₂ ◌&&◌ (every_drop numbered d ps t.0)
    (ap₂ (λ (a b : LinkPoint). eqb (number_of a) (number_of b)) (from_end no_link_point 0 d ps (omega arith)) (from_end no_link_point 1 d ps (omega arith)) ∙ t.1)

drop-closes : (k : ℕ) (gs : List PathResCoeff) → k < length gs → closes (drop k gs) ≡ closes gs
drop-closes k gs h = ap (λ (g : PathResCoeff). Ieee.eq g.offset.0 +∞) (from_end no_coeff 0 k gs (omega arith))

module _ (d : ℕ) (path : Path) (h : d + 1 < length path.links) (c : Columns) (was : Before path c) where
  abbrev pub goes : (LinkPoint → ℕ) → ℕ
  goes count = total count (take d path.links)

  pub stay-grades : goes grade_count_of < length path.grades
  stay-grades = omega (arith, total-fewer grade_count_of d path.links, was.grades-counted, spare-some path.finished)

  pub stay-curves : goes curve_count_of < length path.curves
  stay-curves = omega (arith, total-fewer curve_count_of d path.links, was.curves-counted, spare-some path.finished)

  pub own-without : Own (without_links d path)
  unfolding without_links totals closed_at_infinity end_counts_zero
  own-without =
      let own = was.own in
      record {
        powers-counted = omega (arith, total-split power_count_of d path.links, own.powers-counted, length-drop (goes power_count_of) path.powers);
        closed = ap₂ (λ (g k : Bool). not path.finished || (g && k)) (drop-closes (goes grade_count_of) path.grades stay-grades) (drop-closes (goes curve_count_of) path.curves stay-curves) ∙ own.closed;
        end-zero = ap (λ (p : LinkPoint). eqb (grade_count_of p) 0 && (eqb (curve_count_of p) 0 && eqb (power_count_of p) 0)) (from_end no_link_point 0 d path.links (omega arith)) ∙ own.end-zero;
        numbers = drop-numbers d path.links h own.numbers;
        grades-finite = drop-finite path.finished (goes grade_count_of) path.grades own.grades-finite;
        curves-finite = drop-finite path.finished (goes curve_count_of) path.curves own.curves-finite;
        powers-finite = drop-powers (goes power_count_of) path.powers own.powers-finite;
      }

  pub fewer-without : NoMore (record_of (without_links d path)) (record_of path)
  unfolding without_links totals record_of
  fewer-without =
      record {
        links = omega (arith, length-drop d path.links);
        grades = omega (arith, length-drop (total grade_count_of (take d path.links)) path.grades);
        curves = omega (arith, length-drop (total curve_count_of (take d path.links)) path.curves);
        speeds = clear-count path.speeds (offset_of (link_point_at path.links d));
        powers = omega (arith, length-drop (total power_count_of (take d path.links)) path.powers);
      }

pub own-clear : (d : ℕ) (path : Path) → d + 1 < length path.links → (c : Columns) → Before path c → Own (cleared_path d path) × (within_bounds (record_of (cleared_path d path)) c ≡ true)
unfolding cleared_path
own-clear zero path h c was = (was.own, was.within)
own-clear (suc d) path h c was =
    (own-without (suc d) path h c was, fewer-within (record_of (without_links (suc d) path)) (record_of path) c (fewer-without (suc d) path h c was) was.within)
