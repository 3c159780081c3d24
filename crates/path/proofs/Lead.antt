-- The pass that adds up the counts of link points and reads the first grade and curve of each: g, k and w are the sums before point i.
use Prim.Native.Nat.{ℕ, ◌+◌, ◌≤◌, ◌<◌}
use native.Mathlib.Omega.{arith}
use mathlib.Core.Path.{◌≡◌, refl, sym, ap, ap₂, ◌∙◌}
use mathlib.Core.Bool.{Bool, true, false, ◌&&◌, and-true, and-false}
use mathlib.Core.List.{List}
use lib.Ieee as Ieee
use lib.Ieee.{Float}
use borrow.Author.Tests.{ne_eqb}
use Rattle.ieee.specs.Number.{+0}
use Rattle.lookup.specs.declared.path_res_coeff.PathResCoeff.{PathResCoeff}
use Rattle.lookup.specs.Coeff.{offset_at}
use Rattle.path.specs.declared.path_tpc.PathTpc.{PathTpc}
use Rattle.path.specs.declared.link_point.LinkPoint.{LinkPoint}
use Rattle.path.specs.Records.{offset_of, grade_count_of, curve_count_of, power_count_of, link_point, point_at, link_points}
use Rattle.path.specs.Sound.{total, totals, spare, add_up, stands_there, count_of, first_at_offset}
use Rattle.path.proofs.LinkPoints.{links_from, links-all}
use Rattle.path.proofs.Counts.{Counted, counted_none, counted-more, counted-all, first_more, first-end}

-- a test of a point joins the answer so far, and the tests of the points after it stay
pairs : (ok a b rest other : Bool) → (ok && ((a && rest) && (b && other))) ≡ ((ok && (a && b)) && (rest && other))
pairs false a b rest other = refl
pairs true false b rest other = refl
pairs true true true rest other = refl
pairs true true false rest other = and-false rest

spare-some : (finished : Bool) → 0 < spare finished
spare-some true = omega arith
spare-some false = omega arith

module _ (p : PathTpc) (gs cs : List PathResCoeff) (os : List Float) (ns : List ℕ) where
  -- the points' own answer
  abbrev pub leads : Bool
  leads = first_at_offset (count_of false) 0 (link_points p.link_count os ns) gs && first_at_offset (count_of true) 0 (link_points p.link_count os ns) cs

  -- ok is the answer for the points before i
  pub record Led (i g k w : ℕ) (ok : Bool) : Type 0 where
    pub grades : Counted grade_count_of os ns p.link_count i g
    pub curves : Counted curve_count_of os ns p.link_count i k
    pub powers : Counted power_count_of os ns p.link_count i w
    pub stand : (ok && (first_at_offset (count_of false) g (links_from os ns p.link_count i) gs && first_at_offset (count_of true) k (links_from os ns p.link_count i) cs)) ≡ leads

  pub led-none : Led 0 0 0 0 true
  led-none =
      record {
        grades = counted_none grade_count_of os ns p.link_count;
        curves = counted_none curve_count_of os ns p.link_count;
        powers = counted_none power_count_of os ns p.link_count;
        stand = ap (λ (ps : List LinkPoint). first_at_offset (count_of false) 0 ps gs && first_at_offset (count_of true) 0 ps cs) (links-all os ns p.link_count);
      }

  module _ {i g k w : ℕ} {ok : Bool} (led : Led i g k w ok) where
    -- one point more
    pub led-more :
        {q : LinkPoint} {x y : Float}
        → i < p.link_count
        → q ≡ point_at os ns i
        → x ≡ offset_at gs g
        → y ≡ offset_at cs k
        → Led (i + 1) (g + grade_count_of q) (k + curve_count_of q) (w + power_count_of q) (ok && (Ieee.eq x (offset_of q) && Ieee.eq y (offset_of q)))
    led-more {q} h e a b =
        let n = p.link_count in
        let slopes = first_at_offset (count_of false) (g + grade_count_of q) (links_from os ns n (i + 1)) gs in
        let bends = first_at_offset (count_of true) (k + curve_count_of q) (links_from os ns n (i + 1)) cs in
        record {
          grades = counted-more grade_count_of os ns n i g h e led.grades;
          curves = counted-more curve_count_of os ns n i k h e led.curves;
          powers = counted-more power_count_of os ns n i w h e led.powers;
          stand =
              rw (a, b)
              (sym (pairs ok (stands_there gs g (offset_of q)) (stands_there cs k (offset_of q)) slopes bends)
              ∙ ap₂ (λ (s t : Bool). ok && (s && t)) (sym (first_more (count_of false) gs os ns n i g h e)) (sym (first_more (count_of true) cs os ns n i k h e))
              ∙ led.stand);
        }

    -- a sum past the records: the counts do not add up
    pub grades-over : p.grade_count ≤ g → (add_up p (totals (link_points p.link_count os ns)) && leads) ≡ false
    unfolding add_up totals
    grades-over h = rw (ne_eqb (total grade_count_of (link_points p.link_count os ns) + spare p.is_finished) p.grade_count (λ e. omega (arith, spare-some p.is_finished, led.grades)))

    pub curves-over : p.curve_count ≤ k → (add_up p (totals (link_points p.link_count os ns)) && leads) ≡ false
    unfolding add_up totals
    curves-over h =
        rw (
          ne_eqb (total curve_count_of (link_points p.link_count os ns) + spare p.is_finished) p.curve_count (λ e. omega (arith, spare-some p.is_finished, led.curves)),
          and-false,
        )

    -- every point
    pub led-all : {sums : Bool} → p.link_count ≤ i → sums ≡ add_up p (link_point +0 g k w 0) → (sums && ok) ≡ (add_up p (totals (link_points p.link_count os ns)) && leads)
    unfolding totals
    led-all h e =
        rw (
          e,
          counted-all grade_count_of os ns p.link_count i g h led.grades,
          counted-all curve_count_of os ns p.link_count i k h led.curves,
          counted-all power_count_of os ns p.link_count i w h led.powers,
          ← led.stand,
          first-end (count_of false) gs os ns p.link_count i g h,
          first-end (count_of true) cs os ns p.link_count i k h,
          and-true,
        )
