-- A path cut twice is the path cut once, behind the later beginning.
use Prim.Native.Nat.{ℕ, zero, suc, ◌+◌, ◌<◌}
use native.Mathlib.Nat.{zero-add, add-zero}
use native.Mathlib.Omega.{arith}
use mathlib.Core.Path.{◌≡◌, sym, ap, ◌∙◌}
use mathlib.Core.Bool.{true}
use mathlib.Core.List.{List}
use lib.Dec.{T}
use lib.ListN.{length, take, drop, length-drop}
use lib.Seq.{drop-drop, take-add}
use lib.Ieee as Ieee
use Rattle.speed.specs.Clear.{clear_points}
use Rattle.speed_laws.proofs.Clear.{clear-again}
use Rattle.path.specs.declared.link_point.LinkPoint.{LinkPoint}
use Rattle.path.specs.Records.{offset_of, grade_count_of, curve_count_of, power_count_of, link_point_at, Path, record_of}
use Rattle.path.specs.Sound.{one_of_each, total, totals, sound_path}
use Rattle.path.proofs.Lasts.{total-append}
use Rattle.path.proofs.WrittenSound.{clauses}
use Rattle.path_clear.specs.Clear.{without_links, cleared_path}
use Rattle.path_clear.specs.Trims.{both}
use Rattle.path_clear.proofs.Rising.{rise-drop, after_first, point-drop}
use Rattle.path_clear.proofs.StillSound.{in_order, not_after}

-- ---- the counts of the links that go

take-total : (count : LinkPoint → ℕ) (d e : ℕ) (ps : List LinkPoint) → total count (take d ps) + total count (take e (drop d ps)) ≡ total count (take (d + e) ps)
take-total count d e ps = sym (ap (total count) (take-add d e ps) ∙ total-append count (take d ps) (take e (drop d ps)))

pub both-totals : (d e : ℕ) (ps : List LinkPoint) → both (totals (take d ps)) (totals (take e (drop d ps))) ≡ totals (take (d + e) ps)
unfolding totals
both-totals d e ps = rw (take-total grade_count_of d e ps, take-total curve_count_of d e ps, take-total power_count_of d e ps)

-- the records that they count
drop-counted : {A : Type 0} (count : LinkPoint → ℕ) (d e : ℕ) (ps : List LinkPoint) (l : List A) → drop (total count (take e (drop d ps))) (drop (total count (take d ps)) l) ≡ drop (total count (take (d + e) ps)) l
drop-counted count d e ps l = drop-drop (total count (take e (drop d ps))) (total count (take d ps)) l ∙ ap (λ (k : ℕ). drop k l) (take-total count d e ps)

-- ---- the path
module _ (path : Path) (one : one_of_each (record_of path) ≡ true) (known : sound_path path ≡ true) where
  speeds-twice : (d e : ℕ) → suc d + suc e < length path.links
      → clear_points (clear_points path.speeds (offset_of (link_point_at path.links (suc d)))) (offset_of (link_point_at (drop (suc d) path.links) (suc e)))
      ≡ clear_points path.speeds (offset_of (link_point_at path.links (suc d + suc e)))
  speeds-twice d e h =
      let ps = path.links in
      let X = offset_of (link_point_at ps (suc d)) in
      let Y = offset_of (link_point_at (drop (suc d) ps) (suc e)) in
      let first : offset_of (link_point_at (drop (suc d) ps) 0) ≡ X = ap offset_of (point-drop (suc d) 0 ps ∙ ap (link_point_at ps) (omega arith)) in
      let later : T (Ieee.lt X Y) = rw first at (after_first e (drop (suc d) ps) (rise-drop (suc d) ps (clauses path known).rise) (omega (arith, length-drop (suc d) ps))) in
      clear-again path.speeds X (in_order path one known) (not_after path one known d (omega arith)) Y later
      ∙ ap (λ (p : LinkPoint). clear_points path.speeds (offset_of p)) (point-drop (suc d) (suc e) ps)

  without-twice : (d e : ℕ) → suc d + suc e < length path.links → without_links (suc e) (without_links (suc d) path) ≡ without_links (suc d + suc e) path
  unfolding without_links totals
  without-twice d e h =
      let ps = path.links in
      cc (
        drop-drop (suc e) (suc d) ps,
        drop-counted grade_count_of (suc d) (suc e) ps path.grades,
        drop-counted curve_count_of (suc d) (suc e) ps path.curves,
        speeds-twice d e h,
        drop-counted power_count_of (suc d) (suc e) ps path.powers,
      )

  pub clear-twice : (d e : ℕ) → d + e < length path.links → cleared_path e (cleared_path d path) ≡ cleared_path (d + e) path
  unfolding cleared_path
  clear-twice zero e h = ap (λ (k : ℕ). cleared_path k path) (sym (zero-add e))
  clear-twice (suc d) zero h = ap (λ (k : ℕ). cleared_path k path) (sym (add-zero (suc d)))
  clear-twice (suc d) (suc e) h =
      let k : suc d + suc e ≡ suc (d + suc e) = omega arith in
      without-twice d e h ∙ ap (λ (j : ℕ). without_links j path) k ∙ ap (λ (j : ℕ). cleared_path j path) (sym k)
