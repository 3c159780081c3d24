-- `clear`, its change: the columns without the first links, column by column, and the whole path.
use Prim.Native.Nat.{ℕ, ◌-◌, ◌*◌, ◌≤◌, ◌<◌}
use native.Mathlib.Omega.{arith}
use mathlib.Core.Path.{◌≡◌, sym, ap, ap₂, ◌∙◌}
use mathlib.Core.Bool.{true}
use mathlib.Core.List.{List}
use lib.ListN.{length, get_or, take, drop, length-drop}
use lib.Ieee.{Float}
use Rattle.ieee.specs.Number.{+0}
use Rattle.column.specs.Entries.{filled, move_front}
use Rattle.column.specs.Records.{flat, three, four}
use Rattle.column.proofs.Bridge.{three-lawful, four-lawful, length-records, move-filled, entries-left, records-left}
use Rattle.speed.specs.Column.{pair, points, Leaves}
use Rattle.speed.specs.Clear.{clear_points}
use Rattle.lookup.specs.Coeff.{triple, coeffs}
use Rattle.lookup.proofs.Coeffs.{triple-lawful}
use Rattle.path.specs.declared.path_tpc.PathTpc.{PathTpc}
use Rattle.path.specs.declared.link_point.LinkPoint.{LinkPoint}
use Rattle.path.specs.Records.{Columns, columns, offset_of, four_of, grade_count_of, curve_count_of, power_count_of, link_points, no_link_point, three_of, power_limits, Path, path_of, columns_of, record_of}
use Rattle.path.specs.Answers.{changed}
use Rattle.path.specs.Sound.{totals, sound}
use Rattle.path.proofs.LinkPoints.{length-links, link_at}
use Rattle.path.proofs.Counts.{total-fewer}
use Rattle.path.proofs.ReadBack.{Within, length-powers, link-offsets, link-fours, power-threes, power-districts}
use Rattle.path.proofs.Clauses.{Fewer, sound-fewer, sound-within, room}
use Rattle.path_clear.specs.Clear.{without_links, done_left}

-- ---- the counts of the links that go
-- q is these counts
pub few-go :
    (p : PathTpc) (c : Columns)
    → sound p c ≡ true
    → (d : ℕ) {q : LinkPoint}
    → q ≡ totals (take d (path_of p c).links)
    → Fewer p q
unfolding totals path_of
few-go p c known d e =
    let ps = link_points p.link_count c.offsets c.numbers in
    let all = sound-fewer p c known in (
      omega (arith, ap grade_count_of e, total-fewer grade_count_of d ps, all.0),
      omega (arith, ap curve_count_of e, total-fewer curve_count_of d ps, all.1),
      omega (arith, ap power_count_of e, total-fewer power_count_of d ps, all.2),
    )

-- ---- the path that is left, where q is the counts of the d links that go and o the offset of its beginning
module _ (p : PathTpc) (c : Columns) (d : ℕ) where
  abbrev kept : LinkPoint → Float → Path
  kept q o =
      record {
        links = drop d (link_points p.link_count c.offsets c.numbers);
        grades = drop (grade_count_of q) (coeffs p.grade_count c.grades);
        curves = drop (curve_count_of q) (coeffs p.curve_count c.curves);
        speeds = clear_points (points p.speed_count c.speeds) o;
        powers = drop (power_count_of q) (power_limits p.power_count c.powers c.districts);
        finished = p.is_finished;
      }

  -- its record, where n is the count of its speed points
  abbrev kept_record : LinkPoint → ℕ → PathTpc
  kept_record q n =
      record {
        link_count = p.link_count - d;
        grade_count = p.grade_count - grade_count_of q;
        curve_count = p.curve_count - curve_count_of q;
        speed_count = n;
        power_count = p.power_count - power_count_of q;
        is_finished = p.is_finished;
      }

  module _ (q : LinkPoint) (o : Float) where
    kept-counts : {n : ℕ} → n ≡ length (clear_points (points p.speed_count c.speeds) o) → kept_record q n ≡ record_of (kept q o)
    unfolding record_of
    kept-counts e =
        rw (
          e,
          length-drop d (link_points p.link_count c.offsets c.numbers),
          length-drop (grade_count_of q) (coeffs p.grade_count c.grades),
          length-drop (curve_count_of q) (coeffs p.curve_count c.curves),
          length-drop (power_count_of q) (power_limits p.power_count c.powers c.districts),
          length-links p.link_count c.offsets c.numbers,
          length-records triple triple-lawful p.grade_count c.grades,
          length-records triple triple-lawful p.curve_count c.curves,
          length-powers p.power_count c.powers c.districts,
        )

    -- it is the path without its first links
    kept-is : d < p.link_count → q ≡ totals (take d (link_points p.link_count c.offsets c.numbers)) → o ≡ get_or c.offsets d +0 → kept q o ≡ without_links d (path_of p c)
    unfolding without_links path_of
    kept-is h e f = ap₂ kept e (f ∙ ap offset_of (sym (link_at p.link_count c.offsets c.numbers d no_link_point h)))

    kept-columns :
        {os gs ks ss ws : List Float} {ns ds : List ℕ}
        → Within p c
        → d ≤ p.link_count
        → Fewer p q
        → os ≡ move_front +0 d p.link_count c.offsets
        → ns ≡ move_front 0 (4 * d) (4 * p.link_count) c.numbers
        → gs ≡ move_front +0 (3 * grade_count_of q) (3 * p.grade_count) c.grades
        → ks ≡ move_front +0 (3 * curve_count_of q) (3 * p.curve_count) c.curves
        → ss ≡ filled +0 (length c.speeds) (flat pair (clear_points (points p.speed_count c.speeds) o))
        → ws ≡ move_front +0 (3 * power_count_of q) (3 * p.power_count) c.powers
        → ds ≡ move_front 0 (power_count_of q) p.power_count c.districts
        → columns os ns gs ks ss ws ds ≡ columns_of c (kept q o)
    unfolding columns_of
    kept-columns w h few e₁ e₂ e₃ e₄ e₅ e₆ e₇ =
        let ps = link_points p.link_count c.offsets c.numbers in
        let ls = power_limits p.power_count c.powers c.districts in
        cc (
          e₁ ∙ entries-left +0 ps d p.link_count c.offsets offset_of (link-offsets p.link_count c.offsets c.numbers w.offsets),
          e₂ ∙ records-left 0 ps d p.link_count c.numbers four four-lawful four_of (link-fours p.link_count c.offsets c.numbers) h w.numbers,
          e₃ ∙ move-filled triple triple-lawful +0 (grade_count_of q) p.grade_count c.grades few.0 w.grades,
          e₄ ∙ move-filled triple triple-lawful +0 (curve_count_of q) p.curve_count c.curves few.1 w.curves,
          e₅,
          e₆ ∙ records-left +0 ls (power_count_of q) p.power_count c.powers three three-lawful three_of (power-threes p.power_count c.powers c.districts) few.2 w.powers,
          e₇ ∙ entries-left 0 ls (power_count_of q) p.power_count c.districts (λ l. l.district) (power-districts p.power_count c.powers c.districts w.districts),
        )

  -- as the code has it
  pub cut_left :
      {q : LinkPoint} {o : Float} {n : ℕ} {os gs ks ss ws : List Float} {ns ds : List ℕ}
      → sound p c ≡ true
      → d < p.link_count
      → q ≡ totals (take d (path_of p c).links)
      → o ≡ get_or c.offsets d +0
      → os ≡ move_front +0 d p.link_count c.offsets
      → ns ≡ move_front 0 (4 * d) (4 * p.link_count) c.numbers
      → gs ≡ move_front +0 (3 * grade_count_of q) (3 * p.grade_count) c.grades
      → ks ≡ move_front +0 (3 * curve_count_of q) (3 * p.curve_count) c.curves
      → Leaves ss n (clear_points (points p.speed_count c.speeds) o)
      → length ss ≡ length c.speeds
      → ws ≡ move_front +0 (3 * power_count_of q) (3 * p.power_count) c.powers
      → ds ≡ move_front 0 (power_count_of q) p.power_count c.districts
      → done_left (kept_record q n) (columns os ns gs ks ss ws ds) ≡ changed c (without_links d (path_of p c))
  unfolding changed path_of
  cut_left {q} {o} {n} known h e f e₁ e₂ e₃ e₄ leaves same e₆ e₇ =
      let held : _ ≡ filled +0 (length c.speeds) (flat pair (clear_points (points p.speed_count c.speeds) o)) =
      leaves.holds.is ∙ ap (λ (k : ℕ). filled +0 k (flat pair (clear_points (points p.speed_count c.speeds) o))) same in
      ap₂ done_left (kept-counts q o leaves.count)
      (kept-columns q o (room p c (sound-within p c known).1) (omega arith) (few-go p c known d e) e₁ e₂ e₃ e₄ held e₆ e₇)
      ∙ ap (changed c) (kept-is q o h e f)
