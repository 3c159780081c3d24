-- What each pass of `extend` asks for, of a path that is sound and links that its questions have passed.
use Prim.Native.Nat.{ℕ, ◌+◌, ◌-◌, ◌*◌, ◌≤◌, ◌<◌}
use native.Mathlib.Omega.{arith}
use mathlib.Core.Path.{◌≡◌, ap, ◌∙◌}
use mathlib.Core.Bool.{true, false}
use mathlib.Core.List.{List}
use lib.ListN.{length, take}
use lib.Ieee.{Float}
use Rattle.ieee.specs.Number.{+0}
use Rattle.column.specs.Entries.{filled}
use Rattle.column.specs.Records.{flat}
use Rattle.speed.specs.Column.{points, Holds}
use Rattle.speed.proofs.PointColumn.{length-points}
use Rattle.lookup.specs.Coeff.{triple, coeffs}
use Rattle.link.specs.declared.train_params.TrainParams.{TrainParams}
use Rattle.link.specs.Lists.{every, up_from}
use Rattle.link.specs.Table.{LinkTable}
use Rattle.path.specs.declared.path_tpc.PathTpc.{PathTpc}
use Rattle.path.specs.declared.link_point.LinkPoint.{LinkPoint}
use Rattle.path.specs.Records.{Columns, link_points, point_at, end_point, power_limits, path_of, columns_of}
use Rattle.path.specs.Sound.{sound, total}
use Rattle.path.proofs.Clauses.{sound-within, room}
use Rattle.path_speeds.specs.Limits.{sets_of, count_at, point_few, point_count}
use Rattle.path_stretches.specs.Powers.{HoldsPowers}
use Rattle.path_join.specs.Listed.{records_in, powers_in, sum_of}
use Rattle.path_join.specs.ByKind.{HoldsPoints}
use Rattle.path_extend.specs.Ready.{Ready}
use Rattle.path_extend.proofs.NewPoints.{new_points, points-few, points-counted}
use Rattle.path_extend.proofs.Assembled.{old_points, all_points, new-range, own-numbers, counts}
use Rattle.path_extend.proofs.Asked.{Fit, fit_all}

module _ (train : TrainParams) (t : LinkTable) (ns : List ℕ) (p : PathTpc) (c : Columns) (known : sound p c ≡ true) (ready : Ready train t ns p c) where
  fits : Fit train t ns p c
  fits = fit_all train t ns p c ready.fit

  pub some : (0 < p.link_count) × (0 < p.grade_count) × (0 < p.curve_count) × (0 < p.speed_count)
  some = counts train t ns p c known ready.own

  pub points-fit : (p.link_count + length ns ≤ 1025) × (p.link_count + length ns ≤ length c.offsets) × (4 * (p.link_count + length ns) ≤ length c.numbers)
  points-fit = (fits.links, fits.offsets, fits.numbers)

  pub points-hold : HoldsPoints c.offsets c.numbers (link_points p.link_count c.offsets c.numbers)
  unfolding columns_of path_of
  points-hold = record { offsets = ap (λ (l : Columns). l.offsets) ready.tidy; numbers = ap (λ (l : Columns). l.numbers) ready.tidy }

  -- speed points, once the link points are there
  module _ {os : List Float} {nums : List ℕ} (held : HoldsPoints os nums (all_points train t ns p c known ready.own)) where
    abbrev new : List LinkPoint
    new = new_points t.links t.lengths (end_point (old_points train t ns p c known ready.own)) ns

    range : up_from (point_at os nums) (p.link_count - 1) (length ns) ≡ take (length ns) new
    range = new-range train t ns p c known ready.own held

    pub limits-few : every (point_few train (sets_of t)) (up_from (point_at os nums) (p.link_count - 1) (length ns)) ≡ true
    limits-few = ap (every (point_few train (sets_of t))) range ∙ points-few t.links t.lengths train (sets_of t) _ ns (own-numbers t ns ready.own) ready.few

    pub limits-room : 2 * (p.speed_count + 2 * total (point_count train (sets_of t)) (up_from (point_at os nums) (p.link_count - 1) (length ns))) ≤ length c.speeds
    limits-room =
        let e : total (point_count train (sets_of t)) (up_from (point_at os nums) (p.link_count - 1) (length ns)) ≡ sum_of (count_at train (sets_of t)) ns =
        ap (total (point_count train (sets_of t))) range ∙ points-counted t.links t.lengths train (sets_of t) _ ns (own-numbers t ns ready.own) in
        omega (arith, fits.speeds, ap (λ (k : ℕ). 2 * k) e)

  pub speeds-hold : Holds c.speeds (points p.speed_count c.speeds)
  unfolding columns_of path_of
  speeds-hold =
      record {
        fits = omega (arith, length-points p.speed_count c.speeds, (room p c (sound-within p c known).1).speeds);
        is = ap (λ (l : Columns). l.speeds) ready.tidy;
      }

  pub grades-room : 3 * p.grade_count ≤ length c.grades
  grades-room = (room p c (sound-within p c known).1).grades

  pub grades-hold : c.grades ≡ filled +0 (length c.grades) (flat triple (coeffs p.grade_count c.grades))
  unfolding columns_of path_of
  grades-hold = ap (λ (l : Columns). l.grades) ready.tidy

  pub grades-fit : 3 * (p.grade_count + sum_of (records_in false t.links) ns) ≤ length c.grades
  grades-fit = fits.grades

  pub curves-hold : c.curves ≡ filled +0 (length c.curves) (flat triple (coeffs p.curve_count c.curves))
  unfolding columns_of path_of
  curves-hold = ap (λ (l : Columns). l.curves) ready.tidy

  pub curves-fit : 3 * (p.curve_count + sum_of (records_in true t.links) ns) ≤ length c.curves
  curves-fit = fits.curves

  pub powers-fit : (3 * (p.power_count + sum_of (powers_in t.links) ns) ≤ length c.powers) × (p.power_count + sum_of (powers_in t.links) ns ≤ length c.districts)
  powers-fit = (fits.powers, fits.districts)

  pub powers-hold : HoldsPowers c.powers c.districts (power_limits p.power_count c.powers c.districts)
  unfolding columns_of path_of
  powers-hold = record { powers = ap (λ (l : Columns). l.powers) ready.tidy; districts = ap (λ (l : Columns). l.districts) ready.tidy }
