-- A path written to its columns: it is sound and finite as its lists are.
use Prim.Native.Nat.{ℕ, ◌*◌, ◌≤◌}
use mathlib.Core.Path.{◌≡◌, sym, ap, ap₂, ◌∙◌}
use mathlib.Core.Bool.{Bool, true, ◌&&◌}
use mathlib.Core.List.{List, [], ◌∷◌, ◌++◌, map}
use lib.ListN.{length, take, drop, take-append-drop}
use lib.Ieee.{Float}
use lib.Ieee.Scale.{finite}
use Rattle.ieee.specs.Number.{all_finite}
use Rattle.column.specs.Records.{flat, three}
use Rattle.column.proofs.Bridge.{three-lawful, length-records, flat-records}
use Rattle.speed.specs.Points.{Point}
use Rattle.speed.specs.Column.{pair}
use Rattle.speed.proofs.PointColumn.{pair-lawful}
use Rattle.lookup.specs.declared.path_res_coeff.PathResCoeff.{PathResCoeff}
use Rattle.lookup.specs.Coeff.{triple, coeffs, stands_at, coefficient_of, net_of, closes_well, coeffs_finite}
use Rattle.lookup.proofs.Coeffs.{triple-lawful, finite-none, finite-last, finite-more}
use Rattle.link.specs.Table.{PowerLimit}
use Rattle.link.proofs.Known.{and_both}
use Rattle.path.specs.declared.path_tpc.PathTpc.{PathTpc}
use Rattle.path.specs.Records.{Columns, offset_of, three_of, Path, path_of, columns_of, record_of}
use Rattle.path.specs.Sound.{path_finite, one_of_each, within_bounds, sound_path, sound}
use Rattle.path.proofs.ReadBack.{read_back, Within, link-offsets, power-threes}
use Rattle.path.proofs.Clauses.{room, sound_more}
use Rattle.path.proofs.Tidied.{written-within}

-- ---- a path whose numbers are finite

-- the coefficient and the net value
abbrev pub values_finite : PathResCoeff → Bool
values_finite g = finite (coefficient_of g) && finite (net_of g)

-- the last offset may be +infinity where the list closes so
unfoldable pub records_finite : Bool → List PathResCoeff → Bool
records_finite closes [] = true
records_finite closes (g ∷ []) = closes_well closes (stands_at g) && values_finite g
records_finite closes (g ∷ h ∷ gs) = (finite (stands_at g) && values_finite g) && records_finite closes (h ∷ gs)

abbrev pub point_numbers : List Point → List Float
point_numbers ps = flat pair ps

abbrev pub power_numbers : List PowerLimit → List Float
power_numbers ls = flat three (map three_of ls)

pub record FinitePath (path : Path) : Type 0 where
  pub offsets : all_finite (map offset_of path.links) ≡ true
  pub grades : records_finite path.finished path.grades ≡ true
  pub curves : records_finite path.finished path.curves ≡ true
  pub speeds : all_finite (point_numbers path.speeds) ≡ true
  pub powers : all_finite (power_numbers path.powers) ≡ true

-- ---- question 1, from the columns to the lists

flat-finite : (closes : Bool) (gs : List PathResCoeff) (l : List Float) → coeffs_finite closes (length gs) (flat triple gs ++ l) ≡ records_finite closes gs
unfolding records_finite
flat-finite closes [] l = finite-none closes (flat triple [] ++ l)
flat-finite closes (g ∷ []) l = finite-last closes l g
flat-finite closes (g ∷ h ∷ gs) l = finite-more closes l g h gs ∙ ap (λ (b : Bool). (finite (stands_at g) && values_finite g) && b) (flat-finite closes (h ∷ gs) l)

coeffs-finite : (closes : Bool) (n : ℕ) (c : List Float) → 3 * n ≤ length c → coeffs_finite closes n c ≡ records_finite closes (coeffs n c)
coeffs-finite closes n c h =
    ap₂ (λ (k : ℕ) (l : List Float). coeffs_finite closes k l) (sym (length-records triple triple-lawful n c))
    (sym (take-append-drop (3 * n) c) ∙ ap (λ (l : List Float). l ++ drop (3 * n) c) (sym (flat-records triple triple-lawful n c h)))
    ∙ flat-finite closes (coeffs n c) (drop (3 * n) c)

module _ (p : PathTpc) (c : Columns) (h : Within p c) where
  abbrev read : Path
  read = path_of p c

  offsets-read : all_finite (take p.link_count c.offsets) ≡ all_finite (map offset_of read.links)
  unfolding path_of
  offsets-read = ap all_finite (sym (link-offsets p.link_count c.offsets c.numbers h.offsets))

  grades-read : coeffs_finite p.is_finished p.grade_count c.grades ≡ records_finite read.finished read.grades
  unfolding path_of
  grades-read = coeffs-finite p.is_finished p.grade_count c.grades h.grades

  curves-read : coeffs_finite p.is_finished p.curve_count c.curves ≡ records_finite read.finished read.curves
  unfolding path_of
  curves-read = coeffs-finite p.is_finished p.curve_count c.curves h.curves

  speeds-read : all_finite (take (2 * p.speed_count) c.speeds) ≡ all_finite (point_numbers read.speeds)
  unfolding path_of
  speeds-read = ap all_finite (sym (flat-records pair pair-lawful p.speed_count c.speeds h.speeds))

  powers-read : all_finite (take (3 * p.power_count) c.powers) ≡ all_finite (power_numbers read.powers)
  unfolding path_of
  powers-read =
      ap all_finite
      (sym (flat-records three three-lawful p.power_count c.powers h.powers)
      ∙ ap (flat three) (sym (power-threes p.power_count c.powers c.districts)))

  finite-from : path_finite p c ≡ true → FinitePath read
  unfolding path_finite
  finite-from e =
      let a = and_both _ _ e in
      let b = and_both _ _ a.1 in
      let d = and_both _ _ b.1 in
      let f = and_both _ _ d.1 in
      record {
        offsets = sym offsets-read ∙ a.0;
        grades = sym grades-read ∙ b.0;
        curves = sym curves-read ∙ d.0;
        speeds = sym speeds-read ∙ f.0;
        powers = sym powers-read ∙ f.1;
      }

  finite-to : FinitePath read → path_finite p c ≡ true
  unfolding path_finite
  finite-to f = rw (offsets-read ∙ f.offsets, grades-read ∙ f.grades, curves-read ∙ f.curves, speeds-read ∙ f.speeds, powers-read ∙ f.powers)

pub read-finite : (p : PathTpc) (c : Columns) → path_finite p c ≡ true → within_bounds p c ≡ true → FinitePath (path_of p c)
read-finite p c e h = finite-from p c (room p c h) e

-- ---- what is written

module _ (c : Columns) (after : Path) (h : within_bounds (record_of after) c ≡ true) where
  pub written-sound : one_of_each (record_of after) ≡ true → sound_path after ≡ true → sound (record_of after) (columns_of c after) ≡ true
  written-sound one e = sound_more (record_of after) (columns_of c after) one (written-within c after h) ∙ ap sound_path (read_back c after) ∙ e

  pub written-finite : FinitePath after → path_finite (record_of after) (columns_of c after) ≡ true
  written-finite f = finite-to (record_of after) (columns_of c after) (room (record_of after) (columns_of c after) (written-within c after h)) (rw (read_back c after) f)
