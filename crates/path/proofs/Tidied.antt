-- A path whose columns have zeros past the counts: as long as they were, with the same path in them.
use native.Mathlib.Omega.{arith}
use mathlib.Core.Path.{◌≡◌, sym, ap, ap₂, ◌∙◌, subst}
use mathlib.Core.Bool.{Bool, true, ◌&&◌}
use mathlib.Core.List.{map}
use lib.ListN.{length, length-map}
use Rattle.ieee.specs.Number.{+0}
use Rattle.column.specs.Records.{flat, three, four}
use Rattle.column.proofs.Filling.{length-filled, filled-again}
use Rattle.column.proofs.Bridge.{three-lawful, four-lawful, length-flat}
use Rattle.speed.specs.Column.{pair}
use Rattle.speed.proofs.PointColumn.{pair-lawful}
use Rattle.lookup.specs.Coeff.{triple}
use Rattle.lookup.proofs.Coeffs.{triple-lawful}
use Rattle.link.specs.Table.{PowerLimit}
use Rattle.path.specs.declared.path_tpc.PathTpc.{PathTpc}
use Rattle.path.specs.Records.{Columns, Path, offset_of, four_of, three_of, path_of, columns_of, record_of}
use Rattle.path.specs.Answers.{left, changed}
use Rattle.path.specs.Sound.{within_bounds, sound_path, one_of_each, sound}
use Rattle.path.proofs.ReadBack.{counted, read_again}
use Rattle.path.proofs.Clauses.{room}

-- columns as long as others
pub record Long (l c : Columns) : Type 0 where
  pub offsets : length l.offsets ≡ length c.offsets
  pub numbers : length l.numbers ≡ length c.numbers
  pub grades : length l.grades ≡ length c.grades
  pub curves : length l.curves ≡ length c.curves
  pub speeds : length l.speeds ≡ length c.speeds
  pub powers : length l.powers ≡ length c.powers
  pub districts : length l.districts ≡ length c.districts

-- what depends on their lengths alone
module _ {l c : Columns} (e : Long l c) where
  pub columns-long : (x : Path) → columns_of l x ≡ columns_of c x
  unfolding columns_of
  columns-long x = cc (e.offsets, e.numbers, e.grades, e.curves, e.speeds, e.powers, e.districts)

  pub changed-long : (x : Path) → changed l x ≡ changed c x
  unfolding changed
  changed-long x = ap (left _) (columns-long x)

  pub within-long : (p : PathTpc) → within_bounds p l ≡ within_bounds p c
  unfolding within_bounds
  within-long p = rw (e.offsets, e.numbers, e.grades, e.curves, e.speeds, e.powers, e.districts)

-- written twice is written once
pub written-again : (c : Columns) (after : Path) → columns_of (columns_of c after) after ≡ columns_of c after
unfolding columns_of
written-again c after =
    cc (
      filled-again +0 (length c.offsets) (map offset_of after.links),
      filled-again 0 (length c.numbers) (flat four (map four_of after.links)),
      filled-again +0 (length c.grades) (flat triple after.grades),
      filled-again +0 (length c.curves) (flat triple after.curves),
      filled-again +0 (length c.speeds) (flat pair after.speeds),
      filled-again +0 (length c.powers) (flat three (map three_of after.powers)),
      filled-again 0 (length c.districts) (map (λ p. p.district) after.powers),
    )

-- a path that is written to columns in which it fits: they stay as long as they were
module _ (c : Columns) (after : Path) (h : within_bounds (record_of after) c ≡ true) where
  pub written-long : Long (columns_of c after) c
  unfolding columns_of record_of
  written-long =
      let w = room (record_of after) c h in
      let links = after.links in
      let powers = after.powers in
      record {
        offsets = length-filled +0 (length c.offsets) (map offset_of links) (omega (arith, w.offsets, length-map links offset_of));
        numbers = length-filled 0 (length c.numbers) (flat four (map four_of links)) (omega (arith, w.numbers, length-flat four four-lawful (map four_of links), length-map links four_of));
        grades = length-filled +0 (length c.grades) (flat triple after.grades) (omega (arith, w.grades, length-flat triple triple-lawful after.grades));
        curves = length-filled +0 (length c.curves) (flat triple after.curves) (omega (arith, w.curves, length-flat triple triple-lawful after.curves));
        speeds = length-filled +0 (length c.speeds) (flat pair after.speeds) (omega (arith, w.speeds, length-flat pair pair-lawful after.speeds));
        powers = length-filled +0 (length c.powers) (flat three (map three_of powers)) (omega (arith, w.powers, length-flat three three-lawful (map three_of powers), length-map powers three_of));
        districts = length-filled 0 (length c.districts) (map (λ p. p.district) powers) (omega (arith, w.districts, length-map powers (λ (p : PowerLimit). p.district)));
      }

  pub written-within : within_bounds (record_of after) (columns_of c after) ≡ true
  written-within = within-long written-long (record_of after) ∙ h

module _ (p : PathTpc) (c : Columns) (w : within_bounds p c ≡ true) {l : Columns} (e : l ≡ columns_of c (path_of p c)) where
  pub tidy-long : Long l c
  tidy-long = subst (λ (k : Columns). Long k c) (sym e) (written-long c (path_of p c) (ap (λ (q : PathTpc). within_bounds q c) (counted p c) ∙ w))

  pub tidy-again : l ≡ columns_of l (path_of p l)
  tidy-again = e ∙ sym (ap (columns_of l) (read_again p c e) ∙ columns-long tidy-long (path_of p c))

  pub tidy-sound : sound p l ≡ sound p c
  unfolding sound
  tidy-sound = ap₂ (λ (b : Bool) (x : Path). one_of_each p && (b && sound_path x)) (within-long tidy-long p) (read_again p c e)
