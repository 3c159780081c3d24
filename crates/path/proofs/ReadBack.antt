-- A path in its record and columns: read back as it was written, and written back as it was read.
use Prim.Native.Nat.{ℕ, zero, suc, ◌*◌, ◌≤◌}
use native.Mathlib.Nat.{not-suc-le-zero, le_of_suc-le-suc}
use mathlib.Core.Path.{◌≡◌, refl, sym, ap, ◌∙◌}
use mathlib.Core.List.{List, [], ◌∷◌, ◌++◌, map}
use lib.ListN.{length, take, drop}
use lib.Ieee.{Float}
use Rattle.ieee.specs.Number.{+0}
use Rattle.column.specs.declared.Three.{Three}
use Rattle.column.specs.declared.Four.{Four}
use Rattle.column.specs.Entries.{filled, zero_from}
use Rattle.column.specs.Records.{records, flat, record_at, three, four}
use Rattle.column.proofs.Bridge.{three-lawful, four-lawful, length-records, records-flat, zero-filled}
use Rattle.speed.specs.Column.{pair}
use Rattle.speed.proofs.PointColumn.{pair-lawful}
use Rattle.lookup.specs.Coeff.{triple}
use Rattle.lookup.proofs.Coeffs.{triple-lawful}
use Rattle.link.specs.Table.{PowerLimit}
use Rattle.path.specs.declared.path_tpc.PathTpc.{PathTpc}
use Rattle.path.specs.Records.{Columns, columns, offset_of, four_of, link_points, three_of, power_limits, Path, path_of, columns_of, record_of}
use Rattle.path.proofs.LinkPoints.{length-links, links-back}

-- ---- power limits

pub length-powers : (n : ℕ) (ws : List Float) (ds : List ℕ) → length (power_limits n ws ds) ≡ n
unfolding power_limits
length-powers zero ws ds = refl
length-powers (suc n) ws ds = ap suc (length-powers n (drop 3 ws) (drop 1 ds))

-- what was written is read back
pub powers-back : (ls : List PowerLimit) (xs : List Float) (ys : List ℕ) → power_limits (length ls) (flat three (map three_of ls) ++ xs) (map (λ p. p.district) ls ++ ys) ≡ ls
unfolding power_limits flat record_at
powers-back [] xs ys = refl
powers-back (l ∷ ls) xs ys = ap (λ (t : List PowerLimit). l ∷ t) (powers-back ls xs ys)

-- ---- a path

-- what was written is read back
pub read_back : (c : Columns) (path : Path) → path_of (record_of path) (columns_of c path) ≡ path
unfolding path_of record_of columns_of filled
read_back c path =
    rw (
      links-back path.links _ _,
      records-flat triple triple-lawful path.grades _,
      records-flat triple triple-lawful path.curves _,
      records-flat pair pair-lawful path.speeds _,
      powers-back path.powers _ _,
    )

-- the lists have as many records as the counts say
pub counted : (p : PathTpc) (c : Columns) → record_of (path_of p c) ≡ p
unfolding path_of record_of
counted p c =
    rw (
      length-links p.link_count c.offsets c.numbers,
      length-records triple triple-lawful p.grade_count c.grades,
      length-records triple triple-lawful p.curve_count c.curves,
      length-records pair pair-lawful p.speed_count c.speeds,
      length-powers p.power_count c.powers c.districts,
    )

-- ---- zeros past the counts

-- the counts lie inside the columns
pub record Within (p : PathTpc) (c : Columns) : Type 0 where
  pub offsets : p.link_count ≤ length c.offsets
  pub numbers : 4 * p.link_count ≤ length c.numbers
  pub grades : 3 * p.grade_count ≤ length c.grades
  pub curves : 3 * p.curve_count ≤ length c.curves
  pub speeds : 2 * p.speed_count ≤ length c.speeds
  pub powers : 3 * p.power_count ≤ length c.powers
  pub districts : p.power_count ≤ length c.districts

pub link-offsets : (n : ℕ) (os : List Float) (ns : List ℕ) → n ≤ length os → map offset_of (link_points n os ns) ≡ take n os
unfolding link_points
link-offsets zero os ns h = refl
link-offsets (suc n) [] ns h = absurd (not-suc-le-zero h)
link-offsets (suc n) (o ∷ os) ns h = ap (λ (l : List Float). o ∷ l) (link-offsets n os (drop 4 ns) (le_of_suc-le-suc h))

pub link-fours : (n : ℕ) (os : List Float) (ns : List ℕ) → map four_of (link_points n os ns) ≡ records four n ns
unfolding link_points records record_at
link-fours zero os ns = refl
link-fours (suc n) os ns = ap (λ (l : List Four). four.unpack ns ∷ l) (link-fours n (drop 1 os) (drop 4 ns))

pub power-threes : (n : ℕ) (ws : List Float) (ds : List ℕ) → map three_of (power_limits n ws ds) ≡ records three n ws
unfolding power_limits records record_at
power-threes zero ws ds = refl
power-threes (suc n) ws ds = ap (λ (l : List Three). three.unpack ws ∷ l) (power-threes n (drop 3 ws) (drop 1 ds))

pub power-districts : (n : ℕ) (ws : List Float) (ds : List ℕ) → n ≤ length ds → map (λ p. p.district) (power_limits n ws ds) ≡ take n ds
unfolding power_limits
power-districts zero ws ds h = refl
power-districts (suc n) ws [] h = absurd (not-suc-le-zero h)
power-districts (suc n) ws (d ∷ ds) h = ap (λ (l : List ℕ). d ∷ l) (power-districts n (drop 3 ws) ds (le_of_suc-le-suc h))

-- a path that is written where it was read: the entries past the counts become zero
pub tidy : (p : PathTpc) (c : Columns) → Within p c
    → columns_of c (path_of p c)
    ≡ columns
    (zero_from +0 p.link_count c.offsets)
    (zero_from 0 (4 * p.link_count) c.numbers)
    (zero_from +0 (3 * p.grade_count) c.grades)
    (zero_from +0 (3 * p.curve_count) c.curves)
    (zero_from +0 (2 * p.speed_count) c.speeds)
    (zero_from +0 (3 * p.power_count) c.powers)
    (zero_from 0 p.power_count c.districts)
unfolding path_of columns_of zero_from
tidy p c h =
    rw (
      link-offsets p.link_count c.offsets c.numbers h.offsets,
      link-fours p.link_count c.offsets c.numbers,
      power-threes p.power_count c.powers c.districts,
      power-districts p.power_count c.powers c.districts h.districts,
      ← zero-filled four four-lawful 0 p.link_count c.numbers h.numbers,
      ← zero-filled triple triple-lawful +0 p.grade_count c.grades h.grades,
      ← zero-filled triple triple-lawful +0 p.curve_count c.curves h.curves,
      ← zero-filled pair pair-lawful +0 p.speed_count c.speeds h.speeds,
      ← zero-filled three three-lawful +0 p.power_count c.powers h.powers,
    )

-- and is read again as it was
pub read_again : (p : PathTpc) (c : Columns) {l : Columns} → l ≡ columns_of c (path_of p c) → path_of p l ≡ path_of p c
read_again p c e = ap (path_of p) e ∙ ap (λ (q : PathTpc). path_of q (columns_of c (path_of p c))) (sym (counted p c)) ∙ read_back c (path_of p c)
