-- What a path shows of itself: its counts, its numbers, its closing offsets, the order of its speed points; written to its columns it passes questions 1
-- and 2.
use Prim.Native.Nat.{ℕ, ◌+◌, ◌≤◌, ◌<◌}
use native.Mathlib.Omega.{arith}
use mathlib.Core.Path.{◌≡◌, refl, sym, ap, ap₂, ◌∙◌, subst}
use mathlib.Core.Bool.{Bool, true, false, ◌&&◌}
use mathlib.Core.List.{List, [], ◌∷◌}
use lib.Dec.{T, eqb, leb}
use lib.ListN.{length}
use lib.Ieee as Ieee
use lib.Ieee.{Float}
use lib.Ieee.Bits.{is_true}
use borrow.Author.Tests.{eq-eqb, eqb-true, le-leb, leb-true}
use Rattle.ieee.specs.Number.{real, all_finite}
use Rattle.ieee.proofs.Order.{eq_refl, of-true}
use Rattle.speed.specs.Points.{Point, offset_at}
use Rattle.speed.specs.Posted.{SortedFrom, Sorted}
use Rattle.link.proofs.Known.{and_both}
use Rattle.path.specs.declared.path_tpc.PathTpc.{PathTpc}
use Rattle.path.specs.Records.{Columns, is_within_all, offset_of, grade_count_of, curve_count_of, power_count_of, link_point_at, Path, path_of, columns_of, record_of}
use Rattle.path.specs.Sound.{path_finite, one_of_each, within_bounds, total, totals, spare, add_up, counts_add_up, closed_at_infinity, end_counts_zero, offsets_rise, numbers_real, links_sound, never_fall, sorted_from, count_of, first_at_offset, sound_path, sound}
use Rattle.path.proofs.Clauses.{within_all, sound_more, sound-within}
use Rattle.path.proofs.ReadBack.{counted}
use Rattle.path.proofs.Written.{records_finite, power_numbers, FinitePath, read-finite}

-- what a path has to show beside its link points and speed points
pub record Own (path : Path) : Type 0 where
  pub powers-counted : total power_count_of path.links ≡ length path.powers
  pub closed : closed_at_infinity path ≡ true
  pub end-zero : end_counts_zero path.links ≡ true
  pub numbers : numbers_real path.links ≡ true
  pub grades-finite : records_finite path.finished path.grades ≡ true
  pub curves-finite : records_finite path.finished path.curves ≡ true
  pub powers-finite : all_finite (power_numbers path.powers) ≡ true

-- what is to stay: the path, written to the columns c, passes questions 1 and 2
abbrev pub Stays : Columns → Path → Type 0
Stays c after = (path_finite (record_of after) (columns_of c after) ≡ true) × (sound (record_of after) (columns_of c after) ≡ true)

-- ---- speed points in order

never-falls : (o : Float) (ps : List Point) → SortedFrom o ps → never_fall o ps ≡ true
unfolding never_fall
never-falls o [] h = refl
never-falls o (p ∷ ps) h = ap₂ ◌&&◌ (is_true (Ieee.le o p.offset) h.0) (never-falls p.offset ps h.1)

pub in-order-from : (o : Float) (ps : List Point) → offset_at ps 0 ≡ o → T (real o) → Sorted ps → sorted_from o ps ≡ true
unfolding sorted_from
in-order-from o [] e r h = refl
in-order-from o (p ∷ ps) e r h = ap₂ ◌&&◌ (ap (λ (x : Float). Ieee.eq x o) e ∙ is_true (Ieee.eq o o) (eq_refl o r)) (never-falls p.offset ps h)

-- and the other way round
from-order : (o : Float) (ps : List Point) → never_fall o ps ≡ true → SortedFrom o ps
unfolding never_fall
from-order o [] e = tt
from-order o (p ∷ ps) e =
    let t = and_both (Ieee.le o p.offset) _ e in
    (of-true t.0, from-order p.offset ps t.1)

pub points-order : (o : Float) (ps : List Point) → sorted_from o ps ≡ true → Sorted ps
unfolding sorted_from
points-order o [] e = tt
points-order o (p ∷ ps) e = from-order p.offset ps (and_both (Ieee.eq p.offset o) _ e).1

pub points-begin : (o : Float) (ps : List Point) → sorted_from o ps ≡ true → 0 < length ps → T (Ieee.eq (offset_at ps 0) o)
unfolding sorted_from
points-begin o [] e h = absurd (omega arith)
points-begin o (p ∷ ps) e h = of-true (and_both (Ieee.eq p.offset o) _ e).0

pub points-some : (o : Float) (ps : List Point) → offset_at ps 0 ≡ o → T (real o) → 0 < length ps
points-some o [] e r = absurd (subst (λ (x : Float). T (real x)) (sym e) r)
points-some o (p ∷ ps) e r = omega arith

-- ---- the clauses of a sound path

pub record Clauses (path : Path) : Type 0 where
  pub rise : offsets_rise path.links ≡ true
  pub order : sorted_from (offset_of (link_point_at path.links 0)) path.speeds ≡ true
  pub first-grades : first_at_offset (count_of false) 0 path.links path.grades ≡ true
  pub first-curves : first_at_offset (count_of true) 0 path.links path.curves ≡ true

pub clauses : (path : Path) → sound_path path ≡ true → Clauses path
unfolding sound_path links_sound
clauses path e =
    let closed = (and_both (counts_add_up path) _ e).1 in
    let links = (and_both (closed_at_infinity path) _ closed).1 in
    let known = and_both (end_counts_zero path.links && (offsets_rise path.links && numbers_real path.links)) _ links in
    let numbers = (and_both (end_counts_zero path.links) (offsets_rise path.links && numbers_real path.links) known.0).1 in
    let points = and_both (sorted_from (offset_of (link_point_at path.links 0)) path.speeds) _ known.1 in
    let firsts = and_both (first_at_offset (count_of false) 0 path.links path.grades) (first_at_offset (count_of true) 0 path.links path.curves) points.1 in
    record { rise = (and_both (offsets_rise path.links) (numbers_real path.links) numbers).0; order = points.0; first-grades = firsts.0; first-curves = firsts.1 }

-- ---- the counts

pub add-up : (path : Path) → length path.grades ≡ total grade_count_of path.links + spare path.finished
    → length path.curves ≡ total curve_count_of path.links + spare path.finished
    → total power_count_of path.links ≡ length path.powers → counts_add_up path ≡ true
unfolding counts_add_up add_up totals record_of
add-up path g k w = ap₂ ◌&&◌ (eq-eqb _ _ (sym g)) (ap₂ ◌&&◌ (eq-eqb _ _ (sym k)) (eq-eqb _ _ w))

pub spare-some : (finished : Bool) → 1 ≤ spare finished
spare-some true = omega arith
spare-some false = omega arith

pub one_each : (path : Path) → 0 < length path.links → 0 < length path.grades → 0 < length path.curves → 0 < length path.speeds → one_of_each (record_of path) ≡ true
unfolding one_of_each record_of
one_each path l g k s = ap₂ ◌&&◌ (le-leb _ _ l) (ap₂ ◌&&◌ (le-leb _ _ g) (ap₂ ◌&&◌ (le-leb _ _ k) (le-leb _ _ s)))

-- ---- fewer records fit where more do

-- no more of any kind
pub record NoMore (q p : PathTpc) : Type 0 where
  pub links : q.link_count ≤ p.link_count
  pub grades : q.grade_count ≤ p.grade_count
  pub curves : q.curve_count ≤ p.curve_count
  pub speeds : q.speed_count ≤ p.speed_count
  pub powers : q.power_count ≤ p.power_count

fewer-all : (m n bound a b : ℕ) → m ≤ n → is_within_all n bound a b ≡ true → is_within_all m bound a b ≡ true
fewer-all m n bound a b h e =
    let w = within_all n bound a b e in
    ap₂ ◌&&◌ (le-leb m bound (omega (arith, w.0))) (ap₂ ◌&&◌ (le-leb m a (omega (arith, w.1))) (le-leb m b (omega (arith, w.2))))

pub fewer-within : (q p : PathTpc) (c : Columns) → NoMore q p → within_bounds p c ≡ true → within_bounds q c ≡ true
unfolding within_bounds
fewer-within q p c h e =
    let l = and_both _ _ e in
    let g = and_both _ _ l.1 in
    let k = and_both _ _ g.1 in
    let s = and_both _ _ k.1 in
    ap₂ ◌&&◌ (fewer-all q.link_count p.link_count _ _ _ h.links l.0)
    (ap₂ ◌&&◌ (fewer-all q.grade_count p.grade_count _ _ _ h.grades g.0)
    (ap₂ ◌&&◌ (fewer-all q.curve_count p.curve_count _ _ _ h.curves k.0)
    (ap₂ ◌&&◌ (fewer-all q.speed_count p.speed_count _ _ _ h.speeds s.0)
    (fewer-all q.power_count p.power_count _ _ _ h.powers s.1))))

-- ---- a path that passes questions 1 and 2, as a call finds it

pub record Before (path : Path) (c : Columns) : Type 0 where
  pub own : Own path
  pub within : within_bounds (record_of path) c ≡ true
  pub some-link : 0 < length path.links
  pub grades-counted : length path.grades ≡ total grade_count_of path.links + spare path.finished
  pub curves-counted : length path.curves ≡ total curve_count_of path.links + spare path.finished

pub added-up : (path : Path) → counts_add_up path ≡ true
    → (length path.grades ≡ total grade_count_of path.links + spare path.finished)
    × (length path.curves ≡ total curve_count_of path.links + spare path.finished)
    × (total power_count_of path.links ≡ length path.powers)
unfolding counts_add_up add_up totals record_of
added-up path e =
    let s = spare path.finished in
    let g = and_both (eqb (total grade_count_of path.links + s) (length path.grades)) _ e in
    let k = and_both (eqb (total curve_count_of path.links + s) (length path.curves)) (eqb (total power_count_of path.links) (length path.powers)) g.1 in
    (sym (eqb-true _ _ g.0), sym (eqb-true _ _ k.0), eqb-true _ _ k.1)

length_some : (path : Path) → one_of_each (record_of path) ≡ true → 0 < length path.links
unfolding one_of_each record_of
length_some path e = leb-true 1 (length path.links) (and_both (leb 1 (length path.links)) _ e).0

before-path : (path : Path) (c : Columns) → FinitePath path → one_of_each (record_of path) ≡ true → within_bounds (record_of path) c ≡ true → sound_path path ≡ true → Before path c
unfolding sound_path links_sound
before-path path c f one within e =
    let counts = and_both (counts_add_up path) _ e in
    let closed = and_both (closed_at_infinity path) _ counts.1 in
    let links = and_both (end_counts_zero path.links && (offsets_rise path.links && numbers_real path.links)) _ closed.1 in
    let ended = and_both (end_counts_zero path.links) (offsets_rise path.links && numbers_real path.links) links.0 in
    let n = added-up path counts.0 in
    record {
      own = record {
        powers-counted = n.2;
        closed = closed.0;
        end-zero = ended.0;
        numbers = (and_both (offsets_rise path.links) (numbers_real path.links) ended.1).1;
        grades-finite = f.grades;
        curves-finite = f.curves;
        powers-finite = f.powers;
      };
      within = within;
      some-link = length_some path one;
      grades-counted = n.0;
      curves-counted = n.1;
    }

pub before : (p : PathTpc) (c : Columns) → path_finite p c ≡ true → sound p c ≡ true → Before (path_of p c) c
before p c f s =
    let w = sound-within p c s in
    before-path (path_of p c) c (read-finite p c f w.1)
    (ap one_of_each (counted p c) ∙ w.0)
    (ap (λ (q : PathTpc). within_bounds q c) (counted p c) ∙ w.1)
    (sym (sound_more p c w.0 w.1) ∙ s)
