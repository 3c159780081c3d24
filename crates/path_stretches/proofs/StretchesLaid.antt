-- Stretches laid on the records of a column: one stored, one laid, and those that are left.
use Prim.Native.Nat.{ℕ, suc, ◌+◌, ◌-◌, ◌*◌, ◌≤◌, ◌<◌}
use native.Mathlib.Omega.{arith}
use mathlib.Core.Path.{◌≡◌, refl, sym, ap, ap₂, ◌∙◌, subst}
use mathlib.Core.Bool.{Bool}
use mathlib.Core.List.{List}
use lib.ListN.{length, get_or, set, length-append, length-set}
use lib.Seq.{get_or-set_other, set-get_or}
use lib.Ieee.{Float}
use Rattle.std.specs.Prelude.{Option, Some, None}
use Rattle.si.specs.declared.Ratio.{Ratio}
use Rattle.ieee.specs.Number.{+0}
use Rattle.column.specs.Entries.{filled}
use Rattle.column.specs.Records.{flat, record_at, put_record}
use Rattle.column.specs.declared.Three.{Three}
use Rattle.column.proofs.ByEntry.{three-entries, three-put}
use Rattle.column.proofs.Filling.{length-filled}
use Rattle.column.proofs.Bridge.{length-flat, records-flat, read-filled, put-filled, push-filled}
use Rattle.lookup.specs.declared.path_res_coeff.PathResCoeff.{PathResCoeff}
use Rattle.lookup.specs.Coeff.{triple, coeffs, no_coeff, res_coeff_record, stands_at, coefficient_of, net_of}
use Rattle.lookup.proofs.Coeffs.{triple-lawful, length-coeffs}
use Rattle.link.specs.declared.train_params.TrainParams.{TrainParams}
use Rattle.link.specs.Lists.{up_from}
use Rattle.link.specs.Table.{Sample}
use Rattle.path.specs.Records.{last_coeff}
use Rattle.path_stretches.specs.declared.stretch.Stretch.{Stretch}
use Rattle.path_stretches.specs.Stretches.{stretch_step, flat_stretch, stretches, given, with_coefficient, lay_stretch, lay_stretches}
use Rattle.path_stretches.specs.declared.coeff_column.CoeffColumn.{CoeffColumn}
use Rattle.path_stretches.specs.Column.{Holds}
use Rattle.path_stretches.specs.Becomes.{coeffs_of, Becomes}
use Rattle.path_stretches.proofs.StretchSteps.{stretches_at, stretches-more, stretches-none, stretches-flat, stretches-all}

-- ---- one stretch stored

-- the two stores, at record m - 1 and at record m
abbrev pub stored_at : List Float → ℕ → Stretch → List Float
stored_at l m s = put_record triple (put_record triple l (m - 1) (with_coefficient s (record_at triple l (m - 1)))) m (res_coeff_record s.offset.0 +0 s.net.0)

-- a record with another coefficient: one entry is stored
one_entry : (l : List Float) (i : ℕ) (c : Float) → let g = record_at triple l i in put_record triple l i (res_coeff_record (stands_at g) c (net_of g)) ≡ set l (3 * i + 1) c
unfolding put_record record_at
one_entry l i c =
    let g = record_at triple l i in
    let first : stands_at g ≡ get_or l (3 * i) +0 = ap (λ (t : Three). t.0) (three-entries l i) in
    let third : net_of g ≡ get_or l (3 * i + 2) +0 = ap (λ (t : Three). t.2) (three-entries l i) in
    let other : get_or (set l (3 * i + 1) c) (3 * i + 2) +0 ≡ get_or l (3 * i + 2) +0 = get_or-set_other l (3 * i + 1) (3 * i + 2) c +0 (λ e. omega arith) in
    three-put l i (record { 0 = stands_at g; 1 = c; 2 = net_of g })
    ∙ ap (λ (x : Float). set (set (set l (3 * i) x) (3 * i + 1) c) (3 * i + 2) (net_of g)) first
    ∙ ap (λ (x : List Float). set (set x (3 * i + 1) c) (3 * i + 2) (net_of g)) (set-get_or l (3 * i) +0)
    ∙ ap (set (set l (3 * i + 1) c) (3 * i + 2)) (third ∙ sym other)
    ∙ set-get_or (set l (3 * i + 1) c) (3 * i + 2) +0

-- the entry with the coefficient given, or as it is
abbrev pub given_entry : Option Ratio → List Float → ℕ → List Float
given_entry None l i = l
given_entry (Some c) l i = set l i c.0

-- the coefficient given, stored
given-stored : (l : List Float) (m : ℕ) (c : Float) → 0 < m → let g = record_at triple l (m - 1) in set l (3 * m - 2) c ≡ put_record triple l (m - 1) (res_coeff_record (stands_at g) c (net_of g))
given-stored l m c some =
    let e : 3 * m - 2 ≡ 3 * (m - 1) + 1 = omega arith in
    ap (λ (k : ℕ). set l k c) e ∙ sym (one_entry l (m - 1) c)

-- the record left as it is
same_stored : (l : List Float) (i : ℕ) → l ≡ put_record triple l i (record_at triple l i)
unfolding put_record record_at
same_stored l i =
    let g = record_at triple l i in
    let second : coefficient_of g ≡ get_or l (3 * i + 1) +0 = ap (λ (t : Three). t.1) (three-entries l i) in
    sym (one_entry l i (coefficient_of g) ∙ ap (set l (3 * i + 1)) second ∙ set-get_or l (3 * i + 1) +0)

-- a column with the coefficient given or not
pub stored_given : (l : List Float) (m : ℕ) (o : Option Ratio) {col : List Float} → 0 < m → col ≡ given_entry o l (3 * m - 2) → col ≡ put_record triple l (m - 1) (given o (record_at triple l (m - 1)))
stored_given l m None some e = e ∙ same_stored l (m - 1)
stored_given l m (Some c) some e = e ∙ given-stored l m c.0 some

-- by the three entries that the code stores after it
pub stored : (l : List Float) (m : ℕ) (s : Stretch) {col : List Float} → col ≡ put_record triple l (m - 1) (with_coefficient s (record_at triple l (m - 1))) → set (set (set col (3 * m) s.offset.0) (3 * m + 1) +0) (3 * m + 2) s.net.0 ≡ stored_at l m s
unfolding put_record
stored l m s e =
    ap (λ (x : List Float). set (set (set x (3 * m) s.offset.0) (3 * m + 1) +0) (3 * m + 2) s.net.0) e
    ∙ sym (three-put (put_record triple l (m - 1) (with_coefficient s (record_at triple l (m - 1)))) m (record { 0 = s.offset.0; 1 = +0; 2 = s.net.0 }))

-- ---- one stretch laid
module _ (gs : List PathResCoeff) (s : Stretch) where
  length-lay : length (lay_stretch gs s) ≡ length gs + 1
  length-lay = length-append (set gs (length gs - 1) (with_coefficient s (last_coeff gs))) _ ∙ ap (λ (k : ℕ). k + 1) (length-set gs (length gs - 1) (with_coefficient s (last_coeff gs)))

  lay-filled : (n : ℕ) → 0 < length gs → 3 * suc (length gs) ≤ n → stored_at (filled +0 n (flat triple gs)) (length gs) s ≡ filled +0 n (flat triple (lay_stretch gs s))
  lay-filled n some room =
      let l = filled +0 n (flat triple gs) in
      let i = length gs - 1 in
      let g = with_coefficient s (last_coeff gs) in
      let t = res_coeff_record s.offset.0 +0 s.net.0 in
      let e : length (set gs i g) ≡ length gs = length-set gs i g in
      ap (λ (x : PathResCoeff). put_record triple (put_record triple l i (with_coefficient s x)) (length gs) t) (read-filled triple triple-lawful +0 n gs i no_coeff (omega arith))
      ∙ ap (λ (x : List Float). put_record triple x (length gs) t) (put-filled triple triple-lawful +0 n gs i g (omega arith))
      ∙ ap (λ (k : ℕ). put_record triple (filled +0 n (flat triple (set gs i g))) k t) (sym e)
      ∙ push-filled triple triple-lawful +0 n (set gs i g) t (omega arith)

-- ---- a column that holds records

pub holds-coeffs : (c : List Float) (gs : List PathResCoeff) (n : ℕ) → Holds c gs → n ≡ length gs → coeffs n c ≡ gs
unfolding filled
holds-coeffs c gs n h e = ap (λ (k : ℕ). coeffs k c) e ∙ ap (coeffs (length gs)) h.is ∙ records-flat triple triple-lawful gs _

module _ (c : List Float) (n : ℕ) (held : Holds c (coeffs n c)) where
  pub some-coeffs : 0 < n
  some-coeffs = omega (arith, held.some, length-coeffs n c)

  pub fits-coeffs : 3 * n ≤ length c
  fits-coeffs = omega (arith, held.fits, length-coeffs n c)

  laid : {d : List Float} (s : Stretch) → 3 * (n + 1) ≤ length c → d ≡ stored_at c n s → Holds d (lay_stretch (coeffs n c) s)
  laid {d} s room e =
      let gs = coeffs n c in
      let l : length gs ≡ n = length-coeffs n c in
      let more = length-lay gs s in
      let is : d ≡ filled +0 (length c) (flat triple (lay_stretch gs s)) = e ∙ ap₂ (λ (x : List Float) (k : ℕ). stored_at x k s) held.is (sym l) ∙ lay-filled gs s (length c) held.some (omega arith) in
      let k : length d ≡ length c = ap length is ∙ length-filled +0 (length c) (flat triple (lay_stretch gs s)) (omega (arith, length-flat triple triple-lawful (lay_stretch gs s))) in
      record { some = omega arith; fits = omega arith; is = is ∙ ap (λ (j : ℕ). filled +0 j (flat triple (lay_stretch gs s))) (sym k) }

  -- the records after it, for the next call
  pub next-laid : {d : List Float} (s : Stretch) → 3 * (n + 1) ≤ length c → d ≡ stored_at c n s → (coeffs (n + 1) d ≡ lay_stretch (coeffs n c) s) × Holds d (coeffs (n + 1) d)
  next-laid {d} s room e =
      let h = laid s room e in
      let f = holds-coeffs d (lay_stretch (coeffs n c) s) (n + 1) h (omega (arith, length-lay (coeffs n c) s, length-coeffs n c)) in
      (f, subst (Holds d) (sym f) h)

-- ---- one change after another

pub becomes-as : {c d : CoeffColumn} {hs : List PathResCoeff} (gs : List PathResCoeff) → Becomes c d hs → hs ≡ gs → Becomes c d gs
becomes-as {c} {d} gs h e = subst (Becomes c d) e h

pub becomes-on : {b c d : CoeffColumn} {hs gs : List PathResCoeff} → Becomes b c hs → Becomes c d gs → Becomes b d (coeffs_of d)
becomes-on g h = record { same = h.same ∙ g.same; long = h.long ∙ g.long; holds = refl }

-- ---- the stretches of a link
module _ (step : Float → Sample → Sample → Stretch) (at : ℕ → Sample) (end : ℕ) (net : Float) (i : ℕ) (gs : List PathResCoeff) where
  -- one laid
  pub lay-next : {s : Stretch} → i < end → s ≡ step net (at (i - 1)) (at i) → lay_stretches gs (stretches_at step at end net i) ≡ lay_stretches (lay_stretch gs s) (stretches_at step at end s.net.0 (i + 1))
  unfolding lay_stretches
  lay-next h e = rw e (ap (lay_stretches gs) (stretches-more step at end net i h))

  -- none left
  pub lay-none : end ≤ i → lay_stretches gs (stretches_at step at end net i) ≡ gs
  unfolding lay_stretches
  lay-none h = ap (lay_stretches gs) (stretches-none step at end net i h)

module _ (curves : Bool) (train : TrainParams) (base length : Float) (at : ℕ → Sample) (first count : ℕ) (gs : List PathResCoeff) {g : PathResCoeff} (last : g ≡ last_coeff gs) where
  abbrev all : List PathResCoeff
  all = lay_stretches gs (stretches curves train base (net_of (last_coeff gs)) length (up_from at first count))

  -- they begin with the net value that the code reads
  net-read : all ≡ lay_stretches gs (stretches curves train base (net_of g) length (up_from at first count))
  net-read = ap (λ (h : PathResCoeff). lay_stretches gs (stretches curves train base (net_of h) length (up_from at first count))) (sym last)

  pub lay-flat : {s : Stretch} → count ≡ 0 → s ≡ flat_stretch base (net_of g) length → lay_stretch gs s ≡ all
  unfolding lay_stretches
  lay-flat none e = ap (lay_stretch gs) e ∙ sym (net-read ∙ ap (lay_stretches gs) (stretches-flat curves train base (net_of g) length at first count none))

  pub lay-all : 0 < count → lay_stretches gs (stretches_at (stretch_step curves train base) at (first + count) (net_of g) (first + 1)) ≡ all
  lay-all more = sym (net-read ∙ ap (lay_stretches gs) (stretches-all curves train base (net_of g) length at first count more))
