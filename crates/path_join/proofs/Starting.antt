-- Where a link's grades end, and the net value that the listed links begin with.
use Prim.Native.Nat.{ℕ, zero, suc, ◌+◌, ◌-◌, ◌<◌}
use native.Mathlib.Omega.{arith}
use mathlib.Core.Path.{◌≡◌, refl, sym, ap, ◌∙◌}
use mathlib.Core.List.{List, [], ◌∷◌}
use lib.ListN.{length, get_or, set}
use lib.Ieee.{Float}
use borrow.Author.Tests.{eq-eqb, ne_eqb}
use Rattle.ieee.specs.Number.{+0, ◌⊕◌}
use Rattle.column.specs.Entries.{filled}
use Rattle.column.specs.Records.{flat, record_at, put_record}
use Rattle.column.proofs.Bridge.{length-records, put-filled}
use Rattle.lookup.specs.declared.path_res_coeff.PathResCoeff.{PathResCoeff}
use Rattle.lookup.specs.Coeff.{triple, coeffs, net_of}
use Rattle.lookup.proofs.Coeffs.{triple-lawful}
use Rattle.link.specs.declared.network.LinkNumbers.{LinkNumbers}
use Rattle.link.specs.Lists.{up_from}
use Rattle.link.specs.Table.{Sample, sample_at, numbers_of}
use Rattle.path.specs.Records.{last_coeff}
use Rattle.path_join.specs.Listed.{Rises, length_at, last_offset, end_from, grade_end}
use Rattle.path_join.specs.Joined.{first_value, starting_net, with_net, start_net}
use Rattle.path.proofs.Counts.{last-record}

-- ---- where a link's grades end

-- the last of a range, by the sample before it
last-offset : (at : ℕ → Sample) (first k : ℕ) → last_offset (at first).offset (up_from at (suc first) k) ≡ (at (first + k)).offset
unfolding up_from
last-offset at first zero = ap (λ (i : ℕ). (at i).offset) (omega arith)
last-offset at first (suc k) = last-offset at (suc first) k ∙ ap (λ (i : ℕ). (at i).offset) (omega arith)

module _ (base length : Float) (at : ℕ → Sample) (first count : ℕ) where
  end_none : count ≡ 0 → end_from base length (up_from at first count) ≡ base ⊕ length
  unfolding up_from
  end_none e = ap (λ (k : ℕ). end_from base length (up_from at first k)) e

  end-one : count ≡ 1 → end_from base length (up_from at first count) ≡ base
  unfolding up_from
  end-one e = ap (λ (k : ℕ). end_from base length (up_from at first k)) e

  end_more : 1 < count → end_from base length (up_from at first count) ≡ base ⊕ (at (first + count - 1)).offset
  unfolding up_from
  end_more h =
      let k = count - 2 in
      let e : count ≡ suc (suc k) = omega arith in
      let f : suc first + k ≡ first + count - 1 = omega arith in
      ap (λ (j : ℕ). end_from base length (up_from at first j)) e
      ∙ ap (λ (o : Float). base ⊕ o) (last-offset at (suc first) k ∙ ap (λ (i : ℕ). (at i).offset) f)

module _ (r : Rises) (base : Float) (n : ℕ) {l : LinkNumbers} (e : l ≡ numbers_of r.links n) where
  -- by the link's numbers
  ends : end_from base (length_at r.lengths n) (up_from (sample_at r.elevs) l.elevs_first l.elevs_count) ≡ grade_end r base n
  unfolding grade_end
  ends = ap (λ (k : LinkNumbers). end_from base (length_at r.lengths n) (up_from (sample_at r.elevs) k.elevs_first k.elevs_count)) e

  -- no elevation
  pub ends-flat : {o : Float} → l.elevs_count ≡ 0 → o ≡ length_at r.lengths n → base ⊕ o ≡ grade_end r base n
  ends-flat z f =
      ap (λ (x : Float). base ⊕ x) f
      ∙ sym (end_none base (length_at r.lengths n) (sample_at r.elevs) l.elevs_first l.elevs_count z)
      ∙ ends

  -- one
  pub ends_there : l.elevs_count ≡ 1 → base ≡ grade_end r base n
  ends_there z = sym (end-one base (length_at r.lengths n) (sample_at r.elevs) l.elevs_first l.elevs_count z) ∙ ends

  -- two or more
  pub ends_last : {s : Sample} → 1 < l.elevs_count → s ≡ sample_at r.elevs (l.elevs_first + l.elevs_count - 1) → base ⊕ s.offset ≡ grade_end r base n
  ends_last h f =
      ap (λ (x : Sample). base ⊕ x.offset) f
      ∙ sym (end_more base (length_at r.lengths n) (sample_at r.elevs) l.elevs_first l.elevs_count h)
      ∙ ends

-- ---- the starting net value

first-none : (net : Float) (at : ℕ → Sample) (first count : ℕ) → count ≡ 0 → first_value net (up_from at first count) ≡ net
unfolding up_from
first-none net at first count e = ap (λ (k : ℕ). first_value net (up_from at first k)) e

first_some : (net : Float) (at : ℕ → Sample) (first count : ℕ) → 0 < count → first_value net (up_from at first count) ≡ (at first).value
unfolding up_from
first_some net at first count h =
    let e : count ≡ suc (count - 1) = omega arith in
    ap (λ (k : ℕ). first_value net (up_from at first k)) e

module _ (links : List ℕ) (elevs : List Float) (m : ℕ) (net : Float) where
  -- not one grade
  pub net-kept : (ns : List ℕ) → (m ≡ 1 → ⊥) → starting_net links elevs m net ns ≡ net
  unfolding starting_net
  net-kept [] h = refl
  net-kept (n ∷ ns) h = rw (ne_eqb m 1 h)

  -- no link
  pub net-unlisted : (ns : List ℕ) → length ns ≡ 0 → starting_net links elevs m net ns ≡ net
  unfolding starting_net
  net-unlisted [] h = refl
  net-unlisted (n ∷ ns) h = absurd (omega arith)

  -- by the numbers of the first link
  net-by : (ns : List ℕ) {l : LinkNumbers} → m ≡ 1 → 0 < length ns → l ≡ numbers_of links (get_or ns 0 0) → starting_net links elevs m net ns ≡ first_value net (up_from (sample_at elevs) l.elevs_first l.elevs_count)
  unfolding starting_net
  net-by [] o h e = absurd (omega arith)
  net-by (n ∷ ns) o h e = rw (eq-eqb m 1 o) (ap (λ (k : LinkNumbers). first_value net (up_from (sample_at elevs) k.elevs_first k.elevs_count)) (sym e))

  module _ (ns : List ℕ) {l : LinkNumbers} (one : m ≡ 1) (some : 0 < length ns) (e : l ≡ numbers_of links (get_or ns 0 0)) where
    -- it has no elevation
    pub net-flat : l.elevs_count ≡ 0 → starting_net links elevs m net ns ≡ net
    net-flat z = net-by ns one some e ∙ first-none net (sample_at elevs) l.elevs_first l.elevs_count z

    -- it has some
    pub net-first : {s : Sample} → 0 < l.elevs_count → s ≡ sample_at elevs l.elevs_first → s.value ≡ starting_net links elevs m net ns
    net-first h f = ap (λ (x : Sample). x.value) f ∙ sym (net-by ns one some e ∙ first_some net (sample_at elevs) l.elevs_first l.elevs_count h)

-- ---- in the column

pub net-stored :
    (links : List ℕ) (elevs : List Float) (ns : List ℕ) (col : List Float) (m : ℕ) {g : PathResCoeff} {net : Float} {l : List Float}
    → 0 < m
    → col ≡ filled +0 (length col) (flat triple (coeffs m col))
    → g ≡ record_at triple col (m - 1)
    → net ≡ starting_net links elevs m (net_of g) ns
    → l ≡ put_record triple col (m - 1) (with_net net g)
    → l ≡ filled +0 (length col) (flat triple (start_net links elevs (coeffs m col) ns))
unfolding start_net
net-stored links elevs ns col m {g} {net} some held e f s =
    let gs = coeffs m col in
    let n = length-records triple triple-lawful m col in
    let last : g ≡ last_coeff gs = e ∙ sym (last-record m col some) in
    s
    ∙ ap (λ (c : List Float). put_record triple c (m - 1) (with_net net g)) held
    ∙ put-filled triple triple-lawful +0 (length col) gs (m - 1) (with_net net g) (omega arith)
    ∙ ap (λ (hs : List PathResCoeff). filled +0 (length col) (flat triple hs))
    (ap (λ (x : Float). set gs (m - 1) (with_net x g)) f
    ∙ ap (λ (k : ℕ). set gs (k - 1) (with_net (starting_net links elevs k (net_of g) ns) g)) (sym n)
    ∙ ap (λ (h : PathResCoeff). set gs (length gs - 1) (with_net (starting_net links elevs (length gs) (net_of h) ns) h)) last)
