-- Link points of the listed links: one more in the two columns, and those that are left.
use Prim.Native.Nat.{ℕ, ◌+◌, ◌-◌, ◌*◌, ◌≤◌, ◌<◌}
use native.Mathlib.Nat.{add-zero}
use native.Mathlib.Omega.{arith}
use mathlib.Core.Path.{◌≡◌, refl, sym, ap, ap₂, ◌∙◌}
use mathlib.Core.List.{List, [], ◌∷◌, ◌++◌, map, map-append}
use lib.ListN.{length, get_or, set, length-append, length-map, length-set}
use lib.Seq.{map-set_same}
use lib.Ieee.{Float}
use Rattle.ieee.specs.Number.{+0, ◌⊕◌}
use Rattle.column.specs.declared.Four.{Four}
use Rattle.column.specs.Entries.{filled}
use Rattle.column.specs.Records.{flat, put_record, four}
use Rattle.column.proofs.Bridge.{four-lawful, put-filled, push-filled}
use Rattle.link.specs.declared.network.LinkNumbers.{LinkNumbers}
use Rattle.link.specs.Table.{numbers_of}
use Rattle.path.specs.declared.link_point.LinkPoint.{LinkPoint}
use Rattle.path.specs.Records.{link_point, offset_of, four_of, link_points, no_link_point, end_point}
use Rattle.path.proofs.LinkPoints.{length-links, end-at, links-back}
use Rattle.path_stretches.specs.Stretches.{record_count}
use Rattle.path_join.specs.Joined.{join_point}
use Rattle.path_join.specs.ByKind.{joined_points, HoldsPoints}
use Rattle.column.proofs.Filling.{push-entry, set-map}

-- ---- the end point becomes p, and q follows
module _ {os os' : List Float} {ns ns' ns'' : List ℕ} {ps : List LinkPoint} {n : ℕ} (p q : LinkPoint) where
  push-point :
      HoldsPoints os ns ps
      → length ps ≡ n
      → 0 < n
      → n < length os
      → 4 * (n + 1) ≤ length ns
      → offset_of p ≡ offset_of (end_point ps)
      → length os' ≡ length os
      → length ns'' ≡ length ns
      → ns' ≡ put_record four ns (n - 1) (four_of p)
      → os' ≡ set os n (offset_of q)
      → ns'' ≡ put_record four ns' n (four_of q)
      → HoldsPoints os' ns'' (set ps (length ps - 1) p ++ q ∷ [])
  push-point h e some place room same on nn a b d =
      let rs = set ps (length ps - 1) p in
      let xs = map offset_of ps in
      let fs = map four_of ps in
      let gs = map four_of rs in
      let xn : n ≡ length xs = sym (length-map ps offset_of ∙ e) in
      let fn : length fs ≡ n = length-map ps four_of ∙ e in
      let gn : n ≡ length gs = sym (length-map rs four_of ∙ length-set ps (length ps - 1) p ∙ e) in
      let first : ns' ≡ filled 0 (length ns) (flat four gs) =
      a
      ∙ ap (λ (l : List ℕ). put_record four l (n - 1) (four_of p)) h.numbers
      ∙ put-filled four four-lawful 0 (length ns) fs (n - 1) (four_of p) (omega arith)
      ∙ ap (λ (l : List Four). filled 0 (length ns) (flat four l)) (ap (λ (k : ℕ). set fs (k - 1) (four_of p)) (sym e) ∙ set-map four_of ps (length ps - 1) p) in
      record {
        offsets =
            b
            ∙ ap₂ (λ (l : List Float) (k : ℕ). set l k (offset_of q)) h.offsets xn
            ∙ push-entry +0 (length os) xs (offset_of q) (omega arith)
            ∙ ap₂ (λ (k : ℕ) (l : List Float). filled +0 k (l ++ offset_of q ∷ [])) (sym on) (sym (map-set_same offset_of ps (length ps - 1) p no_link_point same))
            ∙ ap (filled +0 (length os')) (sym (map-append offset_of rs (q ∷ [])));
        numbers =
            d
            ∙ ap₂ (λ (l : List ℕ) (k : ℕ). put_record four l k (four_of q)) first gn
            ∙ push-filled four four-lawful 0 (length ns) gs (four_of q) (omega arith)
            ∙ ap₂ (λ (k : ℕ) (l : List Four). filled 0 k (flat four l)) (sym nn) (sym (map-append four_of rs (q ∷ [])));
      }

-- by what the code reads of the link
abbrev joined_with : List LinkPoint → Float → Float → ℕ → ℕ → LinkNumbers → List LinkPoint
joined_with ps base o g k l =
    set ps (length ps - 1) (link_point base g k l.powers_count l.idx_curr) ++ link_point (o ⊕ base) 0 0 0 l.idx_curr ∷ []

pub point-joined :
    (links : List ℕ) (lengths os : List Float) (ns : List ℕ) (n i : ℕ) {os' : List Float} {ns' ns'' : List ℕ} {l : LinkNumbers} {base o : Float} {g k : ℕ}
    → 0 < n
    → n < length os
    → 4 * (n + 1) ≤ length ns
    → HoldsPoints os ns (link_points n os ns)
    → l ≡ numbers_of links i
    → base ≡ get_or os (n - 1) +0
    → o ≡ get_or lengths i +0
    → g ≡ record_count l.elevs_count
    → k ≡ record_count l.headings_count
    → ns' ≡ put_record four ns (n - 1) (four_of (link_point base g k l.powers_count l.idx_curr))
    → os' ≡ set os n (o ⊕ base)
    → ns'' ≡ put_record four ns' n (four_of (link_point (o ⊕ base) 0 0 0 l.idx_curr))
    → length os' ≡ length os
    → length ns'' ≡ length ns
    → HoldsPoints os' ns'' (join_point links lengths (link_points n os ns) i)
unfolding join_point
point-joined links lengths os ns n i {l = l} {base} {o} {g} {k} some place room held e b f u v s t w on nn =
    let ps = link_points n os ns in
    let same : base ≡ offset_of (end_point ps) = b ∙ sym (ap offset_of (end-at n os ns some)) in
    let whole : joined_with ps base o g k l ≡ join_point links lengths ps i =
    ap₂ (λ (x y : ℕ). joined_with ps base o x y l) u v
    ∙ ap₂ (λ (x y : Float). joined_with ps x y (record_count l.elevs_count) (record_count l.headings_count) l) same f
    ∙ ap (λ (q : LinkNumbers). joined_with ps (offset_of (end_point ps)) (get_or lengths i +0) (record_count q.elevs_count) (record_count q.headings_count) q) e in
    rw whole at (push-point (link_point base g k l.powers_count l.idx_curr) (link_point (o ⊕ base) 0 0 0 l.idx_curr) held (length-links n os ns) some place room same on nn s t w)

-- ---- read back
module _ {os : List Float} {ns : List ℕ} {ps : List LinkPoint} (h : HoldsPoints os ns ps) where
  -- what two columns hold is what is read from them
  pub points-held : link_points (length ps) os ns ≡ ps
  unfolding filled
  points-held = ap₂ (λ (a : List Float) (b : List ℕ). link_points (length ps) a b) h.offsets h.numbers ∙ links-back ps _ _

-- ---- those that are left

-- Two columns hold m link points; with those of the links `left` behind them they are `goal`.
pub record PointsLeft (links : List ℕ) (lengths : List Float) (goal : List LinkPoint) (left : List ℕ) (os : List Float) (ns : List ℕ) (m : ℕ) : Type 0 where
  pub held : HoldsPoints os ns (link_points m os ns)
  pub is : joined_points links lengths (link_points m os ns) left ≡ goal

-- no link yet
pub points-first : (links : List ℕ) (lengths : List Float) (left : List ℕ) (os : List Float) (ns : List ℕ) (n : ℕ) → HoldsPoints os ns (link_points n os ns) → PointsLeft links lengths (joined_points links lengths (link_points n os ns) left) left os ns (n + 0)
points-first links lengths left os ns n h =
    rw (add-zero n) (record { held = h; is = refl })

module _ {links : List ℕ} {lengths : List Float} {goal : List LinkPoint} {left : List ℕ} {os : List Float} {ns : List ℕ} {m : ℕ} (g : PointsLeft links lengths goal left os ns m) where
  length-joined : (i : ℕ) → length (join_point links lengths (link_points m os ns) i) ≡ m + 1
  unfolding join_point
  length-joined i =
      let ps = link_points m os ns in
      length-append (set ps (length ps - 1) _) _ ∙ ap (λ (k : ℕ). k + 1) (length-set ps (length ps - 1) _ ∙ length-links m os ns)

  -- one link more
  pub points-next :
      {os' : List Float} {ns' : List ℕ} {m' i : ℕ} {rest : List ℕ}
      → left ≡ i ∷ rest
      → m' ≡ m + 1
      → HoldsPoints os' ns' (join_point links lengths (link_points m os ns) i)
      → PointsLeft links lengths goal rest os' ns' m'
  unfolding joined_points
  points-next {os'} {ns'} {m'} {i} {rest} e f h =
      let ps = join_point links lengths (link_points m os ns) i in
      let same : link_points m' os' ns' ≡ ps = ap (λ (k : ℕ). link_points k os' ns') (f ∙ sym (length-joined i)) ∙ points-held h in
      record {
        held = rw same h;
        is = ap (λ (qs : List LinkPoint). joined_points links lengths qs rest) same ∙ sym (ap (joined_points links lengths (link_points m os ns)) e) ∙ g.is;
      }

  -- no link is left
  pub points-done : left ≡ [] → HoldsPoints os ns goal
  unfolding joined_points
  points-done e =
      let same : link_points m os ns ≡ goal = sym (ap (joined_points links lengths (link_points m os ns)) e) ∙ g.is in
      rw same at g.held
