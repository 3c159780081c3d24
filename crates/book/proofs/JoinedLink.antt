-- A link joined to a path: where its records stand, and that they begin at the link's end.
use Prim.Native.Nat.{ℕ, suc, ◌+◌, ◌-◌, ◌≤◌, ◌<◌}
use native.Mathlib.Omega.{arith}
use mathlib.Core.Path.{◌≡◌, refl, sym, ap, ap₂, ◌∙◌}
use mathlib.Core.Logic.{inl, inr}
use mathlib.Core.Bool.{Bool, true, false, cond}
use mathlib.Core.List.{List, [], ◌∷◌, ◌++◌, map, map-append, append-nil}
use lib.Dec.{eqb}
use lib.ListN.{length, get_or, take, set, length-append, length-set, length-map, get_or-append, get_or-map}
use lib.Seq.{append_snoc, take_all, take-append-le, take-set-le, take-suc-set, get_or-append-add, get_or_at, map-set_same}
use lib.Ieee.{Float, binary64, nan}
use borrow.Author.Tests.{eqb-true}
use Rattle.ieee.specs.Number.{+0, ◌⊕◌}
use Rattle.ieee.proofs.Sum.{add_comm}
use Rattle.ieee.proofs.Round.{split}
use Rattle.lookup.specs.declared.path_res_coeff.PathResCoeff.{PathResCoeff}
use Rattle.lookup.specs.Coeff as coeff
use Rattle.lookup.specs.Coeff.{res_coeff_record, no_coeff, stands_at, net_of}
use Rattle.link.specs.declared.train_params.TrainParams.{TrainParams}
use Rattle.link.specs.Table.{LinkTable, link_at, numbers_of}
use Rattle.link.specs.Questions.{well_formed}
use Rattle.link.proofs.Known.{and_both}
use Rattle.path.specs.declared.link_point.LinkPoint.{LinkPoint}
use Rattle.path.specs.Records.{link_point, offset_of, grade_count_of, curve_count_of, no_link_point, end_point, last_coeff}
use Rattle.path.specs.Sound.{total, count_of, end_counts_zero}
use Rattle.path.proofs.Counts.{total-fewer, total-next}
use Rattle.path_stretches.specs.declared.stretch.Stretch.{Stretch}
use Rattle.std.specs.Prelude.{Option, Some, None}
use Rattle.si.specs.declared.Ratio.{Ratio}
use Rattle.path_stretches.specs.Stretches.{stretches, given, with_coefficient, lay_stretch, lay_stretches, offset_after}
use Rattle.path_join.specs.Listed.{rises_of, length_at, samples_at, grades_in, curves_in, powers_in}
use Rattle.path_join.specs.Joined.{join_point, join_records}
use Rattle.book.specs.Book.{Book, last_end, enter_link}
use Rattle.book.specs.Demand.{TableF64}
use Rattle.book.proofs.Matching.{Begun}
use Rattle.book.proofs.LinkEnds.{last-end}
use Rattle.book.proofs.LinkRecordsEnd.{records-many, records-end}
use Rattle.path.proofs.Lasts.{total-append}

-- ---- where records stand

pub stands : (rs : List PathResCoeff) (i : ℕ) → coeff.offset_at rs i ≡ get_or (map stands_at rs) i +0
stands rs i = sym (get_or-map stands_at rs i no_coeff)

-- ---- records laid for stretches

abbrev end_of : Stretch → Float
end_of s = s.offset.0

keeps-place : (s : Stretch) (g : PathResCoeff) → stands_at (with_coefficient s g) ≡ stands_at g
keeps-place s g = pick s.coefficient
  where
    pick : (c : Option Ratio) → stands_at (given c g) ≡ stands_at g
    pick None = refl
    pick (Some c) = refl

one-laid : (gs : List PathResCoeff) (s : Stretch) → map stands_at (lay_stretch gs s) ≡ map stands_at gs ++ end_of s ∷ []
one-laid gs s =
    let g = with_coefficient s (last_coeff gs) in
    map-append stands_at (set gs (length gs - 1) g) (res_coeff_record (end_of s) +0 s.net.0 ∷ [])
    ∙ ap (λ (l : List Float). l ++ end_of s ∷ []) (map-set_same stands_at gs (length gs - 1) g no_coeff (keeps-place s (last_coeff gs)))

-- those before stay where they are, and one stands at each stretch's end
laid : (gs : List PathResCoeff) (ss : List Stretch) → map stands_at (lay_stretches gs ss) ≡ map stands_at gs ++ map end_of ss
unfolding lay_stretches
laid gs [] = sym (append-nil (map stands_at gs))
laid gs (s ∷ ss) =
    laid (lay_stretch gs s) ss
    ∙ ap (λ (l : List Float). l ++ map end_of ss) (one-laid gs s)
    ∙ append_snoc (map stands_at gs) (end_of s) (map end_of ss)

after_last : (o : Float) (ss : List Stretch) → get_or (o ∷ map end_of ss) (length ss) +0 ≡ offset_after o ss
unfolding offset_after
after_last o [] = refl
after_last o (s ∷ ss) = after_last (end_of s) ss

-- the last one; i is the last place before
laid-last : (zs : List Float) (ss : List Stretch) (i : ℕ) → i + 1 ≡ length zs → get_or (zs ++ map end_of ss) (i + length ss) +0 ≡ offset_after (get_or zs i +0) ss
unfolding offset_after
laid-last zs [] i h = ap₂ (λ (l : List Float) (k : ℕ). get_or l k +0) (append-nil zs) (omega arith)
laid-last zs (s ∷ ss) i h =
    let e : i + suc (length ss) ≡ length zs + length ss = omega arith in
    ap (λ (k : ℕ). get_or (zs ++ end_of s ∷ map end_of ss) k +0) e
    ∙ get_or-append-add zs (end_of s ∷ map end_of ss) (length ss) +0
    ∙ after_last (end_of s) ss

-- ---- the end point becomes p, and q follows

abbrev with_end : List LinkPoint → LinkPoint → LinkPoint → List LinkPoint
with_end ps p q = set ps (length ps - 1) p ++ q ∷ []

module _ (count : LinkPoint → ℕ) (ps : List LinkPoint) (p q : LinkPoint) (some : 0 < length ps) where
  part-more : (k : ℕ) → k < length ps → total count (take k (with_end ps p q)) ≡ total count (take k ps)
  part-more k h =
      let i = length ps - 1 in
      ap (total count) (take-append-le k (set ps i p) (q ∷ []) (omega (arith, length-set ps i p)) ∙ take-set-le k ps i p (omega arith))

  -- an end point that counts none
  but_last : count (end_point ps) ≡ 0 → total count (take (length ps - 1) ps) ≡ total count ps
  but_last none =
      let i = length ps - 1 in
      omega (arith, ap (total count) (take_all (suc i) ps (omega arith)), total-next count i ps (omega arith), none)

  total-more : count (end_point ps) ≡ 0 → count q ≡ 0 → total count (with_end ps p q) ≡ total count ps + count p
  unfolding total
  total-more none z =
      let i = length ps - 1 in
      let there : set ps i p ≡ take i ps ++ p ∷ [] = sym (take_all (suc i) (set ps i p) (omega (arith, length-set ps i p))) ∙ take-suc-set ps i p (omega arith) in
      omega (arith, total-append count (set ps i p) (q ∷ []), ap (total count) there, total-append count (take i ps) (p ∷ []), but_last none, z)

-- ---- both

module _ (count : LinkPoint → ℕ) (ps : List LinkPoint) (p q : LinkPoint) (rs : List PathResCoeff) (ss : List Stretch) (ends : List Float) (e : Float)
    (some : 0 < length ps) (none : count (end_point ps) ≡ 0) (many-ends : length ends ≡ length ps) (g : Begun count ps rs ends 1) where
  before : (i : ℕ) → i ≤ total count ps → coeff.offset_at (lay_stretches rs ss) i ≡ coeff.offset_at rs i
  before i h =
      stands (lay_stretches rs ss) i
      ∙ ap (λ (l : List Float). get_or l i +0) (laid rs ss)
      ∙ get_or-append (map stands_at rs) (map end_of ss) +0 i (omega (arith, h, length-map rs stands_at, g.counted))
      ∙ sym (stands rs i)

  -- each link's records, and after them the next link's
  begins : (k : ℕ) → k < length ps → coeff.offset_at rs (total count (take k ps)) ≡ get_or ends k nan
  begins k h =
      elim (split (k + 1) (length ends)) [
        | inl l ↦ g.begin k l
        | inr l ↦
            let i : k ≡ length ps - 1 = omega arith in
            let j : length ends - 1 ≡ k = omega arith in
            ap (coeff.offset_at rs) (ap (λ (n : ℕ). total count (take n ps)) i ∙ but_last count ps p q some none) ∙ g.last ∙ ap (λ (n : ℕ). get_or ends n nan) j
      ]

  more-begun : count q ≡ 0 → length ss ≡ count p → offset_after (last_end ends) ss ≡ e → Begun count (with_end ps p q) (lay_stretches rs ss) (ends ++ e ∷ []) 1
  more-begun z many there =
      let sum : total count (with_end ps p q) ≡ total count ps + length ss = omega (arith, total-more count ps p q some none z, many) in
      record {
        begin = λ k h.
            let l : k < length ps = omega (arith, h, length-append ends (e ∷ []), many-ends) in
            ap (coeff.offset_at (lay_stretches rs ss)) (part-more count ps p q some k l)
            ∙ before (total count (take k ps)) (total-fewer count k ps)
            ∙ begins k l
            ∙ sym (get_or-append ends (e ∷ []) nan k (omega arith));
        last =
            ap (coeff.offset_at (lay_stretches rs ss)) sum
            ∙ stands (lay_stretches rs ss) (total count ps + length ss)
            ∙ ap (λ (l : List Float). get_or l (total count ps + length ss) +0) (laid rs ss)
            ∙ laid-last (map stands_at rs) ss (total count ps) (omega (arith, length-map rs stands_at, g.counted))
            ∙ ap (λ (o : Float). offset_after o ss) (sym (stands rs (total count ps)) ∙ g.last)
            ∙ there
            ∙ sym (get_or_at ends e [] nan (length (ends ++ e ∷ []) - 1) (omega (arith, length-append ends (e ∷ []))));
        counted = omega (arith, sum, g.counted, sym (length-map (lay_stretches rs ss) stands_at), ap length (laid rs ss), length-append (map stands_at rs) (map end_of ss), length-map rs stands_at, length-map ss end_of);
      }

-- ---- a link

point-counts : (curves : Bool) (o : Float) (g c p n : ℕ) → count_of curves (link_point o g c p n) ≡ cond curves c g
point-counts true o g c p n = refl
point-counts false o g c p n = refl

none-counted : (curves : Bool) (o : Float) (n : ℕ) → count_of curves (link_point o 0 0 0 n) ≡ 0
none-counted true o n = refl
none-counted false o n = refl

end-counts : (curves : Bool) (ps : List LinkPoint) → end_counts_zero ps ≡ true → count_of curves (end_point ps) ≡ 0
unfolding end_counts_zero
end-counts true ps e = let q = end_point ps in eqb-true (curve_count_of q) 0 (and_both (eqb (curve_count_of q) 0) _ (and_both (eqb (grade_count_of q) 0) _ e).1).0
end-counts false ps e = let q = end_point ps in eqb-true (grade_count_of q) 0 (and_both (eqb (grade_count_of q) 0) _ e).0

-- its records begin at its end, and the one after them stands at the next end
pub join-begun : (curves : Bool) (train : TrainParams) (own : Float) (t : LinkTable) (b : Book) (ps : List LinkPoint) (rs : List PathResCoeff) (n : ℕ)
    → TableF64 t → well_formed t n ≡ true → 0 < length ps → end_counts_zero ps ≡ true → map offset_of ps ≡ b.ends → Begun (count_of curves) ps rs b.ends 1
    → Begun (count_of curves) (join_point t.links t.lengths ps n) (join_records curves train (rises_of t) t.headings (last_end b.ends) rs n) (enter_link train own t b n).ends 1
unfolding join_point join_records enter_link link_at
join-begun curves train own t b ps rs n whole passed some free at-ends g =
    let base = last_end b.ends in
    let long = length_at t.lengths n in
    let o = offset_of (end_point ps) in
    let number = (numbers_of t.links n).idx_curr in
    let p = link_point o (grades_in t.links n) (curves_in t.links n) (powers_in t.links n) number in
    let net = net_of (last_coeff rs) in
    let ss = stretches curves train base net long (samples_at curves (rises_of t) t.headings n) in
    more-begun (count_of curves) ps p (link_point (long ⊕ o) 0 0 0 number) rs ss b.ends (base ⊕ long) some (end-counts curves ps free)
    (ap length (sym at-ends) ∙ length-map ps offset_of) g
    (none-counted curves (long ⊕ o) number)
    (records-many curves train t base net n ∙ sym (point-counts curves o (grades_in t.links n) (curves_in t.links n) (powers_in t.links n) number))
    (records-end t n whole passed curves train base net ∙ add_comm binary64 long base)

-- ---- its link points

pub joined-ends : (train : TrainParams) (own : Float) (t : LinkTable) (b : Book) (ps : List LinkPoint) (n : ℕ) → 0 < length ps → map offset_of ps ≡ b.ends
    → map offset_of (join_point t.links t.lengths ps n) ≡ (enter_link train own t b n).ends
unfolding join_point enter_link link_at
joined-ends train own t b ps n some e =
    let o = offset_of (end_point ps) in
    let long = length_at t.lengths n in
    let number = (numbers_of t.links n).idx_curr in
    let p = link_point o (grades_in t.links n) (curves_in t.links n) (powers_in t.links n) number in
    map-append offset_of (set ps (length ps - 1) p) (link_point (long ⊕ o) 0 0 0 number ∷ [])
    ∙ ap₂ (λ (l : List Float) (x : Float). l ++ x ∷ []) (map-set_same offset_of ps (length ps - 1) p no_link_point refl ∙ e) (add_comm binary64 long o ∙ ap (λ (x : Float). x ⊕ long) (sym (last-end ps b.ends e some)))
