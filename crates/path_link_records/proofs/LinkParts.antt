-- `link_grades` and `link_curves`: the counts that locate a link's records, the questions, and what is handed back.
use Prim.Native.Nat.{ℕ, ◌+◌, ◌-◌, ◌*◌, ◌≤◌, ◌<◌}
use native.Mathlib.Omega.{arith}
use mathlib.Core.Path.{◌≡◌, refl, sym, ap, ap₂, ◌∙◌}
use mathlib.Core.Bool.{Bool, true, false, cond}
use mathlib.Core.List.{List, [], ◌∷◌}
use lib.Dec.{ltb}
use borrow.Author.Tests.{ne_eqb, lt-ltb, le-ltb, ltb-true}
use Rattle.std.proofs.Common.{ltb-false}
use lib.ListN.{length, take, drop}
use lib.Ieee.{Float}
use Rattle.path.specs.declared.path_tpc.PathTpc.{PathTpc}
use Rattle.std.specs.Borrow.{Bor}
use Rattle.std.specs.Prelude.{Result, Ok, Err}
use Rattle.std.specs.Result.{IsErrAnd}
use Rattle.answer.specs.declared.Answer.{Answer}
use Rattle.answer.specs.declared.Refusal.{Refusal}
use Rattle.answer.specs.Answers.{number, done, refusal}
use Rattle.path.proofs.Told.{numbered}
use Rattle.path.specs.declared.link_point.LinkPoint.{LinkPoint}
use Rattle.path.specs.Records.{Columns, link_points, point_at, no_link_point, path_of}
use Rattle.path.specs.Answers.{is_done, ask}
use Rattle.path.specs.Sound.{sound, path_answer, total, totals, count_of}
use Rattle.path.proofs.LinkPoints.{link_at}
use Rattle.path.proofs.InTurn.{turn-no, turn-yes, turn-done, first_done, last_one, judged-done}
use Rattle.path.proofs.Clauses.{sound-within, some-link, sound-fewer, bounds, room}
use Rattle.path_link_records.specs.declared.link_records.Range.{Range}
use Rattle.path_link_records.specs.declared.link_records.RangeAnswer.{RangeAnswer}
use Rattle.path_link_records.specs.LinkRecords.{part_answer, range_of, link_range_of, part_of, column_of, handed_back, link_grades_of, link_curves_of, link_records_of, part_told, range_told}
use Rattle.path.proofs.Numbers.{take-links}
use Rattle.path.proofs.Counts.{links-fewer, links-one-more, count-of-totals}

-- ---- the records of link k, located by the points before it
range-of-links :
    (count : LinkPoint → ℕ) (os : List Float) (ns : List ℕ) (k n : ℕ)
    → k < n
    → range_of count k (link_points n os ns) ≡ record { from = 3 * total count (link_points k os ns); len = 3 * count (point_at os ns k) }
unfolding range_of
range-of-links count os ns k n h =
    ap₂ (λ (qs : List LinkPoint) (p : LinkPoint). record { from = 3 * total count qs; len = 3 * count p }) (take-links k n os ns (omega arith)) (link_at n os ns k no_link_point h)

-- it is the same whatever link points follow
range_same : (count : LinkPoint → ℕ) (os : List Float) (ns : List ℕ) (k n : ℕ) → k < n → range_of count k (link_points (k + 1) os ns) ≡ range_of count k (link_points n os ns)
range_same count os ns k n h = range-of-links count os ns k (k + 1) (omega arith) ∙ sym (range-of-links count os ns k n h)

-- the range ends where the records of the next link begin
pub range-end : (count : LinkPoint → ℕ) (os : List Float) (ns : List ℕ) (k : ℕ) {r : Range} → r ≡ range_of count k (link_points (k + 1) os ns) → r.from + r.len ≡ 3 * total count (link_points (k + 1) os ns)
range-end count os ns k e =
    let f = e ∙ range-of-links count os ns k (k + 1) (omega arith) in
    omega (arith, ap (λ (r : Range). r.from) f, ap (λ (r : Range). r.len) f, links-one-more count os ns k)

-- the range as the code finds it: `first` records come before it, and it has m
module _ (curves : Bool) (os : List Float) (ns : List ℕ) (k : ℕ) {point own : LinkPoint} {first m : ℕ}
    (e₁ : point ≡ totals (link_points k os ns)) (e₂ : own ≡ point_at os ns k) (e₃ : first ≡ count_of curves point) (e₄ : m ≡ count_of curves own) where
  first-is : first ≡ total (count_of curves) (link_points k os ns)
  first-is = e₃ ∙ ap (count_of curves) e₁ ∙ count-of-totals curves (link_points k os ns)

  many-are : m ≡ count_of curves (point_at os ns k)
  many-are = e₄ ∙ ap (count_of curves) e₂

  pub located : first + m ≡ total (count_of curves) (link_points (k + 1) os ns)
  located = ap₂ ◌+◌ first-is many-are ∙ sym (links-one-more (count_of curves) os ns k)

  pub range-is : record { from = 3 * first; len = 3 * m } ≡ range_of (count_of curves) k (link_points (k + 1) os ns)
  range-is = ap₂ (λ (a b : ℕ). record { from = 3 * a; len = 3 * b }) first-is many-are ∙ sym (range-of-links (count_of curves) os ns k (k + 1) (omega arith))

-- the part as the code takes it
pub part-is :
    (count : LinkPoint → ℕ) (os : List Float) (ns : List ℕ) (k : ℕ) (col : List Float) {r : Range}
    → r ≡ range_of count k (link_points (k + 1) os ns)
    → take (r.from + r.len - r.from) (drop r.from col) ≡ part_of count k (link_points (k + 1) os ns) col
unfolding part_of
part-is count os ns k col {r} e =
    let d : r.from + r.len - r.from ≡ r.len = omega arith in
    ap (λ (n : ℕ). take n (drop r.from col)) d ∙ ap (λ (q : Range). take q.len (drop q.from col)) e

before-last : (k n : ℕ) → 0 < n → ltb k (n - 1) ≡ ltb (k + 1) n
before-last k n h = go (ltb k (n - 1)) refl
  where
    go : (b : Bool) → ltb k (n - 1) ≡ b → b ≡ ltb (k + 1) n
    go true e = sym (lt-ltb (k + 1) n (omega (arith, ltb-true k (n - 1) e)))
    go false e = sym (le-ltb (k + 1) n (omega (arith, ltb-false k (n - 1) e)))

module _ (k : ℕ) (p : PathTpc) (c : Columns) where
  abbrev tenth : List Answer
  tenth = ask 10 (ltb (k + 1) p.link_count) ∷ []

  -- ---- the questions
  -- r is the code's answer to questions 1 and 2
  module _ {r : Answer} (e : r ≡ path_answer true p c) where
    pub part-first : (r.number ≡ 0 → ⊥) → part_answer k p c ≡ r
    unfolding part_answer
    part-first h = turn-no (path_answer true p c) tenth e h

    module _ (t : r.number ≡ 0) where
      pub some-points : 0 < p.link_count
      some-points = some-link p c (sound-within p c (judged-done true p c e t).2).0

      pub part-10 : {b : Bool} → b ≡ ltb k (p.link_count - 1) → ask 10 b ≡ part_answer k p c
      unfolding part_answer
      part-10 f = ap (ask 10) (f ∙ before-last k p.link_count some-points) ∙ sym (turn-yes (path_answer true p c) tenth e t ∙ last_one 9 (ltb (k + 1) p.link_count))

  -- what a call that is not refused knows
  part-done : done ≡ part_answer k p c → (sound p c ≡ true) × (k + 1 < p.link_count)
  unfolding part_answer
  part-done e =
      let first = turn-done (path_answer true p c) tenth (ap (λ (a : Answer). a.number) (sym e)) in
      ((judged-done true p c refl first.0).2, ltb-true (k + 1) p.link_count (first_done 9 [] (ltb (k + 1) p.link_count) first.1).0)

  -- ---- the counts lie within the column
  module _ (h : sound p c ≡ true) where
    counts-within : (curves : Bool) → 3 * total (count_of curves) (link_points p.link_count c.offsets c.numbers) ≤ length (column_of curves c)
    unfolding totals
    counts-within true = omega (arith, (sound-fewer p c h).1, (room p c (sound-within p c h).1).curves)
    counts-within false = omega (arith, (sound-fewer p c h).0, (room p c (sound-within p c h).1).grades)

    counts-bounded : (curves : Bool) → total (count_of curves) (link_points p.link_count c.offsets c.numbers) ≤ 16384
    unfolding totals
    counts-bounded true = omega (arith, (sound-fewer p c h).1, bounds p c (sound-within p c h).1)
    counts-bounded false = omega (arith, (sound-fewer p c h).0, bounds p c (sound-within p c h).1)

  module _ (curves : Bool) where
    -- ---- what is handed back
    abbrev own_part : List Float
    own_part = part_of (count_of curves) k (path_of p c).links (column_of curves c)

    parts : link_records_of curves k p c ≡ handed_back (part_answer k p c) own_part
    unfolding link_grades_of link_curves_of
    parts = go curves
      where
        go : (b : Bool) → link_records_of b k p c ≡ handed_back (part_answer k p c) (part_of (count_of b) k (path_of p c).links (column_of b c))
        go true = refl
        go false = refl

    abbrev answered : Answer → Range → RangeAnswer
    answered a r = record { answer = a; range = cond (is_done a) r (record { from = 0; len = 0 }) }

    abbrev own_range : Range
    own_range = range_of (count_of curves) k (path_of p c).links

    -- a refusal that `?` hands on
    pub none-handed : (s : Result (Bor (List Float)) Refusal) (f : Refusal) → refusal f ≡ part_answer k p c → IsErrAnd s (λ g. g ≡ f) → part_told s ≡ link_records_of curves k p c
    none-handed (Ok l) f e h = absurd h
    none-handed (Err g) f e h =
        ap (λ (r : Refusal). record { answer = refusal r; part = [] }) h
        ∙ ap (λ (b : Bool). record { answer = refusal f; part = cond b own_part [] }) (sym (ne_eqb (number f.question) 0 (numbered f.question)))
        ∙ ap (λ (a : Answer). handed_back a own_part) e
        ∙ sym parts

    pub no-range : (s : Result Range Refusal) (f : Refusal) → refusal f ≡ part_answer k p c → IsErrAnd s (λ g. g ≡ f) → range_told s ≡ link_range_of curves k p c
    unfolding link_range_of
    no-range (Ok r) f e h = absurd h
    no-range (Err g) f e h =
        ap (λ (r : Refusal). range_told (Err r)) h
        ∙ ap (λ (b : Bool). record { answer = refusal f; range = cond b own_range (record { from = 0; len = 0 }) }) (sym (ne_eqb (number f.question) 0 (numbered f.question)))
        ∙ ap (λ (a : Answer). answered a own_range) e

    -- the questions are answered with yes
    module _ (e : done ≡ part_answer k p c) where
      -- what `record_range` asks for
      pub inside :
          (k < 1025)
          × ((total (count_of curves) (link_points (k + 1) c.offsets c.numbers) ≤ 16384)
          × (3 * total (count_of curves) (link_points (k + 1) c.offsets c.numbers) ≤ length (column_of curves c)))
      inside =
          let known = part-done e in
          let few = (bounds p c (sound-within p c known.0).1).0 in
          let fewer = links-fewer (count_of curves) c.offsets c.numbers (k + 1) p.link_count (omega arith) in
          (omega arith, (omega (arith, counts-bounded known.0 curves, fewer), omega (arith, counts-within known.0 curves, fewer)))

      -- r is the range as the code finds it, and col the column
      module _ {r : Range} (g : r ≡ range_of (count_of curves) k (link_points (k + 1) c.offsets c.numbers)) where
        same : r ≡ range_of (count_of curves) k (link_points p.link_count c.offsets c.numbers)
        same = let known = part-done e in g ∙ range_same (count_of curves) c.offsets c.numbers k p.link_count (omega arith)

        pub range-handed : range_told (Ok r) ≡ link_range_of curves k p c
        unfolding link_range_of path_of
        range-handed = ap (answered done) same ∙ ap (λ (a : Answer). answered a own_range) e

        pub range-few : r.from + r.len ≤ 49152
        range-few = let known = inside.1.0 in omega (arith, range-end (count_of curves) c.offsets c.numbers k g)

        module _ {col : List Float} (h : col ≡ column_of curves c) where
          pub range-within : r.from + r.len ≤ length col
          range-within = let known = inside.1.1 in omega (arith, range-end (count_of curves) c.offsets c.numbers k g, ap length h)

          pub part-handed : handed_back done (take (r.from + r.len - r.from) (drop r.from col)) ≡ link_records_of curves k p c
          unfolding path_of part_of
          part-handed =
              ap (handed_back done)
              (part-is (count_of curves) c.offsets c.numbers k col g
              ∙ ap (λ (l : List Float). part_of (count_of curves) k (link_points (k + 1) c.offsets c.numbers) l) h
              ∙ ap (λ (q : Range). take q.len (drop q.from (column_of curves c))) (sym g ∙ same))
              ∙ ap (λ (a : Answer). handed_back a own_part) e
              ∙ sym parts
