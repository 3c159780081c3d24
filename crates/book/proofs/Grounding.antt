-- Each link's grades and curves begin at its end: kept by every call.
use Prim.Native.Nat.{ℕ, zero, suc, ◌+◌, ◌-◌, ◌≤◌, ◌<◌}
use native.Mathlib.Omega.{arith}
use mathlib.Core.Path.{◌≡◌, refl, sym, ap, ap₂, ◌∙◌}
use mathlib.Core.Bool.{Bool, true, false, cond}
use mathlib.Core.List.{List, [], ◌∷◌, ◌++◌, map}
use lib.ListN.{length, get_or, take, drop, set, take-append-drop, length-append, length-drop, length-map, get_or-append}
use lib.Seq.{take-add, get_or-drop, get_or_at, map-set_same}
use lib.Ieee as Ieee
use lib.Ieee.{Float, nan}
use Rattle.ieee.specs.Number.{+0}
use Rattle.lookup.specs.declared.path_res_coeff.PathResCoeff.{PathResCoeff}
use Rattle.lookup.specs.Coeff as coeff
use Rattle.lookup.specs.Coeff.{no_coeff, stands_at}
use Rattle.link.specs.declared.train_params.TrainParams.{TrainParams}
use Rattle.link.specs.Table.{LinkTable}
use Rattle.link.specs.Questions.{well_formed}
use Rattle.path.specs.declared.link_point.LinkPoint.{LinkPoint}
use Rattle.path.specs.Records.{Path, offset_of, grade_count_of, curve_count_of, power_count_of, number_of, no_link_point, last_coeff}
use Rattle.path.specs.Sound.{total, totals, spare, count_of, end_counts_zero}
use Rattle.path.proofs.Counts.{total-fewer, count-of-totals}
use Rattle.path_ends.specs.New.{new_path}
use Rattle.path_ends.specs.Finish.{closing, closing_after, finished_path}
use Rattle.path_clear.specs.Clear.{count_before, drop_count, without_links, cleared_path}
use Rattle.path_reindex.specs.Reindex.{new_number, with_number, renumbered_from, renumbered, reindexed_path}
use Rattle.path_join.specs.Listed.{rises_of}
use Rattle.path_join.specs.Joined.{join_point, join_records, join, join_all, start_net, started}
use Rattle.book.specs.Book.{Book, new_book, last_end, enter_link, enter_links, drop_ends_from, drop_ends, drop_behind}
use Rattle.book.proofs.Good.{GoodLinks}
use Rattle.book.specs.Demand.{TableF64}
use Rattle.book.proofs.Matching.{Matched, Begun, Grounded}
use Rattle.book.proofs.JoinedLink.{stands, joined-ends, join-begun}
use Rattle.path.proofs.Lasts.{total-append}

-- the records that the first links count, and those of the next ones
total-add : (count : LinkPoint → ℕ) (d k : ℕ) (ps : List LinkPoint) → total count (take (d + k) ps) ≡ total count (take d ps) + total count (take k (drop d ps))
total-add count d k ps = ap (total count) (take-add d k ps) ∙ total-append count (take d ps) (take k (drop d ps))

-- ---- the same records in other words

-- records that stand where others do
alike : (rs ss : List PathResCoeff) (i : ℕ) → map stands_at ss ≡ map stands_at rs → coeff.offset_at ss i ≡ coeff.offset_at rs i
alike rs ss i e = stands ss i ∙ ap (λ (l : List Float). get_or l i +0) e ∙ sym (stands rs i)

module _ (count : LinkPoint → ℕ) (ps qs : List LinkPoint) (rs ss : List PathResCoeff) (ends : List Float) (over : ℕ) where
  -- link points that count alike, and records that stand alike
  same-begun : ((k : ℕ) → total count (take k qs) ≡ total count (take k ps)) → total count qs ≡ total count ps → map stands_at ss ≡ map stands_at rs
      → Begun count ps rs ends over → Begun count qs ss ends over
  same-begun part whole e g =
      record {
        begin = λ k h. alike rs ss (total count (take k qs)) e ∙ ap (coeff.offset_at rs) (part k) ∙ g.begin k h;
        last = alike rs ss (total count qs) e ∙ ap (coeff.offset_at rs) whole ∙ g.last;
        counted = omega (arith, sym (length-map ss stands_at), length-map rs stands_at, ap length e, g.counted, whole);
      }

-- ---- new

new-begun : (curves : Bool) → Begun (count_of curves) (no_link_point ∷ []) (no_coeff ∷ []) (+0 ∷ []) 1
unfolding total
new-begun true = record { begin = λ k h. absurd (omega arith); last = refl; counted = refl }
new-begun false = record { begin = λ k h. absurd (omega arith); last = refl; counted = refl }

pub new-grounded : (train : TrainParams) → Grounded (new_path train) (new_book train)
unfolding new_path
new-grounded train = record { grades = new-begun false; curves = new-begun true }

-- ---- reindex

module _ (count : LinkPoint → ℕ) (keeps : (n : ℕ) (p : LinkPoint) → count (with_number n p) ≡ count p) (new : List ℕ) where
  part-from : (k last : ℕ) (p : LinkPoint) (ps : List LinkPoint) → total count (take k (renumbered_from last new p ps)) ≡ total count (take k (p ∷ ps))
  unfolding renumbered_from total
  part-from zero last p ps = refl
  part-from (suc k) last p [] = ap₂ ◌+◌ (keeps last p) refl
  part-from (suc k) last p (q ∷ qs) = let n = new_number new (number_of p) in ap₂ ◌+◌ (keeps n p) (part-from k n q qs)

  total-from : (last : ℕ) (p : LinkPoint) (ps : List LinkPoint) → total count (renumbered_from last new p ps) ≡ total count (p ∷ ps)
  unfolding renumbered_from total
  total-from last p [] = ap₂ ◌+◌ (keeps last p) refl
  total-from last p (q ∷ qs) = let n = new_number new (number_of p) in ap₂ ◌+◌ (keeps n p) (total-from n q qs)

  renumbered-begun : (ps : List LinkPoint) (rs : List PathResCoeff) (ends : List Float) (over : ℕ) → Begun count ps rs ends over → Begun count (renumbered new ps) rs ends over
  unfolding renumbered
  renumbered-begun [] rs ends over g = g
  renumbered-begun (p ∷ ps) rs ends over g =
      same-begun count (p ∷ ps) (renumbered_from (number_of p) new p ps) rs rs ends over (λ k. part-from k (number_of p) p ps) (total-from (number_of p) p ps) refl g

pub reindex-grounded : (new : List ℕ) (path : Path) (b : Book) → Grounded path b → Grounded (reindexed_path new path) b
unfolding reindexed_path
reindex-grounded new path b g =
    record {
      grades = renumbered-begun (count_of false) (λ n p. refl) new path.links path.grades b.ends (spare path.finished) g.grades;
      curves = renumbered-begun (count_of true) (λ n p. refl) new path.links path.curves b.ends (spare path.finished) g.curves;
    }

-- ---- finish

closing-begun : (count : LinkPoint → ℕ) (ps : List LinkPoint) (rs : List PathResCoeff) (ends : List Float) (over : ℕ) → over ≡ 1
    → Begun count ps rs ends over → Begun count ps (closing rs) ends 2
closing-begun count ps rs ends over one g =
    record {
      begin = λ k h. before (total count (take k ps)) (total-fewer count k ps) ∙ g.begin k h;
      last = before (total count ps) (omega arith) ∙ g.last;
      counted = omega (arith, length-append rs (closing_after (last_coeff rs) ∷ []), g.counted, one);
    }
  where
    before : (i : ℕ) → i ≤ total count ps → coeff.offset_at (closing rs) i ≡ coeff.offset_at rs i
    before i h = ap stands_at (get_or-append rs (closing_after (last_coeff rs) ∷ []) no_coeff i (omega (arith, g.counted, one)))

pub finish-grounded : (path : Path) (b : Book) → path.finished ≡ false → Grounded path b → Grounded (finished_path path) b
unfolding finished_path
finish-grounded path b f g =
    record {
      grades = closing-begun (count_of false) path.links path.grades b.ends (spare path.finished) (ap spare f) g.grades;
      curves = closing-begun (count_of true) path.links path.curves b.ends (spare path.finished) (ap spare f) g.curves;
    }

-- ---- clear

-- as many ends go as link points
from-kept : (x : Float) (p : LinkPoint) (ps : List LinkPoint) → drop_ends_from x (offset_of p) (map offset_of ps) ≡ drop (count_before x ps) (map offset_of (p ∷ ps))
unfolding drop_ends_from count_before
from-kept x p [] = refl
from-kept x p (q ∷ qs) = pick (Ieee.lt (offset_of q) x) (from-kept x q qs)
  where
    pick : (c : Bool) → drop_ends_from x (offset_of q) (map offset_of qs) ≡ drop (count_before x qs) (map offset_of (q ∷ qs))
        → cond c (drop_ends_from x (offset_of q) (map offset_of qs)) (map offset_of (p ∷ q ∷ qs)) ≡ drop (cond c (suc (count_before x qs)) 0) (map offset_of (p ∷ q ∷ qs))
    pick true e = e
    pick false e = refl

pub ends-kept : (x : Float) (ps : List LinkPoint) → drop_ends x (map offset_of ps) ≡ drop (drop_count x ps) (map offset_of ps)
unfolding drop_ends count_before
ends-kept x [] = refl
ends-kept x (p ∷ ps) = from-kept x p ps

before-few : (x : Float) (ps : List LinkPoint) → count_before x ps ≤ length ps
unfolding count_before
before-few x [] = omega arith
before-few x (p ∷ ps) = pick (Ieee.lt (offset_of p) x) (before-few x ps)
  where
    pick : (c : Bool) → count_before x ps ≤ length ps → cond c (suc (count_before x ps)) 0 ≤ suc (length ps)
    pick true h = omega arith
    pick false h = omega arith

-- the first d links go, of which one stays
drop-begun : (count : LinkPoint → ℕ) (d : ℕ) (ps : List LinkPoint) (rs : List PathResCoeff) (ends : List Float) (over : ℕ) → d ≤ length ends - 1
    → Begun count ps rs ends over → Begun count (drop d ps) (drop (total count (take d ps)) rs) (drop d ends) over
drop-begun count d ps rs ends over h g =
    record {
      begin = λ k l.
          from (total count (take k (drop d ps)))
          ∙ ap (coeff.offset_at rs) (sym (total-add count d k ps))
          ∙ g.begin (d + k) (omega (arith, l, length-drop d ends))
          ∙ sym (get_or-drop d ends k nan);
      last =
          from (total count (drop d ps))
          ∙ ap (coeff.offset_at rs) (sym whole)
          ∙ g.last
          ∙ ap (λ (i : ℕ). get_or ends i nan) (sym at_last)
          ∙ sym (get_or-drop d ends (length (drop d ends) - 1) nan);
      counted = omega (arith, length-drop (total count (take d ps)) rs, g.counted, whole);
    }
  where
    from : (i : ℕ) → coeff.offset_at (drop (total count (take d ps)) rs) i ≡ coeff.offset_at rs (total count (take d ps) + i)
    from i = ap stands_at (get_or-drop (total count (take d ps)) rs i no_coeff)

    whole : total count ps ≡ total count (take d ps) + total count (drop d ps)
    whole = ap (total count) (sym (take-append-drop d ps)) ∙ total-append count (take d ps) (drop d ps)

    at_last : d + (length (drop d ends) - 1) ≡ length ends - 1
    at_last = omega (arith, length-drop d ends, h)

cleared-begun : (curves : Bool) (d : ℕ) (ps : List LinkPoint) (rs : List PathResCoeff) (ends left : List Float) (over : ℕ) → d ≤ length ends - 1 → left ≡ drop d ends
    → Begun (count_of curves) ps rs ends over → Begun (count_of curves) (drop d ps) (drop (count_of curves (totals (take d ps))) rs) left over
cleared-begun curves d ps rs ends left over h e g =
    rw (e, count-of-totals curves (take d ps)) (drop-begun (count_of curves) d ps rs ends over h g)

cleared-grounded : (d : ℕ) (path : Path) (b c : Book) → d ≤ length b.ends - 1 → c.ends ≡ drop d b.ends → Grounded path b → Grounded (cleared_path d path) c
unfolding cleared_path without_links
cleared-grounded zero path b c h e g = record { grades = rw e g.grades; curves = rw e g.curves }
cleared-grounded (suc d) path b c h e g =
    record {
      grades = cleared-begun false (suc d) path.links path.grades b.ends c.ends (spare path.finished) h e g.grades;
      curves = cleared-begun true (suc d) path.links path.curves b.ends c.ends (spare path.finished) h e g.curves;
    }

pub clear-grounded : (x : Float) (path : Path) (b : Book) → Matched path b → Grounded path b → Grounded (cleared_path (drop_count x path.links) path) (drop_behind x b)
unfolding drop_behind
clear-grounded x path b m g =
    let d = drop_count x path.links in
    let few = before-few x (drop 1 path.links) in
    cleared-grounded d path b (drop_behind x b) (omega (arith, few, length-drop 1 path.links, length-map path.links offset_of, ap length m.links))
    (ap (drop_ends x) (sym m.links) ∙ ends-kept x path.links ∙ ap (drop d) m.links) g

-- ---- extend

-- a path that is open, with a link point, the last of which counts none, and each at an end of the book
record Ready (path : Path) (b : Book) : Type 0 where
  still_open : path.finished ≡ false
  some-point : 0 < length path.links
  end-free : end_counts_zero path.links ≡ true
  at-ends : map offset_of path.links ≡ b.ends
  grounded : Grounded path b

-- the end point that a link leaves
some_after : (ps : List LinkPoint) (p : LinkPoint) → 0 < length (ps ++ p ∷ [])
some_after ps p = omega (arith, length-append ps (p ∷ []))

free-after : (ps : List LinkPoint) (p : LinkPoint) → (grade_count_of p ≡ 0) → (curve_count_of p ≡ 0) → (power_count_of p ≡ 0) → end_counts_zero (ps ++ p ∷ []) ≡ true
unfolding end_counts_zero
free-after ps p a b c = rw (get_or_at ps p [] no_link_point (length (ps ++ p ∷ []) - 1) (omega (arith, length-append ps (p ∷ []))), a, b, c)

-- an open path's last record stands at the last end
last-at : (count : LinkPoint → ℕ) (ps : List LinkPoint) (rs : List PathResCoeff) (ends : List Float) → Begun count ps rs ends 1 → stands_at (last_coeff rs) ≡ last_end ends
last-at count ps rs ends g =
    let i : length rs - 1 ≡ total count ps = omega (arith, g.counted) in
    ap (coeff.offset_at rs) i ∙ g.last

module _ (train : TrainParams) (own : Float) (t : LinkTable) (whole : TableF64 t) where
  -- one link
  join-ready : (path : Path) (b : Book) (n : ℕ) → well_formed t n ≡ true → Ready path b → Ready (join train t path n) (enter_link train own t b n)
  unfolding join
  join-ready path b n passed r =
      record {
        still_open = r.still_open;
        some-point = unfold join_point in some_after (set path.links (length path.links - 1) _) _;
        end-free = unfold join_point in free-after (set path.links (length path.links - 1) _) _ refl refl refl;
        at-ends = joined-ends train own t b path.links n r.some-point r.at-ends;
        grounded = record { grades = kind false path.grades r.grounded.grades; curves = kind true path.curves r.grounded.curves };
      }
    where
      one : spare path.finished ≡ 1
      one = ap spare r.still_open

      base : stands_at (last_coeff path.grades) ≡ last_end b.ends
      base = last-at (count_of false) path.links path.grades b.ends (rw one at r.grounded.grades)

      kind : (curves : Bool) (rs : List PathResCoeff) → Begun (count_of curves) path.links rs b.ends (spare path.finished)
          → Begun (count_of curves) (join_point t.links t.lengths path.links n)
          (join_records curves train (rises_of t) t.headings (stands_at (last_coeff path.grades)) rs n) (enter_link train own t b n).ends (spare path.finished)
      kind curves rs g = rw (one, base) (join-begun curves train own t b path.links rs n whole passed r.some-point r.end-free r.at-ends (rw one at g))

  all-ready : (path : Path) (b : Book) (ns : List ℕ) → GoodLinks train own t b ns → Ready path b → Ready (join_all train t path ns) (enter_links train own t b ns)
  unfolding join_all enter_links
  all-ready path b [] g r = r
  all-ready path b (n ∷ ns) g r = all-ready (join train t path n) (enter_link train own t b n) ns g.1 (join-ready path b n g.0.formed r)

  -- another net value moves no record
  started-grounded : (path : Path) (b : Book) (ns : List ℕ) → Grounded path b → Grounded (started t path ns) b
  unfolding started start_net
  started-grounded path b ns g =
      let gs = path.grades in
      record {
        grades = same-begun (count_of false) path.links path.links gs (start_net t.links t.elevs gs ns) b.ends (spare path.finished) (λ k. refl) refl
            (map-set_same stands_at gs (length gs - 1) _ no_coeff refl) g.grades;
        curves = g.curves;
      }

  -- the listed links
  pub joined-grounded : (path : Path) (b : Book) (ns : List ℕ) → path.finished ≡ false → end_counts_zero path.links ≡ true → 0 < length b.ends → GoodLinks train own t b ns
      → Matched path b → Grounded path b → Grounded (join_all train t (started t path ns) ns) (enter_links train own t b ns)
  unfolding started
  joined-grounded path b ns still_open free some good m g =
      (all-ready (started t path ns) b ns good
      (record {
        still_open = still_open;
        some-point = omega (arith, some, ap length m.links, length-map path.links offset_of);
        end-free = free;
        at-ends = m.links;
        grounded = started-grounded path b ns g;
      })).grounded
