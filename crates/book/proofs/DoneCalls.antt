-- What the questions of a call that is done have settled, said of the book beside the path.
use Prim.Native.Nat.{ℕ, ◌<◌}
use native.Mathlib.Omega.{arith}
use mathlib.Core.Path.{◌≡◌, refl, sym, ap, ◌∙◌, subst}
use mathlib.Core.Bool.{Bool, true, ◌&&◌}
use mathlib.Core.List.{List, [], ◌∷◌, map}
use lib.Dec.{leb}
use lib.ListN.{length}
use lib.Ieee as Ieee
use lib.Ieee.{Float}
use lib.Ieee.Scale.{finite}
use borrow.Author.Tests.{leb-true}
use Rattle.link.specs.declared.train_params.TrainParams.{TrainParams}
use Rattle.link.specs.Lists.{every, first_no}
use Rattle.link.specs.Train.{length_of}
use Rattle.link.specs.Table.{LinkTable, link_at}
use Rattle.link.specs.Questions.{well_formed}
use Rattle.link.proofs.Known.{and_both, none-fails, all-formed}
use Rattle.path.specs.declared.path_tpc.PathTpc.{PathTpc}
use Rattle.path.specs.Records.{Columns, Path, offset_of, link_point_at, path_of}
use Rattle.path.specs.Answers.{ask, ask_each, links_answer}
use Rattle.path.specs.Sound.{sound, path_answer, train_finite, is_open}
use Rattle.path.proofs.InTurn.{turn-done, first_done, links-done, judged-done, each-done}
use Rattle.path.proofs.Clauses.{sound-within, some-link}
use Rattle.path.proofs.LinkPoints.{length-links}
use Rattle.path_speeds.specs.Limits.{sets_of, finite_at}
use Rattle.path_clear.specs.Clear.{in_range, clear_answer}
use Rattle.path_join.specs.Joined.{join, started}
use Rattle.path_join.specs.declared.path_end.PathEnd.{PathEnd}
use Rattle.path_join.specs.Sums.{path_end_of, end_at, sums_finite, sums_from}
use Rattle.path_extend.specs.Extend.{followed, sums_answer, extend_answer}
use Rattle.path_join.specs.Fit.{records_fit}
use Rattle.book.specs.Book.{Book, last_end, enter_link}
use Rattle.book.proofs.Good.{GoodLink, GoodLinks, GoodClear}
use Rattle.book.proofs.Matching.{Matched}
use Rattle.book.proofs.Ends.{some_more}
use Rattle.book.proofs.LinkEnds.{same_count, first-end, last-end}
use Rattle.book.proofs.JoinedLink.{joined-ends}
use Rattle.book.proofs.Entering.{started-matched}
use Rattle.path_extend.proofs.PathEnds.{path-end-join}

-- ---- a path that is sound

count-links : (p : PathTpc) (c : Columns) → length (path_of p c).links ≡ p.link_count
unfolding path_of
count-links p c = length-links p.link_count c.offsets c.numbers

has-link : (p : PathTpc) (c : Columns) → sound p c ≡ true → 0 < length (path_of p c).links
has-link p c e = omega (arith, count-links p c, some-link p c (sound-within p c e).0)

-- ---- `clear`

pub clear-good : (x : Float) (p : PathTpc) (c : Columns) (b : Book) → Matched (path_of p c) b → (clear_answer x p c).number ≡ 0 → GoodClear x b
unfolding clear_answer
clear-good x p c b m h =
    let path = path_of p c in
    let one = turn-done (path_answer (finite x) p c) (ask 10 (in_range x path.links) ∷ ask 12 (leb 2 p.link_count) ∷ []) h in
    let two = first_done 9 (ask 12 (leb 2 p.link_count) ∷ []) (in_range x path.links) one.1 in
    let three = first_done 11 [] (leb 2 p.link_count) two.1 in
    let range = and_both (Ieee.le (offset_of (link_point_at path.links 0)) x) _ two.0 in
    let some = has-link p c (judged-done (finite x) p c refl one.0).2 in
    record {
      not-before = ap (λ (o : Float). Ieee.le o x) (first-end path.links b.ends m.links some) ∙ range.0;
      not_after = ap (λ (o : Float). Ieee.le x o) (last-end path.links b.ends m.links some) ∙ range.1;
      two = omega (arith, same_count path.links b.ends m.links, count-links p c, leb-true 2 p.link_count three.0);
    }

-- ---- `extend`

map_same : (l : List Bool) → map (λ b. b) l ≡ l
map_same [] = refl
map_same (b ∷ l) = ap (λ (r : List Bool). b ∷ r) (map_same l)

abbrev all_hold : List Bool → Bool
all_hold l = every (λ b. b) l

all_true : (l : List Bool) → (ask_each 8 (first_no l)).number ≡ 0 → all_hold l ≡ true
all_true l h = none-fails (λ b. b) l (ap first_no (map_same l) ∙ each-done 7 (first_no l) h)

-- a path whose link points stand at the ends stands at the last one
front_at : (path : Path) (b : Book) → map offset_of path.links ≡ b.ends → 0 < length path.links → (path_end_of path).link.0 ≡ last_end b.ends
unfolding path_end_of
front_at path b ends point = sym (last-end path.links b.ends ends point)

module _ (train : TrainParams) (own : Float) (t : LinkTable) where
  link-good : (at : PathEnd) (base : Float) (n : ℕ) → at.link.0 ≡ base → well_formed t n ≡ true → sums_finite train own t at n ≡ true → GoodLink train own t base n
  unfolding sums_finite link_at
  link-good at base n same w e =
      let a = and_both (finite_at train own (sets_of t) at.link.0 n) _ e in
      let b = and_both (finite (end_at t at n) && Ieee.lt at.link.0 (end_at t at n)) _ a.1 in
      let d = and_both (finite (end_at t at n)) _ b.0 in
      subst (λ (o : Float). GoodLink train own t o n) same (record { formed = w; sums = a.0; end-finite = d.0; beyond = d.1 })

  links-good : (path : Path) (b : Book) (ns : List ℕ) → 0 < length b.ends → map offset_of path.links ≡ b.ends
      → every (well_formed t) ns ≡ true
      → all_hold (sums_from train own t (path_end_of path) ns) ≡ true
      → GoodLinks train own t b ns
  unfolding every sums_from join
  links-good path b [] some ends w e = tt
  links-good path b (n ∷ ns) some ends w e =
      let f = and_both (well_formed t n) _ w in
      let s = and_both (sums_finite train own t (path_end_of path) n) _ e in
      let point : 0 < length path.links = omega (arith, same_count path.links b.ends ends, some) in (
        link-good (path_end_of path) (last_end b.ends) n (front_at path b ends point) f.0 s.0,
        links-good (join train t path n) (enter_link train own t b n) ns (unfold enter_link in some_more b.ends _) (joined-ends train own t b path.links n point ends) f.1
            (ap (λ (next : PathEnd). all_hold (sums_from train own t next ns)) (path-end-join train t path n) ∙ s.1),
      )

pub extend-good : (train : TrainParams) (t : LinkTable) (ns : List ℕ) (p : PathTpc) (c : Columns) (b : Book) → Matched (path_of p c) b → (extend_answer train t ns p c).number ≡ 0 → (train_finite train ≡ true) × GoodLinks train (length_of train) t b ns
unfolding extend_answer sums_answer
extend-good train t ns p c b m h =
    let path = path_of p c in
    let listed = links_answer t train.train_type (followed t.links path.links ns) ns in
    let sums = sums_from train (length_of train) t (path_end_of (started t path ns)) ns in
    let one = turn-done (path_answer (train_finite train) p c) (ask 3 (is_open p) ∷ listed ∷ sums_answer train (length_of train) t ns p c ∷ []) h in
    let three = first_done 2 (listed ∷ sums_answer train (length_of train) t ns p c ∷ []) (is_open p) one.1 in
    let four = turn-done listed (sums_answer train (length_of train) t ns p c ∷ []) three.1 in
    let eight = turn-done (sums_answer train (length_of train) t ns p c) [] four.1 in
    let nine = turn-done (ask_each 8 (first_no sums)) (ask 9 (records_fit train t ns p c) ∷ []) eight.0 in
    let judged = judged-done (train_finite train) p c refl one.0 in
    let some = has-link p c judged.2 in
    let well = all-formed t ns (links-done t train.train_type (followed t.links path.links ns) ns four.0).0 in
    (judged.0, links-good train (length_of train) t (started t path ns) b ns (omega (arith, same_count path.links b.ends m.links, some)) (started-matched t path b ns m).links well (all_true sums nine.0))
