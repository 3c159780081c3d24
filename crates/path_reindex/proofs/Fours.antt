-- The four numbers of each link point: renumbered as the points are, and one record at a time in their column.
use Prim.Native.Nat.{ℕ, suc, ◌+◌, ◌≤◌, ◌<◌}
use native.Mathlib.Numerals.{add-one}
use native.Mathlib.Omega.{arith}
use mathlib.Core.Path.{◌≡◌, refl, sym, ap, ap₂, ◌∙◌}
use mathlib.Core.List.{List, [], ◌∷◌, ◌++◌, map}
use lib.ListN.{length, get_or, set, take, drop, length-set, drop_of_length-le}
use lib.Seq.{append_snoc, drop-cons, set_split, take-suc-set, get_or-set_other, drop-set-lt}
use Rattle.column.specs.declared.Four.{Four}
use Rattle.column.specs.Records.{records, record_at, put_record, four}
use Rattle.column.proofs.Bridge.{four-lawful, length-records, record-at, read-filled, put-filled}
use Rattle.path.specs.declared.link_point.LinkPoint.{LinkPoint}
use Rattle.path.specs.Records.{four_of}
use Rattle.path_reindex.specs.Reindex.{new_number, renumbered_from, renumbered}
use Rattle.path_reindex.specs.Fours.{with_fourth, fours_from, renumbered_fours, fours_column}

-- ---- as the points are renumbered
fours-from : (last : ℕ) (new : List ℕ) (p : LinkPoint) (ps : List LinkPoint) → map four_of (renumbered_from last new p ps) ≡ fours_from last new (four_of p) (map four_of ps)
unfolding renumbered_from fours_from
fours-from last new p [] = refl
fours-from last new p (q ∷ qs) = ap (λ (rs : List Four). with_fourth (new_number new (four_of p).3) (four_of p) ∷ rs) (fours-from (new_number new (four_of p).3) new q qs)

pub renumbered-fours : (new : List ℕ) (ps : List LinkPoint) → map four_of (renumbered new ps) ≡ renumbered_fours new (map four_of ps)
unfolding renumbered renumbered_fours
renumbered-fours new [] = refl
renumbered-fours new (p ∷ ps) = fours-from (four_of p).3 new p ps

-- ---- in their column, one record more at a time
-- what stands past the end of a list
abbrev no_four : Four
no_four = record { 0 = 0; 1 = 0; 2 = 0; 3 = 0 }

-- Of the n records in a column l of `size` entries, i have their new numbers, `last` being that of the record before record i. With those that are
-- left to do they are `whole`.
pub record Partly (new : List ℕ) (size n : ℕ) (whole : List Four) (l : List ℕ) (i last : ℕ) : Type 0 where
  pub rs : List Four
  pub held : l ≡ fours_column size rs
  pub long : length rs ≡ n
  pub rest : take i rs ++ fours_from last new (get_or rs i no_four) (drop (suc i) rs) ≡ whole

module _ (new : List ℕ) (n : ℕ) where
  first-left : (rs : List Four) → 0 < length rs → fours_from (get_or rs 0 no_four).3 new (get_or rs 0 no_four) (drop 1 rs) ≡ renumbered_fours new rs
  unfolding renumbered_fours
  first-left [] h = absurd (omega arith)
  first-left (r ∷ rs) h = refl

  -- none has its new number
  pub partly_none :
      (l : List ℕ) {q : Four}
      → 0 < n
      → l ≡ fours_column (length l) (records four n l)
      → q ≡ record_at four l 0
      → Partly new (length l) n (renumbered_fours new (records four n l)) l 0 q.3
  partly_none l h e f =
      let rs = records four n l in
      let long = length-records four four-lawful n l in
      let g = f ∙ sym (record-at four four-lawful n l 0 no_four h) in
      record {
        rs = rs;
        held = e;
        long = long;
        rest = ap (λ (q : Four). fours_from q.3 new (get_or rs 0 no_four) (drop 1 rs)) g ∙ first-left rs (omega arith);
      }

module _ (new : List ℕ) (size n : ℕ) (whole : List Four) {l : List ℕ} {i last : ℕ} (done : Partly new size n whole l i last) where
  -- record i
  abbrev current : Four
  current = get_or done.rs i no_four

  read_at : i < n → record_at four l i ≡ current
  read_at h = ap (λ (c : List ℕ). record_at four c i) done.held ∙ read-filled four four-lawful 0 size done.rs i no_four (omega (arith, done.long))

  -- record i gets the number v
  put-at : {m : List ℕ} (v : ℕ) → i < n → m ≡ put_record four l i (with_fourth v (record_at four l i)) → m ≡ fours_column size (set done.rs i (with_fourth v current))
  put-at v h e =
      e
      ∙ ap₂ (λ (c : List ℕ) (r : Four). put_record four c i (with_fourth v r)) done.held (read_at h)
      ∙ put-filled four four-lawful 0 size done.rs i (with_fourth v current) (omega (arith, done.long))

  -- one more has its new number
  pub partly_more :
      {m : List ℕ} {q : Four} {v : ℕ}
      → i + 1 < n
      → q ≡ record_at four l i
      → v ≡ new_number new q.3
      → m ≡ put_record four l i (with_fourth v (record_at four l i))
      → Partly new size n whole m (i + 1) v
  unfolding fours_from
  partly_more {m} {q} {v} h e f g =
      let rs = done.rs in
      let r = with_fourth v current in
      let ss = set rs i r in
      let long = done.long in
      let inside : i < length rs = omega arith in
      let own : v ≡ new_number new current.3 = f ∙ ap (λ (q : Four). new_number new q.3) (e ∙ read_at (omega arith)) in
      let next : drop (suc i) rs ≡ get_or rs (suc i) no_four ∷ drop (suc (suc i)) rs = drop-cons rs (suc i) no_four (omega arith) in
      let front : take (suc i) ss ≡ take i rs ++ (r ∷ []) = take-suc-set rs i r inside in
      let same : get_or ss (suc i) no_four ≡ get_or rs (suc i) no_four = get_or-set_other rs i (suc i) r no_four (λ k. omega arith) in
      let back : drop (suc (suc i)) ss ≡ drop (suc (suc i)) rs = drop-set-lt (suc (suc i)) rs i r (omega arith) in
      let left : take i rs ++ (r ∷ fours_from v new (get_or rs (suc i) no_four) (drop (suc (suc i)) rs)) ≡ whole =
      ap (λ (u : ℕ). take i rs ++ (with_fourth u current ∷ fours_from u new (get_or rs (suc i) no_four) (drop (suc (suc i)) rs))) own
      ∙ ap (λ (l : List Four). take i rs ++ fours_from last new current l) (sym next)
      ∙ done.rest in
      record {
        rs = ss;
        held = put-at v (omega arith) g;
        long = length-set rs i r ∙ long;
        rest =
            rw (add-one i, front, same, back, append_snoc) left;
      }

  -- every one has: the last record is the end point's
  pub partly-end : {m : List ℕ} → i + 1 ≡ n → m ≡ put_record four l i (with_fourth last (record_at four l i)) → m ≡ fours_column size whole
  unfolding fours_from
  partly-end h e =
      let rs = done.rs in
      let long : length rs ≤ suc i = omega (arith, done.long) in
      let none : drop (suc i) rs ≡ [] = drop_of_length-le rs long in
      put-at last (omega arith) e
      ∙ ap (fours_column size)
      (set_split rs i (with_fourth last current) (omega (arith, done.long))
      ∙ ap (λ (l : List Four). take i rs ++ with_fourth last current ∷ l) none
      ∙ ap (λ (l : List Four). take i rs ++ fours_from last new current l) (sym none)
      ∙ done.rest)
