-- The column of a list, entry by entry.
use Prim.Native.Nat.{ℕ, suc, ◌+◌, ◌≤◌, ◌<◌}
use native.Mathlib.Numerals.{add-one}
use native.Mathlib.Omega.{arith}
use mathlib.Core.Path.{◌≡◌, sym, ap, ◌∙◌}
use mathlib.Core.Bool.{Bool, true, false}
use mathlib.Core.List.{List, ◌++◌}
use Rattle.std.proofs.Common.{◌==◌}
use lib.ListN.{length, take, drop, set, take-append-drop, drop_of_length-le}
use lib.Seq.{drop-cons, take-suc-set, drop-set-lt, append_snoc}
use Rattle.route.specs.Fields.{field_bytes, no_field, whole_at, whole_or_zero}
use Rattle.route.specs.Filled.{listed, list_length}

-- whether a field is there, by its bytes b and whether they are none
pub field-asked : (text : List ℕ) (at k : ℕ) (b : List ℕ) (r : Bool) → b ≡ field_bytes text at k → r ≡ (length b == 0) → no_field text at k ≡ r
unfolding no_field
field-asked text at k b r e f = rw (← e) (sym f)

-- ---- the column with i numbers read, and with those still to come
module _ (text : List ℕ) (at : ℕ) where
  abbrev pub whole : List ℕ → ℕ → List ℕ
  whole col i = take i col ++ listed text at i (drop i col)

  abbrev pub count : List ℕ → ℕ → ℕ
  count col i = i + list_length text at i (drop i col)

  module _ (col : List ℕ) (i : ℕ) where
    pub whole-end : length col ≤ i → whole col i ≡ col
    unfolding listed
    whole-end h = ap (λ (l : List ℕ). take i col ++ l) (rw (drop_of_length-le col h)) ∙ take-append-drop i col

    pub count-end : length col ≤ i → count col i ≡ i
    unfolding list_length
    count-end h = rw (drop_of_length-le col h) (omega arith)

    module _ (h : i < length col) where
      pub whole-stop : no_field text at (i + 1) ≡ true → whole col i ≡ col
      unfolding listed
      whole-stop n =
          let m : no_field text at (suc i) ≡ true = rw add-one at n in
          ap (λ (l : List ℕ). take i col ++ l) (rw (drop-cons col i 0 h, m)) ∙ take-append-drop i col

      pub count-stop : no_field text at (i + 1) ≡ true → count col i ≡ i
      unfolding list_length
      count-stop n =
          let m : no_field text at (suc i) ≡ true = rw add-one at n in
          rw (drop-cons col i 0 h, m) (omega arith)

      module _ (v : ℕ) (n : no_field text at (i + 1) ≡ false) where
        pub whole-next : v ≡ whole_or_zero (whole_at text at (i + 1)) → whole (set col i v) (i + 1) ≡ whole col i
        unfolding listed
        whole-next e =
            let m : no_field text at (suc i) ≡ false = rw add-one at n in
            let f : v ≡ whole_or_zero (whole_at text at (suc i)) = rw add-one at e in
            let k : i < suc i = omega arith in
            rw (add-one, take-suc-set col i v h, drop-set-lt (suc i) col i v k, append_snoc, drop-cons col i 0 h, m, ← f)

        pub count_next : count (set col i v) (i + 1) ≡ count col i
        unfolding list_length
        count_next =
            let m : no_field text at (suc i) ≡ false = rw add-one at n in
            let k : i < suc i = omega arith in
            rw (add-one, drop-set-lt (suc i) col i v k, drop-cons col i 0 h, m) (omega arith)
