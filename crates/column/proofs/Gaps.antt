-- Laws of gaps: a stretch moves up or down by w places.
use Prim.Native.Nat.{ℕ, ◌+◌, ◌-◌, ◌≤◌, ◌<◌}
use native.Mathlib.Omega.{arith}
use mathlib.Core.Path.{◌≡◌, refl, sym, ap, ◌∙◌}
use mathlib.Core.List.{List, ◌++◌, append_assoc}
use mathlib.Core.Bool.{Bool, true, false, ◌&&◌, cond}
use lib.Dec.{leb}
use borrow.Author.Tests.{le-leb, lt-leb}
use lib.ListN.{length, take, drop, replicate, take-append-drop}
use lib.Seq.{slice, slice_empty}
use Rattle.column.specs.Entries.{moved, open_gap, close_gap, zero_range}
use Rattle.column.proofs.Filling.{range_inside}
use Rattle.column.proofs.Moves.{slice-part, length_moved, take-moved, drop-moved}

module _ {A : Type 0} where
  -- ---- a gap is opened at k
  abbrev pub opened : List A → ℕ → ℕ → ℕ → List A
  opened l k end w = take (k + w) l ++ (slice k end l ++ drop (end + w) l)

  pub open-start : (l : List A) (end w : ℕ) → l ≡ opened l end end w
  open-start l end w = rw (slice_empty end l) (sym (take-append-drop (end + w) l))

  -- a whole gap, where there is room
  pub open-room : (at end w : ℕ) (l : List A) → at ≤ end → end + w ≤ length l → open_gap at end w l ≡ opened l at end w
  unfolding open_gap
  open-room at end w l h k = rw (le-leb _ _ h, le-leb _ _ k)

  -- the stretch moves up
  pub open-moved : (at end w : ℕ) (l : List A) → at ≤ end → end + w ≤ length l → moved (at + w) at (end - at) l ≡ open_gap at end w l
  unfolding moved
  open-moved at end w l h k =
      let e : at + w + (end - at) ≡ end + w = omega arith in
      rw (e, open-room at end w l h k, slice-part at end l h) (append_assoc (take (at + w) l) (take (end - at) (drop at l)) (drop (end + w) l))

  -- nothing changes where the stretch or the room is not there
  pub open_order : (at end w : ℕ) (l : List A) → end < at → open_gap at end w l ≡ l
  unfolding open_gap
  open_order at end w l h = rw (lt-leb _ _ h)

  pub open_full : (at end w : ℕ) (l : List A) → at ≤ end → length l < end + w → open_gap at end w l ≡ l
  unfolding open_gap
  open_full at end w l h k = rw (le-leb _ _ h, lt-leb _ _ k)

-- ---- a gap is closed
module _ {A : Type 0} (z : A) where
  -- a whole gap, where its entries are there
  pub close-room : (at end w : ℕ) (l : List A) → at + w ≤ end → end ≤ length l → close_gap z at end w l ≡ take at l ++ (slice (at + w) end l ++ (replicate w z ++ drop end l))
  unfolding close_gap
  close-room at end w l h k = rw (le-leb _ _ h, le-leb _ _ k)

  -- the stretch after it moves down, and the w entries before the end are zeroed
  pub close-moved : (at end w : ℕ) (l : List A) → at + w ≤ end → end ≤ length l → zero_range z (end - w) end (moved at (at + w) (end - at - w) l) ≡ close_gap z at end w l
  close-moved at end w l h k =
      let n = end - at - w in
      let c = moved at (at + w) n l in
      let s : at + w + n ≤ length l = omega arith in
      let long : length c ≡ length l = length_moved l at (at + w) n s (omega arith) in
      let a : end - w ≡ at + n = omega arith in
      let front : take (end - w) c ≡ take at l ++ take n (drop (at + w) l) = ap (λ (x : ℕ). take x c) a ∙ take-moved l at (at + w) n s (omega arith) in
      let back : drop end c ≡ drop end l = drop-moved l at (at + w) n s end (omega arith) (omega arith) in
      let e : end - (end - w) ≡ w = omega arith in
      let f : end - (at + w) ≡ n = omega arith in
      range_inside z c (end - w) end (omega arith) (omega arith)
      ∙ rw (front, back, e, close-room at end w l h k, slice-part (at + w) end l h, f) (append_assoc (take at l) (take n (drop (at + w) l)) (replicate w z ++ drop end l))

  -- nothing changes where they are not
  pub close-order : (at end w : ℕ) (l : List A) → end < at + w → close_gap z at end w l ≡ l
  unfolding close_gap
  close-order at end w l h = rw (lt-leb _ _ h)

  pub close-short : (at end w : ℕ) (l : List A) → length l < end → close_gap z at end w l ≡ l
  unfolding close_gap
  close-short at end w l h = rw (lt-leb _ _ h) (either (leb (at + w) end))
    where
      either : (b : Bool) → cond (b && false) (take at l ++ (slice (at + w) end l ++ (replicate w z ++ drop end l))) l ≡ l
      either true = refl
      either false = refl
