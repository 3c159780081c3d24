-- A lent column as the list of its entries, whatever their type. z is the zero of that type: 0, and +0 for an f64. Definitions only.
use Rattle.std.specs.Prelude.{ℕ, suc, ◌+◌, ◌-◌, min, ◌&&◌, cond, List, ◌∷◌, ◌++◌, leb, length, take, drop, replicate}
use Rattle.std.proofs.Math.Seq.{slice, paste}

module _ {A : Type 0} where
  -- the entries es, and zeros after them to the length n
  unfoldable pub filled : A → ℕ → List A → List A
  filled z n es = es ++ replicate (n - length es) z

  -- the entries from `from` on become zero
  unfoldable pub zero_from : A → ℕ → List A → List A
  unfolding filled
  zero_from z from l = filled z (length l) (take from l)

  -- the n entries from j on, stored from i on
  unfoldable pub moved : ℕ → ℕ → ℕ → List A → List A
  moved i j n l = paste l i (drop j l) n

  -- the entries from `from` up to `to` move to the front, and the rest becomes zero
  unfoldable pub move_front : A → ℕ → ℕ → List A → List A
  unfolding filled
  move_front z from to l = filled z (length l) (slice from to l)

  -- the entries from `from` up to `to` become zero, as far as there are any
  unfoldable pub zero_range : A → ℕ → ℕ → List A → List A
  zero_range z from to l = take from l ++ (replicate (min to (length l) - from) z ++ drop (from + (min to (length l) - from)) l)

  -- the entries from `at` up to `end` move w places up, and what stood in the w places stays there; nothing changes without room
  unfoldable pub open_gap : ℕ → ℕ → ℕ → List A → List A
  open_gap at end w l = cond (leb at end && leb (end + w) (length l)) (take (at + w) l ++ (slice at end l ++ drop (end + w) l)) l

  -- the w entries from `at` on go out: those after them, up to `end`, move down, and w zeros stand before `end`; nothing changes
  -- where they are not there
  unfoldable pub close_gap : A → ℕ → ℕ → ℕ → List A → List A
  close_gap z at end w l = cond (leb (at + w) end && leb end (length l)) (take at l ++ (slice (at + w) end l ++ (replicate w z ++ drop end l))) l

  -- a goes in at i
  abbrev pub insert_at : ℕ → A → List A → List A
  insert_at i a l = take i l ++ a ∷ drop i l

  -- what stands at i goes out
  abbrev pub remove_at : ℕ → List A → List A
  remove_at i l = take i l ++ drop (suc i) l
