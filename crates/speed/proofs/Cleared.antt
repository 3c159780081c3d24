-- The drop at a new beginning: which point stays first, and what the move of it makes of the points.
use Prim.Native.Nat.{ℕ, zero, suc, ◌-◌, ◌*◌, ◌≤◌, ◌<◌}
use native.Mathlib.Omega.{arith}
use mathlib.Core.Path.{◌≡◌, refl, sym, ap, ◌∙◌}
use mathlib.Core.Bool.{Bool, true, false, cond}
use mathlib.Core.List.{List, [], ◌∷◌}
use lib.ListN.{length, drop}
use lib.Seq.{drop-cons}
use lib.Ieee as Ieee
use lib.Ieee.{Float}
use Rattle.ieee.specs.Number.{+0}
use Rattle.ieee.proofs.Order.{of-true}
use Rattle.column.specs.Entries.{move_front}
use Rattle.speed.specs.Points.{Point, nowhere, offset_at, set_offset}
use Rattle.speed.specs.Column.{points, Holds}
use Rattle.speed.specs.Insert.{first_from}
use Rattle.speed.specs.Clear.{is_at, move_to, clear_from, clear_points}
use Rattle.speed.proofs.InsertSteps.{first-le}
use Rattle.speed.proofs.PointColumn.{length-points, next-moved}

-- ---- the first point that stays

none-at : (X : Float) (k : ℕ) (ps : List Point) → (k < length ps → Ieee.eq (offset_at ps k) X ≡ false) → is_at X (drop k ps) ≡ false
none-at X zero [] h = refl
none-at X (suc k) [] h = refl
none-at X zero (p ∷ ps) h = h (omega arith)
none-at X (suc k) (p ∷ ps) h = none-at X k ps (λ g. h (omega arith))

at-below : (X : Float) (k : ℕ) (ps : List Point) → is_at X (drop k ps) ≡ true → k < length ps
at-below X zero [] t = absurd (of-true t)
at-below X (suc k) [] t = absurd (of-true t)
at-below X zero (p ∷ ps) t = omega arith
at-below X (suc k) (p ∷ ps) t = omega (arith, at-below X k ps t)

module _ (X : Float) (ps : List Point) where
  -- k is the first point at or after X, or the count where there is none
  module _ (k : ℕ) (first : k ≡ first_from X ps) where
    pub kept_at : {o : Float} → k < length ps → o ≡ offset_at ps k → Ieee.eq o X ≡ true → k ≡ clear_from ps X
    unfolding clear_from
    kept_at h e t =
        let u : Ieee.eq (offset_at ps k) X ≡ true = ap (λ (o : Float). Ieee.eq o X) (sym e) ∙ t in
        rw (← first, drop-cons ps k nowhere h, u)

    before : (k < length ps → Ieee.eq (offset_at ps k) X ≡ false) → k - 1 ≡ clear_from ps X
    unfolding clear_from
    before h = rw (← first, none-at X k ps h)

    pub kept-before : {o : Float} → o ≡ offset_at ps k → Ieee.eq o X ≡ false → k - 1 ≡ clear_from ps X
    kept-before e t = before (λ g. ap (λ (o : Float). Ieee.eq o X) (sym e) ∙ t)

    pub kept_last : length ps ≤ k → k - 1 ≡ clear_from ps X
    kept_last h = before (λ g. absurd (omega arith))

  pub clear-below : 0 < length ps → clear_from ps X < length ps
  unfolding clear_from
  clear-below h = go (is_at X (drop (first_from X ps) ps)) refl
    where
      go : (b : Bool) → is_at X (drop (first_from X ps) ps) ≡ b → cond b (first_from X ps) (first_from X ps - 1) < length ps
      go true t = at-below X (first_from X ps) ps t
      go false t = omega (arith, first-le X ps)

  -- it moves to the beginning
  pub moved-first : set_offset 0 X (drop (clear_from ps X) ps) ≡ clear_points ps X
  unfolding clear_points
  moved-first = go (drop (clear_from ps X) ps)
    where
      go : (qs : List Point) → set_offset 0 X qs ≡ move_to X qs
      go [] = refl
      go (q ∷ qs) = refl

-- of the first n points of a column, r the index of the one that stays first
module _ (c : List Float) (n : ℕ) (X : Float) {ps : List Point} {r : ℕ} (some : 0 < n) (are : ps ≡ points n c) (from : r ≡ clear_from ps X) where
  kept-is : r ≡ clear_from (points n c) X
  kept-is = from ∙ ap (λ (qs : List Point). clear_from qs X) are

  pub kept-below : r < n
  kept-below = let l = length-points n c in omega (arith, kept-is, clear-below X (points n c) (omega arith))

  pub kept-moved : (d : List Float) → 2 * n ≤ length c → d ≡ move_front +0 (2 * r) (2 * n) c
      → (set_offset 0 X (points (n - r) d) ≡ clear_points (points n c) X) × Holds d (points (n - r) d)
  kept-moved d room e =
      let moved = next-moved c d n r (omega (arith, kept-below)) room e in
      (ap (set_offset 0 X) (moved.0 ∙ ap (λ (k : ℕ). drop k (points n c)) kept-is) ∙ moved-first X (points n c), moved.1)
