-- The sum of a figure of each listed link: one link more, none left, and how large it gets.
use Prim.Native.Nat.{ℕ, ◌+◌, ◌-◌, ◌*◌, ◌≤◌, ◌<◌, ◌^◌}
use native.Mathlib.Omega.{arith}
use mathlib.Core.Path.{◌≡◌, ap}
use mathlib.Core.Bool.{Bool, true, false, cond}
use mathlib.Core.List.{List, [], ◌∷◌}
use lib.Dec.{eqb}
use lib.ListN.{length, get_or, drop, drop_of_length-le}
use mir.Syntax.{w32}
use mir.Val.{Fits}
use Rattle.link.specs.Table.{numbers_of}
use Rattle.path_stretches.specs.Stretches.{record_count}
use Rattle.path_join.specs.Listed.{grades_in, curves_in, powers_in, sum_of}
use Rattle.path_join.specs.Walked.{counts_of}
use Rattle.path_join.proofs.Left.{left-next}

module _ (figure : ℕ → ℕ) where
  sum_more : (ns : List ℕ) (k : ℕ) → k < length ns → sum_of figure (drop k ns) ≡ figure (get_or ns k 0) + sum_of figure (drop (k + 1) ns)
  unfolding sum_of
  sum_more ns k h = ap (sum_of figure) (left-next ns k h)

  sum-end : (ns : List ℕ) (k : ℕ) → length ns ≤ k → sum_of figure (drop k ns) ≡ 0
  unfolding sum_of
  sum-end ns k h = ap (sum_of figure) (drop_of_length-le ns h)

  -- of figures that are u32
  pub sum-small : ((n : ℕ) → figure n < 2 ^ 32) → (ns : List ℕ) → sum_of figure ns ≤ length ns * 2 ^ 32
  unfolding sum_of
  sum-small small [] = omega arith
  sum-small small (n ∷ ns) = omega (arith, small n, sum-small small ns)

  -- ---- a sum m before position k
  module _ (ns : List ℕ) (k : ℕ) where
    -- link k has r
    module _ (m : ℕ) {r : ℕ} (h : k < length ns) (e : m + sum_of figure (drop k ns) ≡ sum_of figure ns) (f : r ≡ figure (get_or ns k 0)) where
      pub sum-next : m + r + sum_of figure (drop (k + 1) ns) ≡ sum_of figure ns
      sum-next = omega (arith, e, f, sum_more ns k h)

      pub sum_fits : ((n : ℕ) → figure n < 2 ^ 32) → length ns ≤ 1025 → m + r < 2 ^ 64
      sum_fits small few = omega (arith, e, f, sum_more ns k h, sum-small small ns)

    pub sum_done : (m : ℕ) → length ns ≤ k → m + sum_of figure (drop k ns) ≡ sum_of figure ns → m ≡ sum_of figure ns
    sum_done m h e = omega (arith, e, sum-end ns k h)

-- ---- the figures are u32, as the entries of the columns are
records-small : (n : ℕ) → n < 2 ^ 32 → record_count n < 2 ^ 32
records-small n h = pick (eqb n 0)
  where
    pick : (b : Bool) → cond b 1 (n - 1) < 2 ^ 32
    pick true = omega arith
    pick false = omega arith

module _ (links : List ℕ) (known : (k : ℕ) → Fits w32 (get_or links k 0)) (n : ℕ) where
  pub grades-small : grades_in links n < 2 ^ 32
  unfolding numbers_of
  grades-small = records-small _ (known _).fits

  pub curves-small : curves_in links n < 2 ^ 32
  unfolding numbers_of
  curves-small = records-small _ (known _).fits

  pub powers-small : powers_in links n < 2 ^ 32
  unfolding numbers_of
  powers-small = (known _).fits

-- the three sums as the code answers
pub counted :
    (links ns : List ℕ) {grades curves powers : ℕ}
    → grades ≡ sum_of (grades_in links) ns
    → curves ≡ sum_of (curves_in links) ns
    → powers ≡ sum_of (powers_in links) ns
    → record { grades = grades; curves = curves; powers = powers } ≡ counts_of links ns
unfolding counts_of
counted links ns e₁ e₂ e₃ = rw (e₁, e₂, e₃)
