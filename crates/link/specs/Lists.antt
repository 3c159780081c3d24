-- Small things about lists. Definitions only.
use Rattle.std.specs.Prelude.{ℕ, zero, suc, Bool, true, cond, ◌&&◌, List, [], ◌∷◌, Option, Some, None}

module _ {A : Type 0} where
  -- each element passes
  unfoldable pub every : (A → Bool) → List A → Bool
  every ok [] = true
  every ok (x ∷ xs) = ok x && every ok xs

  -- n elements from `start` on, element i being `at i`
  unfoldable pub up_from : (ℕ → A) → ℕ → ℕ → List A
  up_from at start zero = []
  up_from at start (suc n) = at start ∷ up_from at (suc start) n

-- the first "no" of a list of answers whose first stands at position i: its position, or none
unfoldable pub first_no_from : ℕ → List Bool → Option ℕ
first_no_from i [] = None
first_no_from i (yes? ∷ answers) = cond yes? (first_no_from (suc i) answers) (Some i)

-- R98: the first position that fails, from 0
abbrev pub first_no : List Bool → Option ℕ
first_no answers = first_no_from 0 answers
