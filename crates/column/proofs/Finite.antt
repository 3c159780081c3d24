-- How the scan for numbers that are not finite goes on.
use Prim.Native.Nat.{ℕ, ◌+◌, ◌<◌}
use native.Mathlib.Numerals.{add-one}
use mathlib.Core.Path.{◌≡◌, refl, sym, ap, ◌∙◌}
use mathlib.Core.Bool.{Bool, ◌&&◌, and-true, and_assoc}
use mathlib.Core.List.{List, [], ◌∷◌, ◌++◌}
use lib.ListN.{length, take, get_or}
use lib.Seq.{take-suc}
use lib.Ieee.{Float}
use lib.Ieee.Scale.{finite}
use Rattle.ieee.specs.Number.{all_finite}

pub finite-append : (xs ys : List Float) → all_finite (xs ++ ys) ≡ (all_finite xs && all_finite ys)
unfolding all_finite
finite-append [] ys = refl
finite-append (x ∷ xs) ys = ap (λ (b : Bool). finite x && b) (finite-append xs ys) ∙ sym (and_assoc (finite x) (all_finite xs) (all_finite ys))

-- one more entry
pub finite-more : (l : List Float) (i : ℕ) (d : Float) → i < length l → all_finite (take (i + 1) l) ≡ (all_finite (take i l) && finite (get_or l i d))
unfolding all_finite
finite-more l i d h = rw (add-one, take-suc l i d) (finite-append (take i l) (get_or l i d ∷ []) ∙ ap (λ (b : Bool). all_finite (take i l) && b) (and-true (finite (get_or l i d))))
