-- Two words byte by byte.
use Rattle.std.proofs.Common.{ℕ, ◌≡◌, refl, ap, List, [], ◌∷◌, nat_eq}
use mathlib.Core.Bool.{◌&&◌}
use lib.Pointwise.{pointwise}
use Rattle.route.specs.Fields.{same}

-- what `==` answers at two slices
pub same_pairs : (a b : List ℕ) → pointwise nat_eq a b ≡ same a b
unfolding same
same_pairs [] [] = refl
same_pairs [] (y ∷ b) = refl
same_pairs (x ∷ a) [] = refl
same_pairs (x ∷ a) (y ∷ b) = ap (λ t. nat_eq x y && t) (same_pairs a b)
