-- What is left of a list of links: the next one, none, and the sum of a figure over them.
use Prim.Native.Nat.{ℕ, ◌+◌, ◌≤◌, ◌<◌}
use native.Mathlib.Numerals.{add-one}
use mathlib.Core.Path.{◌≡◌, sym, ap, ◌∙◌}
use mathlib.Core.List.{List, [], ◌∷◌}
use lib.ListN.{length, get_or, drop, drop_of_length-le}
use lib.Seq.{drop-cons}
use Rattle.path_join.specs.Listed.{sum_of}

module _ (ns : List ℕ) (k : ℕ) where
  pub left-next : k < length ns → drop k ns ≡ get_or ns k 0 ∷ drop (k + 1) ns
  left-next h = drop-cons ns k 0 h ∙ ap (λ (j : ℕ). get_or ns k 0 ∷ drop j ns) (sym (add-one k))

  pub left-none : length ns ≤ k → drop k ns ≡ []
  left-none h = drop_of_length-le ns h

-- the sum of a figure, by the first link
pub sum-next : (figure : ℕ → ℕ) {left rest : List ℕ} {i : ℕ} → left ≡ i ∷ rest → sum_of figure left ≡ figure i + sum_of figure rest
unfolding sum_of
sum-next figure e = ap (sum_of figure) e
