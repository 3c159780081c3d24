-- The offsets of a path's link points as the ends of a book.
use Prim.Native.Nat.{ℕ, zero, suc, ◌-◌, ◌<◌}
use native.Mathlib.Nat.{not-suc-le-zero, le_of_suc-le-suc}
use native.Mathlib.Omega.{arith}
use mathlib.Core.Path.{◌≡◌, refl, sym, ap, ◌∙◌}
use mathlib.Core.List.{List, [], ◌∷◌, map}
use lib.ListN.{length, get_or, length-map}
use lib.Ieee.{Float, nan}
use Rattle.path.specs.declared.link_point.LinkPoint.{LinkPoint}
use Rattle.path.specs.Records.{offset_of, link_point_at, end_point}
use Rattle.book.specs.Book.{first_end, last_end}

pub end-offset : (ps : List LinkPoint) (k : ℕ) → k < length ps → get_or (map offset_of ps) k nan ≡ offset_of (link_point_at ps k)
end-offset [] k h = absurd (not-suc-le-zero h)
end-offset (p ∷ ps) zero h = refl
end-offset (p ∷ ps) (suc k) h = end-offset ps k (le_of_suc-le-suc h)

-- of link points that stand at the ends
module _ (ps : List LinkPoint) (ends : List Float) (at : map offset_of ps ≡ ends) where
  pub same_count : length ps ≡ length ends
  same_count = sym (length-map ps offset_of) ∙ ap length at

  pub first-end : 0 < length ps → first_end ends ≡ offset_of (link_point_at ps 0)
  first-end h = ap first_end (sym at) ∙ end-offset ps 0 h

  pub last-end : 0 < length ps → last_end ends ≡ offset_of (end_point ps)
  last-end h =
      ap last_end (sym at)
      ∙ ap (λ (n : ℕ). get_or (map offset_of ps) (n - 1) nan) (length-map ps offset_of)
      ∙ end-offset ps (length ps - 1) (omega arith)
