-- Link points as a range of their two columns: the first of them, those that begin a link, and their link numbers.
use Prim.Native.Nat.{ℕ, zero, suc, ◌+◌, ◌-◌, ◌≤◌, ◌<◌}
use native.Mathlib.Nat.{sub-zero, not-suc-le-zero, le_of_suc-le-suc}
use native.Mathlib.Omega.{arith}
use mathlib.Core.Path.{◌≡◌, refl, sym, ap, ap₂, ◌∙◌}
use mathlib.Core.Bool.{true}
use mathlib.Core.List.{List, ◌∷◌, map}
use lib.ListN.{take, drop}
use lib.Ieee.{Float}
use Rattle.column.specs.declared.Four.{Four}
use Rattle.column.proofs.ByEntry.{four-entries}
use Rattle.link.specs.Lists.{up_from}
use Rattle.link.specs.Questions.{number_at, numbers}
use Rattle.link.proofs.Loops.{range-more, range_none}
use Rattle.path.specs.declared.link_point.LinkPoint.{LinkPoint}
use Rattle.path.specs.Records.{number_of, point_at, link_points, beginnings, Columns, link_point_at, no_link_point, path_of}
use Rattle.path.proofs.LinkPoints.{length-links, links_from, links-more, links-none, links-all, link_at}
use Rattle.path.specs.declared.path_tpc.PathTpc.{PathTpc}

-- ---- the first k of n
pub take-links : (k n : ℕ) (os : List Float) (ns : List ℕ) → k ≤ n → take k (link_points n os ns) ≡ link_points k os ns
unfolding link_points
take-links zero n os ns h = refl
take-links (suc k) zero os ns h = absurd (not-suc-le-zero h)
take-links (suc k) (suc n) os ns h = ap (λ (ps : List LinkPoint). point_at os ns 0 ∷ ps) (take-links k n (drop 1 os) (drop 4 ns) (le_of_suc-le-suc h))

-- ---- their numbers
module _ (os : List Float) (ns : List ℕ) where
  pub number-of : (i : ℕ) → number_of (point_at os ns i) ≡ number_at true ns i
  number-of i = ap (λ (r : Four). r.3) (four-entries ns i)

  numbers-from : (n k i : ℕ) → i + k ≡ n → map number_of (links_from os ns n i) ≡ up_from (number_at true ns) i (n - i)
  numbers-from n zero i h = ap (map number_of) (links-none os ns n i (omega arith)) ∙ sym (range_none (number_at true ns) i n (omega arith))
  numbers-from n (suc k) i h =
      ap (map number_of) (links-more os ns n i (omega arith))
      ∙ ap₂ ◌∷◌ (number-of i) (numbers-from n k (i + 1) (omega arith))
      ∙ sym (range-more (number_at true ns) i n (omega arith))

  pub link-numbers : (n : ℕ) → map number_of (link_points n os ns) ≡ numbers true ns n
  link-numbers n =
      ap (map number_of) (sym (links-all os ns n))
      ∙ numbers-from n n 0 (omega arith)
      ∙ ap (up_from (number_at true ns) 0) (sub-zero n)

  -- of the points that begin a link
  pub beginning-numbers : (n : ℕ) → map number_of (beginnings (link_points n os ns)) ≡ numbers true ns (n - 1)
  beginning-numbers n =
      ap (λ (k : ℕ). map number_of (take (k - 1) (link_points n os ns))) (length-links n os ns)
      ∙ ap (map number_of) (take-links (n - 1) n os ns (omega arith))
      ∙ link-numbers (n - 1)

  -- ---- as a range
  links-from : (n k i : ℕ) → i + k ≡ n → links_from os ns n i ≡ up_from (point_at os ns) i (n - i)
  links-from n zero i h = links-none os ns n i (omega arith) ∙ sym (range_none (point_at os ns) i n (omega arith))
  links-from n (suc k) i h =
      links-more os ns n i (omega arith)
      ∙ ap (λ (ps : List LinkPoint). point_at os ns i ∷ ps) (links-from n k (i + 1) (omega arith))
      ∙ sym (range-more (point_at os ns) i n (omega arith))

  pub links-range : (n : ℕ) → link_points n os ns ≡ up_from (point_at os ns) 0 n
  links-range n = sym (links-all os ns n) ∙ links-from n n 0 (omega arith) ∙ ap (up_from (point_at os ns) 0) (sub-zero n)

  pub beginnings-range : (n : ℕ) → beginnings (link_points n os ns) ≡ up_from (point_at os ns) 0 (n - 1)
  beginnings-range n =
      ap (λ (k : ℕ). take (k - 1) (link_points n os ns)) (length-links n os ns)
      ∙ take-links (n - 1) n os ns (omega arith)
      ∙ links-range (n - 1)

-- ---- those of a path
module _ (p : PathTpc) (c : Columns) where
  pub present-range : beginnings (path_of p c).links ≡ up_from (point_at c.offsets c.numbers) 0 (p.link_count - 1)
  unfolding path_of
  present-range = beginnings-range c.offsets c.numbers p.link_count

  pub present-numbers : map number_of (beginnings (path_of p c).links) ≡ numbers true c.numbers (p.link_count - 1)
  unfolding path_of
  present-numbers = beginning-numbers c.offsets c.numbers p.link_count

  pub first-point : 0 < p.link_count → link_point_at (path_of p c).links 0 ≡ point_at c.offsets c.numbers 0
  unfolding path_of
  first-point h = link_at p.link_count c.offsets c.numbers 0 no_link_point h
