-- The last link point at or before an offset, searched from the last one back; and the first link point.
use Prim.Native.Nat.{ℕ, ◌-◌, ◌<◌}
use native.Mathlib.Omega.{arith}
use mathlib.Core.Path.{◌≡◌, sym, ap, ◌∙◌}
use mathlib.Core.Bool.{true, false, ◌&&◌}
use mathlib.Core.List.{List}
use lib.ListN.{length, get_or}
use lib.Ieee as Ieee
use lib.Ieee.{Float}
use Rattle.ieee.specs.Number.{+0}
use Rattle.lookup.specs.Search.{last_not_after}
use Rattle.lookup.proofs.SearchSteps.{backward-pass, backward-stop, backward-first}
use Rattle.path.specs.declared.link_point.LinkPoint.{LinkPoint}
use Rattle.path.specs.Records.{offset_of, point_at, link_points, no_link_point, link_point_at}
use Rattle.path.proofs.LinkPoints.{length-links, link_at}
use Rattle.train.specs.declared.train_state.TrainState.{TrainState}
use Rattle.train.specs.Position.{front_of, back_of}
use Rattle.train.specs.Locate.{point_behind, not_before_path}

module _ (os : List Float) (ns : List ℕ) (n : ℕ) where
  abbrev links : List LinkPoint
  links = link_points n os ns

  abbrev offset_at : ℕ → Float
  offset_at i = offset_of (link_point_at links i)

  module _ (x : Float) where
    -- from place i back the search ends where it ends from the last place back
    abbrev pub Passed : ℕ → Type 0
    Passed i = (i < n) × (last_not_after offset_at x i ≡ last_not_after offset_at x (length links - 1))

    pub passed_none : 0 < n → Passed (n - 1)
    passed_none h = (omega arith, ap (λ (k : ℕ). last_not_after offset_at x (k - 1)) (sym (length-links n os ns)))

    module _ (i : ℕ) (passed : Passed i) where
      -- where the search ends, the answer is this link point
      ends : {p : LinkPoint} → last_not_after offset_at x i ≡ i → p ≡ point_at os ns i → p ≡ point_behind x links
      unfolding point_behind
      ends e f = f ∙ sym (link_at n os ns i no_link_point passed.0) ∙ ap (link_point_at links) (sym e ∙ passed.1)

      pub passed-all : {p : LinkPoint} → i ≡ 0 → p ≡ point_at os ns 0 → p ≡ point_behind x links
      passed-all h f = ends (backward-first offset_at x i (omega (arith, h))) (f ∙ ap (point_at os ns) (sym h))

      -- o is entry i of the offsets
      module _ {o : Float} (e : o ≡ get_or os i +0) where
        offset-is : offset_at i ≡ o
        offset-is = ap offset_of (link_at n os ns i no_link_point passed.0) ∙ sym e

        pub passed-more : 0 < i → Ieee.lt x o ≡ true → Passed (i - 1)
        passed-more h t = (omega (arith, passed.0), sym (backward-pass offset_at x i h (ap (Ieee.lt x) offset-is ∙ t)) ∙ passed.1)

        pub passed-stop : {p : LinkPoint} → Ieee.lt x o ≡ false → p ≡ point_at os ns i → p ≡ point_behind x links
        passed-stop t f = ends (backward-stop offset_at x i (ap (Ieee.lt x) offset-is ∙ t)) f

  -- question 10
  pub not-before : (s : TrainState) {first : Float} → 0 < n → first ≡ get_or os 0 +0 → (Ieee.le first (front_of s) && Ieee.le first (back_of s)) ≡ not_before_path s links
  not-before s h e = ap (λ (o : Float). Ieee.le o (front_of s) && Ieee.le o (back_of s)) (e ∙ ap offset_of (sym (link_at n os ns 0 no_link_point h)))
