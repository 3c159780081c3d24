-- The stretches of a link one by one: one more, none left, all of them, and what they come to.
use Prim.Native.Nat.{ℕ, suc, ◌+◌, ◌-◌, ◌≤◌, ◌<◌}
use native.Mathlib.Omega.{arith}
use mathlib.Core.Path.{◌≡◌, refl, sym, ap, ap₂, ◌∙◌}
use mathlib.Core.Bool.{Bool, true, false, cond, ◌&&◌, and-true, and_assoc}
use Rattle.std.specs.Prelude.{Option, Some, None}
use Rattle.std.proofs.lemmas.Option.{none-some, cond_some}
use mathlib.Core.List.{List, [], ◌∷◌}
use lib.Ieee.{Float}
use borrow.Author.Tests.{eq-eqb, ne_eqb}
use Rattle.link.specs.declared.train_params.TrainParams.{TrainParams}
use Rattle.link.specs.Lists.{every, up_from}
use Rattle.link.specs.Table.{Sample}
use Rattle.link.proofs.Loops.{length-range, range-more, range_none}
use Rattle.path_stretches.specs.declared.stretch.Stretch.{Stretch}
use Rattle.path_stretches.specs.declared.stretch.Reached.{Reached}
use Rattle.path_stretches.specs.declared.stretch.StretchEnd.{StretchEnd}
use Rattle.path_stretches.specs.Stretches.{stretch_step, stretches_from, flat_stretch, stretches, record_count, stretch_count, is_finite, end_of, offset_after, net_after, reached}

-- the stretches that end at sample i and after it, below `end`
abbrev pub stretches_at : (Float → Sample → Sample → Stretch) → (ℕ → Sample) → ℕ → Float → ℕ → List Stretch
stretches_at step at end net i = stretches_from step net (at (i - 1)) (up_from at i (end - i))

module _ (step : Float → Sample → Sample → Stretch) (at : ℕ → Sample) (end : ℕ) (net : Float) (i : ℕ) where
  -- one stretch more
  pub stretches-more : i < end → stretches_at step at end net i ≡ step net (at (i - 1)) (at i) ∷ stretches_at step at end (step net (at (i - 1)) (at i)).net.0 (i + 1)
  unfolding stretches_from
  stretches-more h =
      let s = step net (at (i - 1)) (at i) in
      let e : i ≡ i + 1 - 1 = omega arith in
      ap (stretches_from step net (at (i - 1))) (range-more at i end h)
      ∙ ap (λ (k : ℕ). s ∷ stretches_from step s.net.0 (at k) (up_from at (i + 1) (end - (i + 1)))) e

  -- none left
  pub stretches-none : end ≤ i → stretches_at step at end net i ≡ []
  unfolding stretches_from
  stretches-none h = ap (stretches_from step net (at (i - 1))) (range_none at i end h)

module _ (curves : Bool) (train : TrainParams) (base net length : Float) (at : ℕ → Sample) (first : ℕ) where
  -- without samples
  pub stretches-flat : (count : ℕ) → count ≡ 0 → stretches curves train base net length (up_from at first count) ≡ flat_stretch base net length ∷ []
  unfolding stretches up_from
  stretches-flat count e = ap (λ (n : ℕ). stretches curves train base net length (up_from at first n)) e

  -- all of them
  pub stretches-all : (count : ℕ) → 0 < count → stretches curves train base net length (up_from at first count) ≡ stretches_at (stretch_step curves train base) at (first + count) net (first + 1)
  unfolding stretches up_from
  stretches-all count h =
      let n = first + count - (first + 1) in
      let e : count ≡ suc n = omega arith in
      let f : first ≡ first + 1 - 1 = omega arith in
      let g : suc first ≡ first + 1 = omega arith in
      ap (λ (k : ℕ). stretches curves train base net length (up_from at first k)) e
      ∙ ap₂ (λ (j k : ℕ). stretches_from (stretch_step curves train base) net (at j) (up_from at k n)) f g

-- ---- how many they are

pub count_none : (n : ℕ) → n ≡ 0 → record_count n ≡ 1
count_none n e = rw (eq-eqb n 0 e)

pub count-some : (n : ℕ) → 0 < n → record_count n ≡ n - 1
count-some n h = rw (ne_eqb n 0 (λ e. omega arith))

pub count-range : (at : ℕ → Sample) (first count : ℕ) → stretch_count (up_from at first count) ≡ record_count count
count-range at first count = ap record_count (length-range at first count)

-- ---- what they come to

-- an answer so far, and where the rest ends
abbrev pub after : Bool → Reached → Reached
after finite r = record { finite = finite && r.finite; offset = r.offset; net = r.net }

module _ (finite : Bool) (offset net : Float) where
  reached-more : (s : Stretch) (ss : List Stretch) → after finite (reached offset net (s ∷ ss)) ≡ after (finite && s.finite) (reached s.offset.0 s.net.0 ss)
  unfolding reached every offset_after net_after
  reached-more s ss = rw (and_assoc finite s.finite (every is_finite ss))

  reached-none : after finite (reached offset net []) ≡ record { finite = finite; offset = record { 0 = offset }; net = record { 0 = net } }
  unfolding reached every offset_after net_after
  reached-none = rw (and-true finite)

module _ (step : Float → Sample → Sample → Stretch) (at : ℕ → Sample) (end : ℕ) (finite : Bool) (offset net : Float) (i : ℕ) where
  -- one stretch more
  pub walk_more :
      {s : Stretch}
      → i < end
      → s ≡ step net (at (i - 1)) (at i)
      → after finite (reached offset net (stretches_at step at end net i)) ≡ after (finite && s.finite) (reached s.offset.0 s.net.0 (stretches_at step at end s.net.0 (i + 1)))
  walk_more h e =
      ap (λ (ss : List Stretch). after finite (reached offset net ss)) (stretches-more step at end net i h)
      ∙ reached-more finite offset net _ _
      ∙ ap (λ (s : Stretch). after (finite && s.finite) (reached s.offset.0 s.net.0 (stretches_at step at end s.net.0 (i + 1)))) (sym e)

  -- none left
  pub walk_none : end ≤ i → after finite (reached offset net (stretches_at step at end net i)) ≡ record { finite = finite; offset = record { 0 = offset }; net = record { 0 = net } }
  walk_none h = ap (λ (ss : List Stretch). after finite (reached offset net ss)) (stretches-none step at end net i h) ∙ reached-none finite offset net

-- without samples
pub walk-flat : (offset net : Float) (s : Stretch) → reached offset net (s ∷ []) ≡ record { finite = s.finite; offset = s.offset; net = s.net }
unfolding reached every offset_after net_after
walk-flat offset net s = rw (and-true s.finite)

-- ---- the end alone

abbrev pub ended : Float → Float → List Stretch → Option StretchEnd
ended offset net ss = end_of (reached offset net ss)

-- none, unless it is so
pub cond_none : {A : Type 0} (b : Bool) (x : A) → cond b (Some x) None ≡ None → b ≡ false
cond_none true x e = absurd (none-some x (sym e))
cond_none false x e = refl

-- what the answer tells
module _ (offset net : Float) (ss : List Stretch) where
  pub ended-told : {r : StretchEnd} → ended offset net ss ≡ Some r → (every is_finite ss ≡ true) × (record { offset = record { 0 = offset_after offset ss }; net = record { 0 = net_after net ss } } ≡ r)
  unfolding reached
  ended-told {r} e = cond_some (every is_finite ss) _ r e

  pub not-ended : ended offset net ss ≡ None → every is_finite ss ≡ false
  unfolding reached
  not-ended e = cond_none (every is_finite ss) _ e
