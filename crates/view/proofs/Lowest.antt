-- What `lowest` finds: a limit that covers the offset with a size below that of v, none with a smaller one; or there is none.
use Rattle.std.proofs.Common.{◌≡◌, Bool, true, false, cond, T, ◌⊎◌, List, [], ◌∷◌, sym, refl, subst, inl, inr, T_not}
use Rattle.std.specs.Prelude.{Option, Some, None, fold}
use mathlib.Core.List.{Memᴰ}
use mathlib.Core.List.Memᴰ
use lib.Ieee.{Float, lt}
use lib.Ieee.Fits.{and_i, and_l, and_r}
use Rattle.ieee.specs.Number.{size}
use Rattle.ieee.proofs.Order.{of-true, of-false, lt_trans, lt_irrefl}
use Rattle.speed.specs.declared.laid.Laid.{Laid}
use Rattle.speed_laws.specs.Words.{covers}
use Rattle.view.specs.Holders.{below, speed_or, lower, lowest}

module _ (x v : Float) where
  abbrev covers_at : Laid → Type 0
  covers_at l = T (covers l.start l.end x)

  -- l's size is below that of the limit found; below that of v where none is found
  abbrev Under : Laid → Option Laid → Type 0
  Under l found = T (lt (size l.value) (size (speed_or v found)))

  below_of : (u : Float) (l : Laid) → covers_at l → T (lt (size l.value) (size u)) → T (below x u l)
  unfolding below
  below_of u l c s = and_i (covers l.start l.end x) (lt (size l.value) (size u)) c s

  below-covers : (u : Float) (l : Laid) → T (below x u l) → covers_at l
  unfolding below
  below-covers u l b = and_l (covers l.start l.end x) (lt (size l.value) (size u)) b

  below-size : (u : Float) (l : Laid) → T (below x u l) → T (lt (size l.value) (size u))
  unfolding below
  below-size u l b = and_r (covers l.start l.end x) (lt (size l.value) (size u)) b

  -- r, found among the limits behind one found before: it is that one, or one of them that covers x with a smaller size; and none of them is below it
  record Found (limits : List Laid) (before r : Option Laid) : Type 0 where
    here : (r ≡ before) ⊎ ((l : Laid) × (r ≡ Some l) × Memᴰ l limits × covers_at l × Under l before)
    least : (k : Laid) → Memᴰ k limits → covers_at k → Under k r → ⊥

  -- no limit is left
  found-none : (before : Option Laid) → Found [] before before
  found-none before = record { here = inl refl; least = λ k m. absurd (Memᴰ.not-nil m) }

  module _ (l : Laid) (limits : List Laid) (before r : Option Laid) where
    -- l is below the one found
    found_here : T (below x (speed_or v before) l) → Found limits (Some l) r → Found (l ∷ limits) before r
    found_here b f = record { here = here; least = least }
      where
        here : (r ≡ before) ⊎ ((k : Laid) × (r ≡ Some k) × Memᴰ k (l ∷ limits) × covers_at k × Under k before)
        here = elim f.here [
          | inl e ↦ inr (l, e, Memᴰ.head refl, below-covers (speed_or v before) l b, below-size (speed_or v before) l b)
          | inr w ↦ inr (w.0, w.1, Memᴰ.tail w.2, w.3, lt_trans (size w.0.value) (size l.value) (size (speed_or v before)) w.4 (below-size (speed_or v before) l b))
        ]

        -- l is not below r
        not-under : Under l r → ⊥
        not-under u = elim f.here [
          | inl e ↦ lt_irrefl (size l.value) (subst (Under l) e u)
          | inr w ↦ lt_irrefl (size l.value) (lt_trans (size l.value) (size w.0.value) (size l.value) (subst (Under l) w.1 u) w.4)
        ]

        least : (k : Laid) → Memᴰ k (l ∷ limits) → covers_at k → Under k r → ⊥
        least k m c u = elim (Memᴰ.cases_cons m) [ inl e ↦ not-under (subst (λ (j : Laid). Under j r) e u) | inr i ↦ f.least k i c u ]

    -- l is not
    found-on : (T (below x (speed_or v before) l) → ⊥) → Found limits before r → Found (l ∷ limits) before r
    found-on none f = record { here = here; least = least }
      where
        here : (r ≡ before) ⊎ ((k : Laid) × (r ≡ Some k) × Memᴰ k (l ∷ limits) × covers_at k × Under k before)
        here = elim f.here [ inl e ↦ inl e | inr w ↦ inr (w.0, w.1, Memᴰ.tail w.2, w.3, w.4) ]

        -- what is below r is below the one found before
        under : (k : Laid) → Under k r → Under k before
        under k u = elim f.here [
          | inl e ↦ subst (Under k) e u
          | inr w ↦ lt_trans (size k.value) (size w.0.value) (size (speed_or v before)) (subst (Under k) w.1 u) w.4
        ]

        least : (k : Laid) → Memᴰ k (l ∷ limits) → covers_at k → Under k r → ⊥
        least k m c u = elim (Memᴰ.cases_cons m) [
          | inl e ↦ none (subst (λ (j : Laid). T (below x (speed_or v before) j)) e (below_of (speed_or v before) k c (under k u)))
          | inr i ↦ f.least k i c u
        ]

  found : (limits : List Laid) (before : Option Laid) → Found limits before (fold (lower x v) before limits)
  unfolding lower
  found [] before = found-none before
  found (l ∷ limits) before = go (below x (speed_or v before) l) refl (found limits (Some l)) (found limits before)
    where
      go : (b : Bool) → below x (speed_or v before) l ≡ b → Found limits (Some l) (fold (lower x v) (Some l) limits) → Found limits before (fold (lower x v) before limits)
          → Found (l ∷ limits) before (fold (lower x v) (cond b (Some l) before) limits)
      go true e f g = found_here l limits before (fold (lower x v) (Some l) limits) (of-true e) f
      go false e f g = found-on l limits before (fold (lower x v) before limits) (λ b. T_not (below x (speed_or v before) l) (of-false e) b) g

-- of the limits
module _ (limits : List Laid) (x v : Float) where
  -- the limit found is one of them, covers x, and its size is below that of v
  pub lowest-covers : (l : Laid) → lowest limits x v ≡ Some l → Memᴰ l limits × T (covers l.start l.end x) × T (lt (size l.value) (size v))
  lowest-covers l e =
      elim (found x v limits None).here [
        | inl q ↦ let z : ⊥ = cc in absurd z
        | inr w ↦ let q : w.0 ≡ l = cc in subst (λ (k : Laid). Memᴰ k limits × T (covers k.start k.end x) × T (lt (size k.value) (size v))) q (w.2, w.3, w.4)
      ]

  -- none has a smaller one
  pub lowest-least : (l : Laid) → lowest limits x v ≡ Some l → (k : Laid) → Memᴰ k limits
      → T (covers k.start k.end x) → T (lt (size k.value) (size l.value)) → ⊥
  lowest-least l e k m c s = (found x v limits None).least k m c (subst (Under x v k) (sym e) s)

  -- where none is found, none covers x with a size below that of v
  pub lowest-none : lowest limits x v ≡ None → (k : Laid) → Memᴰ k limits
      → T (covers k.start k.end x) → T (lt (size k.value) (size v)) → ⊥
  lowest-none e k m c s = (found x v limits None).least k m c (subst (Under x v k) (sym e) s)
