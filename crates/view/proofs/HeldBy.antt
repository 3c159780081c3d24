-- What `held_by` names does hold: the limit covers every offset of the row, its tail counted in, with the size posted; the top speed has that size.
-- Neither is named only where no limit holds and the top speed is not posted.
use Rattle.std.proofs.Common.{◌≡◌, Bool, true, false, cond, not, T, ◌⊎◌, List, [], ◌∷◌, refl, subst, inl, inr, T_not}
use Rattle.std.specs.Prelude.{Option, Some, None, find}
use mathlib.Core.List.{Memᴰ}
use mathlib.Core.List.Memᴰ
use lib.Ieee.{Float, le, lt, eq}
use lib.Ieee.Fits.{and_i, and_l, and_r}
use Rattle.ieee.specs.Number.{real, size}
use Rattle.ieee.specs.Speed.{smaller}
use Rattle.ieee.proofs.Order.{of-true, of-false, le_trans, lt-le-trans, lt-real-r}
use Rattle.ieee.proofs.Sizes.{smaller-is, smaller-le-l, smaller-le-r}
use Rattle.speed.specs.declared.laid.Laid.{Laid}
use Rattle.speed_laws.specs.Words.{covers}
use Rattle.view.specs.declared.holders.Held.{Held}
use Rattle.view.specs.declared.holders.Held.TheVariants.{Limit, Top}
use Rattle.view.specs.Holders.{holds, held_as, held_by, part_end, piece_end}

-- ---- a limit holds v at x where it covers x with the size of v, and nowhere else
module _ (x v : Float) (l : Laid) where
  pub holds_of : T (covers l.start l.end x) → T (eq (size l.value) (size v)) → T (holds x v l)
  unfolding holds
  holds_of c e = and_i (covers l.start l.end x) (eq (size l.value) (size v)) c e

  pub holds-says : T (holds x v l) → T (covers l.start l.end x) × T (eq (size l.value) (size v))
  unfolding holds
  holds-says h =
      let c = covers l.start l.end x in
      let q = eq (size l.value) (size v) in
      (and_l c q h, and_r c q h)

-- ---- the search
module _ (p : Laid → Bool) where
  -- what a search found is one of the limits, and is p; where it found none, none is p
  abbrev Searched : List Laid → Option Laid → Type 0
  Searched limits (Some l) = Memᴰ l limits × T (p l)
  Searched limits None = (k : Laid) → Memᴰ k limits → T (p k) → ⊥

  searched : (limits : List Laid) → Searched limits (find p limits)
  searched [] = λ k m. absurd (Memᴰ.not-nil m)
  searched (l ∷ limits) = go (p l) refl (find p limits) (searched limits)
    where
      on : p l ≡ false → (r : Option Laid) → Searched limits r → Searched (l ∷ limits) r
      on e (Some k) s = (Memᴰ.tail s.0, s.1)
      on e None s = λ k m t. elim (Memᴰ.cases_cons m) [ inl q ↦ T_not (p l) (of-false e) (subst (λ (j : Laid). T (p j)) q t) | inr i ↦ s k i t ]

      go : (b : Bool) → p l ≡ b → (r : Option Laid) → Searched limits r → Searched (l ∷ limits) (cond b (Some l) r)
      go true e r s = (Memᴰ.head refl, of-true e)
      go false e r s = on e r s

-- ---- what an answer says of the limit found and of the top speed
abbrev Said : Option Laid → Bool → Option Held → Type 0
Said found at_top (Some (Limit l)) = found ≡ Some l
Said found at_top (Some Top) = T at_top
Said found at_top None = (found ≡ None) × T (not at_top)

said : (found : Option Laid) (at_top : Bool) → Said found at_top (held_as found at_top)
said (Some l) at_top = refl
said None true = tt
said None false = (refl, tt)

-- ---- what is before the smaller of two is before each
module _ (y s t : Float) (h : T (lt y (smaller s t))) where
  before-l : T (real s) → T (lt y s)
  before-l p = elim (smaller-is s t) [
    | inl e ↦ rw e at h
    | inr e ↦ lt-le-trans y (smaller s t) s h (smaller-le-l s t p (lt-real-r y t (rw e at h)))
  ]

  before-r : T (real t) → T (lt y t)
  before-r p = elim (smaller-is s t) [
    | inl e ↦ lt-le-trans y (smaller s t) t h (smaller-le-r s t (lt-real-r y s (rw e at h)) p)
    | inr e ↦ rw e at h
  ]

-- the part of a limit that x lies in ends no later than its tail
within-tail : (b t x to y : Float) → T (real t) → T (lt y (part_end b t x to)) → T (lt y t)
within-tail b t x to y p = go (lt x b)
  where
    go : (c : Bool) → T (lt y (cond c (smaller (smaller b to) t) (smaller t to))) → T (lt y t)
    go true h = before-r y (smaller b to) t h p
    go false h = before-l y t to h p

module _ (limits : List Laid) (x v top : Float) where
  told : (h : Option Held) → held_by limits x v top ≡ h → Said (find (holds x v) limits) (eq (size v) (size top)) h
  unfolding held_by
  told h e =
      let found = find (holds x v) limits in
      let at_top = eq (size v) (size top) in
      subst (Said found at_top) e (said found at_top)

  -- a limit that is named is one of the limits, covers x, and has the size posted
  pub held-limit : (l : Laid) → held_by limits x v top ≡ Some (Limit l) → Memᴰ l limits × T (covers l.start l.end x) × T (eq (size l.value) (size v))
  held-limit l e =
      let s : Searched (holds x v) limits (Some l) = subst (Searched (holds x v) limits) (told (Some (Limit l)) e) (searched (holds x v) limits) in
      let said = holds-says x v l s.1 in
      (s.0, said.0, said.1)

  -- the top speed is named only where it is posted
  pub held-top : held_by limits x v top ≡ Some Top → T (eq (size v) (size top))
  held-top e = told (Some Top) e

  -- where a limit holds, or the top speed is posted, one of them is named
  pub held-some : ((l : Laid) × Memᴰ l limits × T (holds x v l)) ⊎ T (eq (size v) (size top)) → held_by limits x v top ≡ None → ⊥
  held-some s e =
      let t = told None e in
      let none : Searched (holds x v) limits None = subst (Searched (holds x v) limits) t.0 (searched (holds x v) limits) in
      elim s [ inl w ↦ none w.0 w.1 w.2 | inr q ↦ T_not (eq (size v) (size top)) t.1 q ]

  -- the limit that is named covers every offset of the row
  pub piece-covered : (l : Laid) → held_by limits x v top ≡ Some (Limit l) → (to y : Float) → T (le x y) → T (lt y (piece_end limits x to v (Some (Limit l))))
      → T (covers l.start l.end y)
  unfolding piece_end
  piece-covered l e to y h before =
      let c = (held-limit l e).1 in
      and_i (le l.start y) (lt y l.end)
      (le_trans l.start x y (and_l (le l.start x) (lt x l.end) c) h)
      (within-tail l.board l.end x to y (lt-real-r x l.end (and_r (le l.start x) (lt x l.end) c)) before)
