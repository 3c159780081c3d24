-- Where a search ends: between the hint and the list's end, and at the record that R60 or R61 names.
use Prim.Native.Nat.{ℕ, zero, suc, ◌+◌, ◌-◌, ◌≤◌, ◌<◌}
use native.Mathlib.Nat.{not-suc-le-zero, le_of_suc-le-suc}
use native.Mathlib.Omega.{arith}
use mathlib.Core.Path.{◌≡◌, refl, sym, ap, ◌∙◌, subst}
use mathlib.Core.Bool.{Bool, true, false, not, cond}
use mathlib.Core.List.{List, [], ◌∷◌}
use borrow.Author.Tests.{ltb-true}
use lib.Dec.{T, ltb}
use lib.ListN.{length, drop, length-drop}
use lib.Seq.{get_or-drop}
use lib.Ieee as Ieee
use lib.Ieee.{Float}
use mathlib.Core.Logic.{inl, inr}
use Rattle.ieee.proofs.Order.{of-true, of-false, lt_not_le}
use Rattle.ieee.proofs.Round.{split}
use Rattle.lookup.specs.declared.lin_search_hint.Dir.{Dir}
use Rattle.lookup.specs.declared.lin_search_hint.Dir.TheVariants.{Unk, Fwd, Bwd}
use Rattle.lookup.specs.declared.path_res_coeff.PathResCoeff.{PathResCoeff}
use Rattle.lookup.specs.Coeff.{no_coeff, stands_at, offset_at}
use Rattle.lookup.specs.Search.{count_before, forwards, last_not_after, searched, in_range, hint_allowed}
use Rattle.lookup.specs.CalcIdx.{Indexed, done_at, refused, find_in}

-- ---- how many records at the front are before x
count-le : (x : Float) (rs : List PathResCoeff) → count_before x rs ≤ length rs
unfolding count_before
count-le x [] = omega arith
count-le x (g ∷ rs) = pick (Ieee.lt (stands_at g) x) (count-le x rs)
  where
    pick : (b : Bool) → count_before x rs ≤ length rs → cond b (suc (count_before x rs)) 0 ≤ suc (length rs)
    pick true h = omega arith
    pick false h = omega arith

-- each of them is before x
count-before : (x : Float) (rs : List PathResCoeff) (k : ℕ) → k < count_before x rs → T (Ieee.lt (offset_at rs k) x)
unfolding count_before
count-before x [] k h = absurd (not-suc-le-zero h)
count-before x (g ∷ rs) k h = pick (Ieee.lt (stands_at g) x) refl k h (count-before x rs)
  where
    pick : (b : Bool) → Ieee.lt (stands_at g) x ≡ b → (k : ℕ) → k < cond b (suc (count_before x rs)) 0 → ((j : ℕ) → j < count_before x rs → T (Ieee.lt (offset_at rs j) x)) → T (Ieee.lt (offset_at (g ∷ rs) k) x)
    pick true e zero h i = of-true e
    pick true e (suc k) h i = i k (le_of_suc-le-suc h)
    pick false e k h i = absurd (not-suc-le-zero h)

-- the one after them is not
count-stop : (x : Float) (rs : List PathResCoeff) → count_before x rs < length rs → T (not (Ieee.lt (offset_at rs (count_before x rs)) x))
unfolding count_before
count-stop x [] h = absurd (not-suc-le-zero h)
count-stop x (g ∷ rs) h = pick (Ieee.lt (stands_at g) x) refl h (count-stop x rs)
  where
    pick : (b : Bool) → Ieee.lt (stands_at g) x ≡ b → cond b (suc (count_before x rs)) 0 < suc (length rs)
        → (count_before x rs < length rs → T (not (Ieee.lt (offset_at rs (count_before x rs)) x)))
        → T (not (Ieee.lt (offset_at (g ∷ rs) (cond b (suc (count_before x rs)) 0)) x))
    pick true e h i = i (le_of_suc-le-suc h)
    pick false e h i = of-false e

module _ (x : Float) (hint : ℕ) (rs : List PathResCoeff) where
  -- ---- forwards
  after : (k : ℕ) → offset_at (drop (suc hint) rs) k ≡ offset_at rs (suc hint + k)
  after k = ap stands_at (get_or-drop (suc hint) rs k no_coeff)

  -- never back
  pub forward-from : hint ≤ forwards x hint rs
  unfolding forwards
  forward-from = omega arith

  -- every record passed has a successor before x
  pub forward-passed : (k : ℕ) → hint ≤ k → k < forwards x hint rs → T (Ieee.lt (offset_at rs (suc k)) x)
  unfolding forwards
  forward-passed k h g =
      let n = count_before x (drop (suc hint) rs) in
      let e : suc hint + (k - hint) ≡ suc k = omega arith in
      subst (λ (y : Float). T (Ieee.lt y x)) (after (k - hint) ∙ ap (offset_at rs) e) (count-before x (drop (suc hint) rs) (k - hint) (omega arith))

  module _ (below : suc hint < length rs) (inside : T (Ieee.le x (offset_at rs (length rs - 1)))) where
    -- not every successor is before x: the last record is not
    short : count_before x (drop (suc hint) rs) < length (drop (suc hint) rs)
    short = strict (count_before x (drop (suc hint) rs)) (length (drop (suc hint) rs)) (count-le x (drop (suc hint) rs)) full
      where
        full : count_before x (drop (suc hint) rs) ≡ length (drop (suc hint) rs) → ⊥
        full e =
            let n = length (drop (suc hint) rs) in
            let size : n ≡ length rs - suc hint = length-drop (suc hint) rs in
            let k : n - 1 < count_before x (drop (suc hint) rs) = omega arith in
            let l : T (Ieee.lt (offset_at rs (suc hint + (n - 1))) x) = subst (λ (y : Float). T (Ieee.lt y x)) (after (n - 1)) (count-before x (drop (suc hint) rs) (n - 1) k) in
            let i : suc hint + (n - 1) ≡ length rs - 1 = omega arith in
            lt_not_le (offset_at rs (length rs - 1)) x (subst (λ (j : ℕ). T (Ieee.lt (offset_at rs j) x)) i l) inside

        strict : (a b : ℕ) → a ≤ b → (a ≡ b → ⊥) → a < b
        strict a b h k = elim (split a b) [ inl l ↦ l | inr l ↦ absurd (k (omega arith)) ]

    -- the answer has a successor
    pub forward-below : suc (forwards x hint rs) < length rs
    unfolding forwards
    forward-below = omega (arith, short, length-drop (suc hint) rs)

    -- and it is not before x
    pub forward-stops : T (not (Ieee.lt (offset_at rs (suc (forwards x hint rs))) x))
    unfolding forwards
    forward-stops =
        let n = count_before x (drop (suc hint) rs) in
        let e : suc hint + n ≡ suc (hint + n) = omega arith in
        subst (λ (y : Float). T (not (Ieee.lt y x))) (after n ∙ ap (offset_at rs) e) (count-stop x (drop (suc hint) rs) short)

-- ---- backwards
module _ (at : ℕ → Float) (x : Float) where
  -- never forwards
  pub backward-to : (hint : ℕ) → last_not_after at x hint ≤ hint
  unfolding last_not_after
  backward-to zero = omega arith
  backward-to (suc i) = pick (Ieee.lt x (at (suc i))) (backward-to i)
    where
      pick : (b : Bool) → last_not_after at x i ≤ i → cond b (last_not_after at x i) (suc i) ≤ suc i
      pick true h = omega arith
      pick false h = omega arith

  -- every offset passed is after x
  pub backward-passed : (hint k : ℕ) → last_not_after at x hint < k → k ≤ hint → T (Ieee.lt x (at k))
  unfolding last_not_after
  backward-passed zero k h g = absurd (omega arith)
  backward-passed (suc i) k h g = pick (Ieee.lt x (at (suc i))) refl h (backward-passed i k)
    where
      last : (k ≡ suc i) → T (Ieee.lt x (at (suc i))) → T (Ieee.lt x (at k))
      last e t = subst (λ (j : ℕ). T (Ieee.lt x (at j))) (sym e) t

      pick : (b : Bool) → Ieee.lt x (at (suc i)) ≡ b → cond b (last_not_after at x i) (suc i) < k → (last_not_after at x i < k → k ≤ i → T (Ieee.lt x (at k))) → T (Ieee.lt x (at k))
      pick true e h more = elim (split k (suc i)) [ inl l ↦ more h (le_of_suc-le-suc l) | inr l ↦ last (omega arith) (of-true e) ]
      pick false e h more = absurd (omega arith)

  -- the answer is not after x, where the first is not
  pub backward-stops : (hint : ℕ) → T (not (Ieee.lt x (at 0))) → T (not (Ieee.lt x (at (last_not_after at x hint))))
  unfolding last_not_after
  backward-stops zero f = f
  backward-stops (suc i) f = pick (Ieee.lt x (at (suc i))) refl (backward-stops i f)
    where
      pick : (b : Bool) → Ieee.lt x (at (suc i)) ≡ b → T (not (Ieee.lt x (at (last_not_after at x i)))) → T (not (Ieee.lt x (at (cond b (last_not_after at x i) (suc i)))))
      pick true e more = more
      pick false e more = of-false e

-- ---- either way: a search that is done ends at an index of the list
forward-within : (x : Float) (hint : ℕ) (rs : List PathResCoeff) → Ieee.le x (offset_at rs (length rs - 1)) ≡ true → ltb (suc hint) (length rs) ≡ true → forwards x hint rs < length rs
forward-within x hint rs e f = omega (arith, forward-below x hint rs (ltb-true (suc hint) (length rs) f) (of-true e))

searched-below : (dir : Dir) (x : Float) (hint : ℕ) (rs : List PathResCoeff) → in_range dir x rs ≡ true → hint_allowed dir hint rs ≡ true → searched dir x hint rs < length rs
unfolding searched in_range hint_allowed
searched-below Unk x hint rs e f = forward-within x hint rs e f
searched-below Fwd x hint rs e f = forward-within x hint rs e f
searched-below Bwd x hint rs e f = omega (arith, backward-to (offset_at rs) x hint, ltb-true hint (length rs) f)

-- done at an index below n
abbrev pub FoundBelow : ℕ → Indexed → Type 0
FoundBelow n f = f.number ≡ 0 → (f ≡ done_at f.index) × (f.index < n)

pub found_below : (dir : Dir) (x : Float) (hint : ℕ) (rs : List PathResCoeff) → FoundBelow (length rs) (find_in dir x hint rs)
unfolding find_in
found_below dir x hint rs = go (in_range dir x rs) refl (hint_allowed dir hint rs) refl
  where
    go : (a : Bool) → in_range dir x rs ≡ a → (b : Bool) → hint_allowed dir hint rs ≡ b → FoundBelow (length rs) (cond a (cond b (done_at (searched dir x hint rs)) (refused 11)) (refused 10))
    go true e true f z = (refl, searched-below dir x hint rs e f)
    go true e false f z = absurd (omega arith)
    go false e b f z = absurd (omega arith)
