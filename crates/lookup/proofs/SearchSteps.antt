-- The steps of the searches and of the questions before them, each as an equation under the test that leads to it.
use Prim.Native.Nat.{ℕ, zero, suc, ◌+◌, ◌-◌, ◌*◌, ◌≤◌, ◌<◌}
use native.Mathlib.Nat.{not-suc-le-zero, add-zero}
use native.Mathlib.Numerals.{add-one}
use native.Mathlib.Omega.{arith}
use mathlib.Core.Path.{◌≡◌, refl, ap, ◌∙◌}
use mathlib.Core.Bool.{true, false, cond, and-eq-true_iff}
use mathlib.Core.List.{List}
use borrow.Author.Tests.{leb-true}
use lib.Dec.{leb}
use lib.ListN.{length, drop, drop_of_length-le}
use lib.Seq.{drop-cons}
use lib.Ieee as Ieee
use lib.Ieee.{Float}
use Rattle.lookup.specs.declared.lin_search_hint.Dir.TheVariants.{Unk, Fwd}
use Rattle.lookup.specs.declared.path_res_coeff.PathResCoeff.{PathResCoeff}
use Rattle.lookup.specs.Coeff.{no_coeff, offset_at}
use Rattle.lookup.specs.Search.{count_before, forwards, last_not_after, searched, in_range, hint_allowed}
use Rattle.lookup.specs.CalcIdx.{find_in, list_sound}

module _ (x : Float) (rs : List PathResCoeff) (i : ℕ) where
  count_at : suc i < length rs → count_before x (drop (suc i) rs) ≡ cond (Ieee.lt (offset_at rs (suc i)) x) (suc (count_before x (drop (suc (suc i)) rs))) 0
  unfolding count_before
  count_at h = ap (count_before x) (drop-cons rs (suc i) no_coeff h)

  -- the successor is before x: one record on
  pub forward-pass : i + 1 < length rs → Ieee.lt (offset_at rs (i + 1)) x ≡ true → forwards x i rs ≡ forwards x (i + 1) rs
  unfolding forwards
  forward-pass h t =
      let k : suc i < length rs = omega arith in
      let u : Ieee.lt (offset_at rs (suc i)) x ≡ true = rw (add-one i) at t in
      let e : count_before x (drop (suc i) rs) ≡ suc (count_before x (drop (suc (suc i)) rs)) = count_at k ∙ rw u in
      let f : count_before x (drop (suc (i + 1)) rs) ≡ count_before x (drop (suc (suc i)) rs) = rw (add-one i) in
      omega arith

  -- it is not: here the search ends
  pub forward-stop : i + 1 < length rs → Ieee.lt (offset_at rs (i + 1)) x ≡ false → forwards x i rs ≡ i
  unfolding forwards
  forward-stop h t =
      let k : suc i < length rs = omega arith in
      let u : Ieee.lt (offset_at rs (suc i)) x ≡ false = rw (add-one i) at t in
      let e : count_before x (drop (suc i) rs) ≡ 0 = count_at k ∙ rw u in
      omega arith

  -- there is no successor
  pub forward-end : length rs ≤ i + 1 → forwards x i rs ≡ i
  unfolding forwards count_before
  forward-end h =
      let k : length rs ≤ suc i = omega arith in
      rw (drop_of_length-le rs k) (add-zero i)

-- the offset here is after x: one place back
pub backward-pass : (at : ℕ → Float) (x : Float) (i : ℕ) → 0 < i → Ieee.lt x (at i) ≡ true → last_not_after at x i ≡ last_not_after at x (i - 1)
unfolding last_not_after
backward-pass at x zero h t = absurd (not-suc-le-zero h)
backward-pass at x (suc i) h t = let q : suc i - 1 ≡ i = omega arith in rw (t, q)

-- it is not
pub backward-stop : (at : ℕ → Float) (x : Float) (i : ℕ) → Ieee.lt x (at i) ≡ false → last_not_after at x i ≡ i
unfolding last_not_after
backward-stop at x zero t = refl
backward-stop at x (suc i) t = rw t

-- the first place
pub backward-first : (at : ℕ → Float) (x : Float) (i : ℕ) → i ≤ 0 → last_not_after at x i ≡ i
unfolding last_not_after
backward-first at x zero h = refl
backward-first at x (suc i) h = absurd (not-suc-le-zero h)

-- Unk searches as Fwd
pub unknown-forward : (x : Float) (hint : ℕ) (rs : List PathResCoeff) → find_in Fwd x hint rs ≡ find_in Unk x hint rs
unfolding find_in in_range hint_allowed searched
unknown-forward x hint rs = refl

-- ---- question 2 of a list searched alone
module _ (n : ℕ) (c : List Float) where
  -- what a yes says
  pub sound-known : list_sound n c ≡ true → (0 < n) × (3 * n ≤ length c)
  unfolding list_sound
  sound-known t =
      let both = (and-eq-true_iff (leb 1 n) (leb (3 * n) (length c))).0 t in
      (leb-true 1 n both.0, leb-true (3 * n) (length c) both.1)
