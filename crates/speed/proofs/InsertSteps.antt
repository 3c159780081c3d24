-- The steps of `insert_speed`, each as an equation under the test that leads to it, and the bounds of its searches.
use mathlib.Core.Path.{◌≡◌, refl, ap, ◌∙◌, subst}
use mathlib.Core.Bool.{Bool, true, false, cond, ◌&&◌, false≢true}
use mathlib.Core.List.{List, [], ◌∷◌, ◌++◌}
use Prim.Native.Nat.{ℕ, zero, suc, ◌+◌, ◌-◌, ◌≤◌, ◌<◌}
use native.Mathlib.Nat.{not-suc-le-zero, add-zero}
use native.Mathlib.Omega.{arith}
use native.Mathlib.Numerals.{add-one}
use borrow.Author.Tests.{lt-ltb}
use lib.ListN.{length, take, drop, length-append, length-take, length-drop, drop_of_length-le}
use lib.Seq.{drop-cons, take-length, drop-length}
use lib.Ieee as Ieee
use lib.Ieee.{Float}
use Rattle.ieee.specs.Speed.{min_speed}
use Rattle.ieee.proofs.Order.{lt_not_le, of-true}
use Rattle.column.specs.Entries.{insert_at, remove_at}
use Rattle.speed.specs.Points.{Point, point, nowhere, offset_at, speed_at, set_speed, set_offset, repeats}
use Rattle.speed.specs.Insert.{next_index, next_points, drop_repeat, merge, first_from, last_from, ends, lay_end, lay_start, between, splits, lay_between, lay_from, lay_limit, append_change, append_limit, insert_speed}

-- ---- lengths

pub length_inserted : (i : ℕ) (p : Point) (ps : List Point) → length (insert_at i p ps) ≡ length ps + 1
length_inserted i p ps = length-append (take i ps) (p ∷ drop i ps) ∙ omega (arith, length-take i ps, length-drop i ps)

pub length_removed : (i : ℕ) (ps : List Point) → i < length ps → length (remove_at i ps) ≡ length ps - 1
length_removed i ps h = length-append (take i ps) (drop (suc i) ps) ∙ omega (arith, length-take i ps, length-drop (suc i) ps)

pub insert-end : (n : ℕ) (p : Point) (ps : List Point) → length ps ≡ n → insert_at n p ps ≡ ps ++ p ∷ []
insert-end n p ps e = subst (λ (k : ℕ). insert_at k p ps ≡ ps ++ p ∷ []) e (rw (take-length ps, drop-length ps))

-- ---- the point before

pub repeats-none : (i : ℕ) (w : Float) (ps : List Point) → i ≡ 0 → false ≡ repeats i w ps
repeats-none i w ps e = rw e

pub repeats-some : (i : ℕ) (w : Float) (ps : List Point) → (i ≡ 0 → ⊥) → Ieee.eq (speed_at ps (i - 1)) w ≡ repeats i w ps
repeats-some i w ps h = let p : 0 < i = omega arith in rw (lt-ltb 0 i p)

pub repeats-after : (i : ℕ) (w : Float) (ps : List Point) → repeats i w ps ≡ true → 0 < i
repeats-after zero w ps t = absurd (false≢true t)
repeats-after (suc i) w ps t = omega arith

-- ---- the searches

module _ (s : Float) (ps : List Point) (i : ℕ) where
  pub first-at : i < length ps → first_from s (drop i ps) ≡ cond (Ieee.lt (offset_at ps i) s) (suc (first_from s (drop (suc i) ps))) 0
  unfolding first_from
  first-at h = ap (first_from s) (drop-cons ps i nowhere h)

  pub first-pass : i < length ps → Ieee.lt (offset_at ps i) s ≡ true → i + first_from s (drop i ps) ≡ i + 1 + first_from s (drop (i + 1) ps)
  first-pass h t =
      let e : first_from s (drop i ps) ≡ suc (first_from s (drop (suc i) ps)) = first-at h ∙ rw t in
      let f : first_from s (drop (i + 1) ps) ≡ first_from s (drop (suc i) ps) = rw (add-one i) in
      omega arith

  pub first-stop : i < length ps → Ieee.lt (offset_at ps i) s ≡ false → i + first_from s (drop i ps) ≡ i
  first-stop h t =
      let e : first_from s (drop i ps) ≡ 0 = first-at h ∙ rw t in
      omega arith

  pub first-end : length ps ≤ i → i + first_from s (drop i ps) ≡ i
  unfolding first_from
  first-end h = rw (drop_of_length-le ps h) (add-zero i)

pub last-pass : (e : Float) (j : ℕ) (ps : List Point) → 0 < j → Ieee.lt e (offset_at ps j) ≡ true → last_from e j ps ≡ last_from e (j - 1) ps
unfolding last_from
last-pass e zero ps h t = absurd (not-suc-le-zero h)
last-pass e (suc j) ps h t = let q : suc j - 1 ≡ j = omega arith in rw (t, q)

pub last-stop : (e : Float) (j : ℕ) (ps : List Point) → Ieee.lt e (offset_at ps j) ≡ false → last_from e j ps ≡ j
unfolding last_from
last-stop e zero ps t = refl
last-stop e (suc j) ps t = rw t

pub last_none : (e : Float) (j : ℕ) (ps : List Point) → j ≤ 0 → last_from e j ps ≡ j
unfolding last_from
last_none e zero ps h = refl
last_none e (suc j) ps h = absurd (not-suc-le-zero h)

pub last-le : (e : Float) (k : ℕ) (ps : List Point) → last_from e k ps ≤ k
unfolding last_from
last-le e zero ps = omega arith
last-le e (suc k) ps = pick (Ieee.lt e (offset_at ps (suc k))) (last-le e k ps)
  where
    pick : (b : Bool) → last_from e k ps ≤ k → cond b (last_from e k ps) (suc k) ≤ suc k
    pick true h = omega arith
    pick false h = omega arith

-- ---- the merge

pub repeat-dropped : (i : ℕ) (ps : List Point) → repeats i (speed_at ps i) ps ≡ true → drop_repeat i ps ≡ remove_at i ps
unfolding drop_repeat
repeat-dropped i ps t = rw t

pub repeat-kept : (i : ℕ) (ps : List Point) → repeats i (speed_at ps i) ps ≡ false → drop_repeat i ps ≡ ps
unfolding drop_repeat
repeat-kept i ps t = rw t

pub merge-next : (v : Float) (k i : ℕ) (ps : List Point) → merge v (suc k) i ps ≡ merge v k (next_index (min_speed (speed_at ps i) v) i ps) (next_points (min_speed (speed_at ps i) v) i ps)
unfolding merge
merge-next v k i ps = refl

-- of the turns from the first up to j, those from k on are left
module _ (v : Float) (j k a : ℕ) (ps : List Point) where
  pub merge-done : j ≤ k → merge v (j - k) a ps ≡ drop_repeat a ps
  unfolding merge
  merge-done h = let e : j - k ≡ 0 = omega arith in rw e

  pub merge-removed : k < j → repeats a (min_speed (speed_at ps a) v) ps ≡ true → merge v (j - k) a ps ≡ merge v (j - (k + 1)) a (remove_at a ps)
  merge-removed h t = let e : j - k ≡ suc (j - (k + 1)) = omega arith in ap (λ (k : ℕ). merge v k a ps) e ∙ merge-next v (j - (k + 1)) a ps ∙ rw t

  pub merge-stored : k < j → repeats a (min_speed (speed_at ps a) v) ps ≡ false → merge v (j - k) a ps ≡ merge v (j - (k + 1)) (a + 1) (set_speed a (min_speed (speed_at ps a) v) ps)
  merge-stored h t = let e : j - k ≡ suc (j - (k + 1)) = omega arith in ap (λ (k : ℕ). merge v k a ps) e ∙ merge-next v (j - (k + 1)) a ps ∙ rw (t, add-one a)

-- ---- the limit's ends

pub end-laid : (e v : Float) (i j : ℕ) (ps : List Point) → ends e v j ps ≡ true → lay_end e v i j ps ≡ merge v (j + 1 - i) i (insert_at (j + 1) (point e (speed_at ps j)) ps)
unfolding lay_end
end-laid e v i j ps t = rw (t, add-one j)

pub end_kept : (e v : Float) (i j : ℕ) (ps : List Point) → ends e v j ps ≡ false → lay_end e v i j ps ≡ merge v (j - i) i ps
unfolding lay_end
end_kept e v i j ps t = rw t

module _ (s e v : Float) (i j : ℕ) (ps : List Point) where
  pub start-laid : Ieee.lt s (offset_at ps i) ≡ true → Ieee.ne (speed_at ps (i - 1)) (min_speed (speed_at ps (i - 1)) v) ≡ true
      → lay_start s e v i j ps ≡ lay_end e v (i + 1) (j + 1) (insert_at i (point s (min_speed (speed_at ps (i - 1)) v)) ps)
  unfolding lay_start
  start-laid t u = rw (t, u, add-one i, add-one j)

  pub start-same : Ieee.lt s (offset_at ps i) ≡ true → Ieee.ne (speed_at ps (i - 1)) (min_speed (speed_at ps (i - 1)) v) ≡ false → lay_start s e v i j ps ≡ lay_end e v i j ps
  unfolding lay_start
  start-same t u = rw (t, u)

  pub start-kept : Ieee.lt s (offset_at ps i) ≡ false → lay_start s e v i j ps ≡ lay_end e v i j ps
  unfolding lay_start
  start-kept t = rw t

module _ (s e v : Float) (i : ℕ) (ps : List Point) where
  pub between-laid : splits s e v i ps ≡ true → lay_between s e v i ps ≡ insert_at i (point s (min_speed (speed_at ps (i - 1)) v)) (insert_at i (point e (speed_at ps (i - 1))) ps)
  unfolding lay_between
  between-laid t = rw t

  pub between-kept : splits s e v i ps ≡ false → lay_between s e v i ps ≡ ps
  unfolding lay_between
  between-kept t = rw t

module _ (s e v : Float) (i j : ℕ) (ps : List Point) where
  pub from-between : between s e i ps ≡ true → lay_from s e v i j ps ≡ lay_between s e v i ps
  unfolding lay_from
  from-between t = rw t

  pub from_start : between s e i ps ≡ false → lay_from s e v i j ps ≡ lay_start s e v i j ps
  unfolding lay_from
  from_start t = rw t

pub limit-from : (s e v : Float) (ps : List Point) (n : ℕ) → length ps ≡ n → lay_limit s e v ps ≡ lay_from s e v (first_from s ps) (last_from e (n - 1) ps) ps
unfolding lay_limit
limit-from s e v ps n q = rw q

-- ---- a limit past the last point

module _ (l : ℕ) (s e u w : Float) (ps : List Point) where
  pub change-after : Ieee.lt (offset_at ps l) s ≡ true → append_change l s e u w ps ≡ ps ++ point s w ∷ point e u ∷ []
  unfolding append_change
  change-after t = rw t

  pub change-moved : Ieee.lt (offset_at ps l) s ≡ false → repeats l w ps ≡ true → append_change l s e u w ps ≡ set_offset l e ps
  unfolding append_change
  change-moved t r = rw (t, r)

  pub change-at : Ieee.lt (offset_at ps l) s ≡ false → repeats l w ps ≡ false → append_change l s e u w ps ≡ set_speed l w ps ++ point e u ∷ []
  unfolding append_change
  change-at t r = rw (t, r)

module _ (s e v : Float) (ps : List Point) (n : ℕ) (q : length ps ≡ n) where
  pub append-changed : Ieee.ne (speed_at ps (n - 1)) (min_speed (speed_at ps (n - 1)) v) ≡ true
      → append_limit s e v ps ≡ append_change (n - 1) s e (speed_at ps (n - 1)) (min_speed (speed_at ps (n - 1)) v) ps
  unfolding append_limit
  append-changed t = rw (q, t)

  pub append-same : Ieee.ne (speed_at ps (n - 1)) (min_speed (speed_at ps (n - 1)) v) ≡ false → append_limit s e v ps ≡ ps
  unfolding append_limit
  append-same t = rw (q, t)

  pub insert-append : Ieee.le (offset_at ps (n - 1)) s ≡ true → insert_speed ps s e v ≡ append_limit s e v ps
  unfolding insert_speed
  insert-append t = rw (q, t)

  pub insert-lay : Ieee.le (offset_at ps (n - 1)) s ≡ false → insert_speed ps s e v ≡ lay_limit s e v ps
  unfolding insert_speed
  insert-lay t = rw (q, t)

pub ends-yes : (e v : Float) (j : ℕ) (ps : List Point) → Ieee.lt (offset_at ps j) e ≡ true → ends e v j ps ≡ Ieee.ne (speed_at ps j) (min_speed (speed_at ps j) v)
ends-yes e v j ps t = rw t

pub ends-no : (e v : Float) (j : ℕ) (ps : List Point) → Ieee.lt (offset_at ps j) e ≡ false → false ≡ ends e v j ps
ends-no e v j ps t = rw t

pub between-yes : (s e : Float) (i : ℕ) (ps : List Point) → 0 < i → between s e i ps ≡ (Ieee.le s e && Ieee.lt e (offset_at ps i))
between-yes s e i ps h = rw (lt-ltb 0 i h)

pub between-no : (s e : Float) (i : ℕ) (ps : List Point) → i ≤ 0 → false ≡ between s e i ps
between-no s e i ps h = let q : i ≡ 0 = omega arith in rw q

pub between-some : (s e : Float) (i : ℕ) (ps : List Point) → between s e i ps ≡ true → 0 < i
between-some s e zero ps t = absurd (false≢true t)
between-some s e (suc i) ps t = omega arith

-- ---- bounds of the searches

pub first-le : (s : Float) (ps : List Point) → first_from s ps ≤ length ps
unfolding first_from
first-le s [] = omega arith
first-le s (p ∷ ps) = pick (Ieee.lt p.offset s) (first-le s ps)
  where
    pick : (b : Bool) → first_from s ps ≤ length ps → cond b (suc (first_from s ps)) 0 ≤ suc (length ps)
    pick true h = omega arith
    pick false h = omega arith

pub first_below : (s : Float) (ps : List Point) → 0 < length ps → Ieee.lt (offset_at ps (length ps - 1)) s ≡ false → first_from s ps < length ps
unfolding first_from
first_below s [] h t = absurd (not-suc-le-zero h)
first_below s (p ∷ []) h t = rw t (omega arith)
first_below s (p ∷ q ∷ ps) h t =
    let e : suc (suc (length ps)) - 1 ≡ suc (length ps) = omega arith in
    let f : suc (length ps) - 1 ≡ length ps = omega arith in
    pick (Ieee.lt p.offset s) (first_below s (q ∷ ps) (omega arith) (rw f (rw e at t)))
  where
    pick : (b : Bool) → first_from s (q ∷ ps) < suc (length ps) → cond b (suc (first_from s (q ∷ ps))) 0 < suc (suc (length ps))
    pick true g = omega arith
    pick false g = omega arith

pub start-after : (s : Float) (ps : List Point) (k : ℕ) → Ieee.le (offset_at ps 0) s ≡ true → Ieee.lt s (offset_at ps k) ≡ true → 0 < k
start-after s ps zero l t = absurd (lt_not_le s (offset_at ps 0) (of-true t) (of-true l))
start-after s ps (suc k) l t = omega arith
