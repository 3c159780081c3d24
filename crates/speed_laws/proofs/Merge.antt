-- The merge of the points after a first one: a run of changes, after which the smaller speed is posted.
use mathlib.Core.Path.{◌≡◌, refl, sym, ◌∙◌, subst}
use mathlib.Core.Bool.{Bool, true, false, cond}
use mathlib.Core.List.{List, [], ◌∷◌}
use Prim.Native.Nat.{ℕ, zero, suc, ◌≤◌, ◌<◌}
use native.Mathlib.Nat.{not-suc-le-zero, le_of_suc-le-suc}
use native.Mathlib.Omega.{arith}
use lib.Dec.{T}
use lib.ListN.{length, drop}
use lib.Ieee as Ieee
use lib.Ieee.{Float, nan}
use Rattle.ieee.specs.Number.{real}
use Rattle.ieee.specs.Speed.{min_speed}
use Rattle.ieee.proofs.Order.{eq_refl, of-true}
use Rattle.ieee.proofs.Speed.{min_speed-real}
use Rattle.speed.specs.Points.{Point}
use Rattle.speed.specs.Insert.{merge}
use Rattle.speed.specs.Posted.{passed, posted, SortedFrom}
use Rattle.speed.proofs.Reached.{reaches, only, alike, reaches-back}
use Rattle.speed_laws.proofs.Changes.{lowered, Change, none, next, then, lower, out, past, change-met}
use Rattle.speed_laws.proofs.PointInFront.{merge-front}

merge-one : (v : Float) (k : ℕ) (q r : Point) (rs : List Point) → merge v (suc k) 1 (q ∷ r ∷ rs) ≡ cond (Ieee.eq q.speed (min_speed r.speed v)) (merge v k 1 (q ∷ rs)) (q ∷ merge v k 1 (lowered v r ∷ rs))
unfolding merge
merge-one v k q r rs = pick (Ieee.eq q.speed (min_speed r.speed v))
  where
    pick : (b : Bool) → merge v k (cond b 1 2) (cond b (q ∷ rs) (q ∷ lowered v r ∷ rs)) ≡ cond b (merge v k 1 (q ∷ rs)) (q ∷ merge v k 1 (lowered v r ∷ rs))
    pick true = refl
    pick false = merge-front v k 0 q (lowered v r ∷ rs)

module _ (s e v : Float) where
  -- The merge of k points after q, the next of which is at or before e, is a run of changes.
  pub merged : (k : ℕ) (q : Point) (rs : List Point) → k ≤ length rs → (0 < k → T (reaches e (drop k rs))) → SortedFrom q.offset rs → SortedFrom s rs → Change s e v (q ∷ rs) (merge v k 1 (q ∷ rs))
  unfolding merge
  merged zero q [] z n h f = pick (Ieee.eq q.speed nan)
    where
      pick : (b : Bool) → Change s e v (q ∷ []) (cond b (q ∷ []) (q ∷ []))
      pick true = none
      pick false = none
  merged zero q (r ∷ rs) z n h f = pick (Ieee.eq q.speed r.speed) refl
    where
      pick : (b : Bool) → Ieee.eq q.speed r.speed ≡ b → Change s e v (q ∷ r ∷ rs) (cond b (q ∷ rs) (q ∷ r ∷ rs))
      pick true k = out q r rs f.0 h.0 (of-true k)
      pick false k = none
  merged (suc k) q [] z n h f = absurd (not-suc-le-zero z)
  merged (suc k) q (r ∷ rs) z n h f =
      let at : T (reaches e (drop k rs)) = n (omega arith) in
      let g : SortedFrom s rs = past s r rs f in
      let y : k ≤ length rs = le_of_suc-le-suc z in
      subst (Change s e v (q ∷ r ∷ rs)) (sym (merge-one v k q r rs))
      (then (next q (lower r rs f.0 (reaches-back e r.offset k rs h.1 at)))
      (pick (Ieee.eq q.speed (min_speed r.speed v)) refl (merged k q rs y (λ i. at) (past q.offset r rs h) g) (merged k (lowered v r) rs y (λ i. at) h.1 g)))
    where
      pick : (b : Bool) → Ieee.eq q.speed (min_speed r.speed v) ≡ b → Change s e v (q ∷ rs) (merge v k 1 (q ∷ rs)) → Change s e v (lowered v r ∷ rs) (merge v k 1 (lowered v r ∷ rs))
          → Change s e v (q ∷ lowered v r ∷ rs) (cond b (merge v k 1 (q ∷ rs)) (q ∷ merge v k 1 (lowered v r ∷ rs)))
      pick true l a b = then (out q (lowered v r) rs f.0 h.0 (of-true l)) a
      pick false l a b = next q b

  -- It posts at x the smaller of y and v. The points after q post y there if they reach x; otherwise the speed of q equals the smaller already. Where the points that it leaves
  -- as they are reach x, y has to be the smaller.
  module _ (x y : Float) (number : T (real v)) (real-y : T (real y)) where
    pub merged-met : (k : ℕ) (q : Point) (rs : List Point) (u : Float) → k ≤ length rs → (0 < k → T (reaches e (drop k rs))) → SortedFrom q.offset rs → SortedFrom s rs → T (Ieee.le q.offset x)
        → (T (reaches x rs) → (t : Float) → posted x rs t ≡ y) → (reaches x rs ≡ false → T (Ieee.eq q.speed (min_speed y v))) → (T (reaches x rs) → T (reaches x (drop k rs)) → T (Ieee.eq y (min_speed y v)))
        → T (Ieee.eq (posted x (merge v k 1 (q ∷ rs)) u) (min_speed y v))
    merged-met zero q rs u z n h f m a b l = change-met s v x u y (merged zero q rs z n h f) number real-y (pick (reaches x rs) refl)
      where
        pick : (c : Bool) → reaches x rs ≡ c → T (Ieee.eq (posted x (q ∷ rs) u) (min_speed y v))
        pick true k = rw (a (of-true k) (passed x q u)) (l (of-true k) (of-true k))
        pick false k = rw (only x q rs u h m k) (b k)
    merged-met (suc k) q [] u z n h f m a b l = absurd (not-suc-le-zero z)
    merged-met (suc k) q (p ∷ rs) u z n h f m a b l =
        pick (Ieee.le p.offset x) refl (merged-met k q rs u (le_of_suc-le-suc z) (λ i. n (omega arith)) (past q.offset p rs h) (past s p rs f) m)
        (λ r. merged-met k (lowered v p) rs (passed x q u) (le_of_suc-le-suc z) (λ i. n (omega arith)) h.1 (past s p rs f) r)
      where
        Later : Point → Float → Type 0
        Later q u =
            (T (reaches x rs) → (t : Float) → posted x rs t ≡ y) → (reaches x rs ≡ false → T (Ieee.eq q.speed (min_speed y v))) → (T (reaches x rs) → T (reaches x (drop k rs)) → T (Ieee.eq y (min_speed y v)))
            → T (Ieee.eq (posted x (merge v k 1 (q ∷ rs)) u) (min_speed y v))

        pick : (c : Bool) → Ieee.le p.offset x ≡ c → Later q u → (T (Ieee.le p.offset x) → Later (lowered v p) (passed x q u)) → T (Ieee.eq (posted x (merge v (suc k) 1 (q ∷ p ∷ rs)) u) (min_speed y v))
        pick false w i j = change-met s v x u y (merged (suc k) q (p ∷ rs) z n h f) number real-y (rw (only x q (p ∷ rs) u h m w) (b w))
        pick true w i j = rw (merge-one v k q p rs) (either (Ieee.eq q.speed (min_speed p.speed v)) refl)
          where
            r : T (Ieee.le p.offset x)
            r = of-true w

            same : T (reaches x rs) → (t : Float) → posted x rs t ≡ y
            same w t = alike x rs t (passed x p t) w ∙ a r t

            own : reaches x rs ≡ false → p.speed ≡ y
            own w = sym (only x p rs u h.1 r w) ∙ a r u

            either : (c : Bool) → Ieee.eq q.speed (min_speed p.speed v) ≡ c → T (Ieee.eq (posted x (cond c (merge v k 1 (q ∷ rs)) (q ∷ merge v k 1 (lowered v p ∷ rs))) u) (min_speed y v))
            either true w = i same (λ o. rw (own o) at (of-true w)) (λ t. l r)
            either false w = j r same (λ o. rw (own o) (eq_refl (min_speed y v) (min_speed-real y v real-y number))) (λ t. l r)
