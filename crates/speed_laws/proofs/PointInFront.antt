-- A point in front of those that a step of `insert_speed` looks at takes no part in it.
use mathlib.Core.Path.{◌≡◌, refl, sym, ap, ap₂, ◌∙◌}
use mathlib.Core.Bool.{Bool, true, false, cond, ◌&&◌}
use mathlib.Core.List.{List, ◌∷◌}
use Prim.Native.Nat.{ℕ, zero, suc, ◌-◌}
use native.Mathlib.Omega.{arith}
use lib.ListN.{length}
use lib.Ieee as Ieee
use lib.Ieee.{Float}
use Rattle.ieee.specs.Speed.{min_speed}
use Rattle.column.specs.Entries.{insert_at, remove_at}
use Rattle.speed.specs.Points.{Point, point, offset_at, speed_at, set_speed, repeats}
use Rattle.speed.specs.Insert.{drop_repeat, merge, ends, lay_end, lay_start, lay_between, lay_from, last_from, append_change, append_limit}
use Rattle.speed.proofs.InsertSteps.{repeats-some, between-yes}

pub less_one : (n : ℕ) → suc n - 1 ≡ n
less_one n = omega arith

cond-front : (b : Bool) (p : Point) (l r : List Point) → cond b (p ∷ l) (p ∷ r) ≡ p ∷ cond b l r
cond-front true p l r = refl
cond-front false p l r = refl

repeats-suc : (i : ℕ) (w : Float) (ps : List Point) → repeats (suc i) w ps ≡ Ieee.eq (speed_at ps i) w
repeats-suc i w ps = sym (repeats-some (suc i) w ps (λ (h : suc i ≡ 0). omega arith)) ∙ rw (less_one i)

repeats-front : (i : ℕ) (w : Float) (p : Point) (ps : List Point) → repeats (suc (suc i)) w (p ∷ ps) ≡ repeats (suc i) w ps
repeats-front i w p ps = repeats-suc (suc i) w (p ∷ ps) ∙ sym (repeats-suc i w ps)

-- the merge from the third point on or later
pub merge-front : (v : Float) (k i : ℕ) (p : Point) (ps : List Point) → merge v k (suc (suc i)) (p ∷ ps) ≡ p ∷ merge v k (suc i) ps
unfolding merge drop_repeat
merge-front v zero i p ps = rw (repeats-front i (speed_at ps (suc i)) p ps) (cond-front (repeats (suc i) (speed_at ps (suc i)) ps) p (remove_at (suc i) ps) ps)
merge-front v (suc k) i p ps = rw (repeats-front i w p ps) (pick (repeats (suc i) w ps) (merge-front v k i p (remove_at (suc i) ps)) (merge-front v k (suc i) p (set_speed (suc i) w ps)))
  where
    w : Float
    w = min_speed (speed_at ps (suc i)) v

    Front : ℕ → List Point → Type 0
    Front i l = merge v k (suc (suc i)) (p ∷ l) ≡ p ∷ merge v k (suc i) l

    pick : (b : Bool) → Front i (remove_at (suc i) ps) → Front (suc i) (set_speed (suc i) w ps)
        → merge v k (cond b (suc (suc i)) (suc (suc (suc i)))) (cond b (p ∷ remove_at (suc i) ps) (p ∷ set_speed (suc i) w ps)) ≡ p ∷ merge v k (cond b (suc i) (suc (suc i))) (cond b (remove_at (suc i) ps) (set_speed (suc i) w ps))
    pick true f g = f
    pick false f g = g

-- the limit's end, and its start
pub end-front : (e v : Float) (i j : ℕ) (p : Point) (ps : List Point) → lay_end e v (suc (suc i)) (suc j) (p ∷ ps) ≡ p ∷ lay_end e v (suc i) j ps
unfolding lay_end
end-front e v i j p ps =
    let new = insert_at (suc j) (point e (speed_at ps j)) ps in
    let a : suc (suc j) - suc (suc i) ≡ suc j - suc i = omega arith in
    let b : suc j - suc (suc i) ≡ j - suc i = omega arith in
    rw (a, b) (ap₂ (cond (ends e v j ps)) (merge-front v (suc j - suc i) i p new) (merge-front v (j - suc i) i p ps) ∙ cond-front (ends e v j ps) p (merge v (suc j - suc i) (suc i) new) (merge v (j - suc i) (suc i) ps))

start-front : (s e v : Float) (i j : ℕ) (p : Point) (ps : List Point) → lay_start s e v (suc (suc i)) (suc j) (p ∷ ps) ≡ p ∷ lay_start s e v (suc i) j ps
unfolding lay_start
start-front s e v i j p ps =
    let w = min_speed (speed_at ps i) v in
    let b = Ieee.lt s (offset_at ps (suc i)) && Ieee.ne (speed_at ps i) w in
    let new = insert_at (suc i) (point s w) ps in
    rw (less_one (suc i), less_one i)
    (ap₂ (cond b) (end-front e v (suc i) (suc j) p new) (end-front e v i j p ps) ∙ cond-front b p (lay_end e v (suc (suc i)) (suc j) new) (lay_end e v (suc i) j ps))

-- a limit between two points, and either
between-front : (s e v : Float) (i : ℕ) (p : Point) (ps : List Point) → lay_between s e v (suc (suc i)) (p ∷ ps) ≡ p ∷ lay_between s e v (suc i) ps
unfolding lay_between
between-front s e v i p ps =
    let u = speed_at ps i in
    let w = min_speed u v in
    rw (less_one (suc i), less_one i) (cond-front (Ieee.lt s e && Ieee.ne u w) p (insert_at (suc i) (point s w) (insert_at (suc i) (point e u) ps)) ps)

pub from_front : (s e v : Float) (i j : ℕ) (p : Point) (ps : List Point) → lay_from s e v (suc (suc i)) (suc j) (p ∷ ps) ≡ p ∷ lay_from s e v (suc i) j ps
unfolding lay_from
from_front s e v i j p ps =
    let b = Ieee.le s e && Ieee.lt e (offset_at ps (suc i)) in
    rw (between-yes s e (suc (suc i)) (p ∷ ps) (omega arith), between-yes s e (suc i) ps (omega arith))
    (ap₂ (cond b) (between-front s e v i p ps) (start-front s e v i j p ps) ∙ cond-front b p (lay_between s e v (suc i) ps) (lay_start s e v (suc i) j ps))

-- the search for the last point at or before e, if the second point is
pub last-front : (e : Float) (k : ℕ) (p q : Point) (ps : List Point) → Ieee.lt e q.offset ≡ false → last_from e (suc k) (p ∷ q ∷ ps) ≡ suc (last_from e k (q ∷ ps))
unfolding last_from
last-front e zero p q ps h = rw h
last-front e (suc k) p q ps h = rw (last-front e k p q ps h) (pick (Ieee.lt e (offset_at ps k)))
  where
    pick : (b : Bool) → cond b (suc (last_from e k (q ∷ ps))) (suc (suc k)) ≡ suc (cond b (last_from e k (q ∷ ps)) (suc k))
    pick true = refl
    pick false = refl

-- a limit after the last point, if there are three points
pub append-front : (s e v : Float) (p q r : Point) (ps : List Point) → append_limit s e v (p ∷ q ∷ r ∷ ps) ≡ p ∷ append_limit s e v (q ∷ r ∷ ps)
unfolding append_limit append_change
append-front s e v p q r ps =
    let l = q ∷ r ∷ ps in
    let n = suc (length ps) in
    let u = speed_at l n in
    let w = min_speed u v in
    ap (limit (p ∷ l)) (less_one (suc n))
    ∙ rw (repeats-front (length ps) w p l) (pick (Ieee.ne u w) (Ieee.lt (offset_at l n) s) (repeats n w l) _ _ _ _)
    ∙ sym (ap (λ (k : ℕ). p ∷ limit l k) (less_one n))
  where
    -- the rule with k for the index of the last point
    limit : List Point → ℕ → List Point
    limit ps k = let u = speed_at ps k in cond (Ieee.ne u (min_speed u v)) (append_change k s e u (min_speed u v) ps) ps

    pick : (a b c : Bool) (x y z t : List Point) → cond a (cond b (p ∷ x) (cond c (p ∷ y) (p ∷ z))) (p ∷ t) ≡ p ∷ cond a (cond b x (cond c y z)) t
    pick true true c x y z t = refl
    pick true false true x y z t = refl
    pick true false false x y z t = refl
    pick false b c x y z t = refl
