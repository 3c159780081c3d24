-- Two limits laid one after the other: what each is held to, in either order.
use mathlib.Core.Bool.{Bool, true, false, cond}
use mathlib.Core.List.{List}
use lib.Dec.{T}
use lib.Ieee as Ieee
use lib.Ieee.{Float}
use Rattle.ieee.specs.Number.{real}
use Rattle.ieee.specs.Speed.{min_speed}
use Rattle.ieee.proofs.Order.{eq_refl, eq-sym, eq_trans, eq-real-l}
use Rattle.ieee.proofs.Speed.{min_speed-cong, min_speed-real, min_speed-swap}
use Rattle.speed.specs.Points.{Point, offset_at}
use Rattle.speed.specs.Insert.{insert_speed}
use Rattle.speed.specs.Posted.{posted, Sorted}
use Rattle.speed_laws.specs.Words.{covers, held_to, Number, MayLay}
use Rattle.speed_laws.specs.EitherOrder.{EitherOrder}
use Rattle.speed_laws.proofs.Insert.{posted-every, insert-order, insert-exact}
use Rattle.speed_laws.proofs.Kept.{insert-begins}

-- u held to v, or not
abbrev low_if : Bool → Float → Float → Float
low_if b v u = cond b (min_speed u v) u

-- equal speeds held to a limit are equal
pub held-cong : (s e v x t u : Float) → T (real v) → T (Ieee.eq t u) → T (Ieee.eq (held_to s e v x t) (held_to s e v x u))
held-cong s e v x t u r h = pick (covers s e x)
  where
    pick : (b : Bool) → T (Ieee.eq (low_if b v t) (low_if b v u))
    pick true = min_speed-cong t u v v h (eq_refl v r)
    pick false = h

-- a speed held to two limits, in either order
held-swap : (s e v t f w x u : Float) → T (real v) → T (real w) → T (real u)
    → T (Ieee.eq (held_to t f w x (held_to s e v x u)) (held_to s e v x (held_to t f w x u)))
held-swap s e v t f w x u rv rz ru = pick (covers s e x) (covers t f x)
  where
    pick : (a b : Bool) → T (Ieee.eq (low_if b w (low_if a v u)) (low_if a v (low_if b w u)))
    pick true true = min_speed-swap u v w ru rv rz
    pick true false = eq_refl (min_speed u v) (min_speed-real u v ru rv)
    pick false true = eq_refl (min_speed u w) (min_speed-real u w ru rz)
    pick false false = eq_refl u ru

module _ (ps : List Point) (sorted : Sorted ps) (x u : Float) (old : T (real (posted x ps u))) where
  -- the posted speed is held to both
  twice : (s e v t f w : Float) → MayLay (offset_at ps 0) s e v → MayLay (offset_at ps 0) t f w
      → T (Ieee.eq (posted x (insert_speed (insert_speed ps s e v) t f w) u) (held_to t f w x (held_to s e v x (posted x ps u))))
  twice s e v t f w k l =
      let qs = insert_speed ps s e v in
      let was = posted x ps u in
      let is = posted x qs u in
      let one = insert-exact ps s e v sorted k.after k.forward x u k.number old in
      let begins : T (Ieee.le (offset_at qs 0) t) = rw (insert-begins ps s e v k.after) l.after in
      let order = insert-order ps s e v sorted k.after k.forward in
      let held = held_to s e v x was in
      let two = insert-exact qs t f w order begins l.forward x u l.number (eq-real-l is held one) in
      eq_trans (posted x (insert_speed qs t f w) u) (held_to t f w x is) (held_to t f w x held) two (held-cong t f w x is held l.number one)

-- In either order the same speed is posted.
pub either_order : EitherOrder
either_order ps sorted numbers x u from s e v t f w k l =
    let was = posted x ps u in
    let old = posted-every Number Number x u ps numbers from in
    let a = posted x (insert_speed (insert_speed ps s e v) t f w) u in
    let b = posted x (insert_speed (insert_speed ps t f w) s e v) u in
    let m = held_to t f w x (held_to s e v x was) in
    let n = held_to s e v x (held_to t f w x was) in
    eq_trans a m b (twice ps sorted x u old s e v t f w k l)
    (eq_trans m n b (held-swap s e v t f w x was k.number l.number old) (eq-sym b n (twice ps sorted x u old t f w s e v l k)))
