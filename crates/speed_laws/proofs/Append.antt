-- A limit that starts at or after the last point, laid: a run of changes, after which the smaller speed is posted wherever the limit covers.
use mathlib.Core.Path.{◌≡◌, refl, subst}
use mathlib.Core.Logic.{inl, inr}
use mathlib.Core.Bool.{Bool, true, false, cond}
use mathlib.Core.List.{List, [], ◌∷◌}
use Prim.Native.Nat.{suc, ◌-◌}
use lib.Dec.{T}
use lib.ListN.{length}
use lib.Ieee as Ieee
use lib.Ieee.{Float, nan}
use Rattle.ieee.specs.Number.{real}
use Rattle.ieee.specs.Speed.{min_speed}
use Rattle.ieee.proofs.Order.{le_trans, le_refl, le-real-l, le-real-r, lt_not_le, not-lt, eq_refl, of-true, of-false}
use Rattle.ieee.proofs.Speed.{min_speed-real}
use Rattle.speed.specs.Points.{Point, point, offset_at}
use Rattle.speed.specs.Insert.{append_change, append_limit}
use Rattle.speed.specs.Posted.{passed, posted, Sorted}
use Rattle.speed.proofs.Reached.{passes, not-passed}
use Rattle.speed_laws.specs.Words.{covers}
use Rattle.speed_laws.proofs.Changes.{Change, none, next, then, enter, lower, out, covers-from, covers-to, Laid, laid_next, low-already}
use Rattle.speed_laws.proofs.PointInFront.{less_one, append-front}

module _ (s e v : Float) (order : T (Ieee.le s e)) where
  at-s : (q : Point) → T (Ieee.le q.offset s) → Ieee.lt q.offset s ≡ false → T (Ieee.le s q.offset)
  at-s q b k = not-lt q.offset s (le-real-l q.offset s b) (le-real-r q.offset s b) (of-false k)

  -- the last point
  module _ (q : Point) (before : T (Ieee.le q.offset s)) where
    abbrev low : Float
    low = min_speed q.speed v

    to-e : T (Ieee.le q.offset e)
    to-e = le_trans q.offset s e before order

    -- its speed is posted, and low in its place
    laid-last : (ps qs : List Point) → Change s e v ps qs → ((x u : Float) → T (Ieee.le q.offset x) → posted x ps u ≡ q.speed)
        → ((x u : Float) → T (Ieee.le s x) → T (Ieee.le q.offset x) → (T (Ieee.le e x) → ⊥) → (T (Ieee.eq low low)) → T (Ieee.eq (posted x qs u) low)) → Laid s e v ps qs
    laid-last ps qs c f g = record { change = c; met = met }
      where
        met : (x u : Float) → T (covers s e x) → T (real v) → T (real (posted x ps u)) → T (Ieee.eq (posted x qs u) (min_speed (posted x ps u) v))
        met x u h number y =
            let a = covers-from s e x h in
            let o : T (Ieee.le q.offset x) = le_trans q.offset s x before a in
            let own = f x u o in
            rw own (g x u a o (λ l. lt_not_le x e (covers-to s e x h) l) (eq_refl low (min_speed-real q.speed v (subst (λ (t : Float). T (real t)) own y) number)))

    -- the limit changes nothing
    last-same : Ieee.ne q.speed low ≡ false → Laid s e v (q ∷ []) (q ∷ [])
    last-same k = laid-last (q ∷ []) (q ∷ []) none (λ x u o. passes x q u o) (λ x u a o f i. rw (passes x q u o) (low-already v q.speed k))

    -- (s, low) and (e, u) come after it
    last-after : Laid s e v (q ∷ []) (q ∷ point s low ∷ point e q.speed ∷ [])
    last-after =
        let end = point e q.speed in
        laid-last (q ∷ []) (q ∷ point s low ∷ end ∷ [])
        (then (enter q e [] (inr refl) to-e tt) (then (enter q s (end ∷ []) (inl refl) before (order, tt)) (next q (lower (point s q.speed) (end ∷ []) (le_refl s (le-real-r q.offset s before)) (le_refl e (le-real-r s e order))))))
        (λ x u o. passes x q u o)
        (λ x u a o f i. rw (not-passed x end (passed x (point s low) (passed x q u)) f, passes x (point s low) (passed x q u) a) i)

    module _ (at : T (Ieee.le s q.offset)) where
      -- it is lowered, and (e, u) comes after it
      last-at : Laid s e v (q ∷ []) (point q.offset low ∷ point e q.speed ∷ [])
      last-at =
          let end = point e q.speed in
          let new = point q.offset low in
          laid-last (q ∷ []) (new ∷ end ∷ []) (then (enter q e [] (inr refl) to-e tt) (lower q (end ∷ []) at (le_refl e (le-real-r s e order)))) (λ x u o. passes x q u o)
          (λ x u a o f i. rw (not-passed x end (passed x new u) f, passes x new u o) i)

      -- it moves to e, as the point before it has the low speed
      last-moved : (p : Point) → T (Ieee.le p.offset q.offset) → T (Ieee.eq p.speed low) → Laid s e v (p ∷ q ∷ []) (p ∷ point e q.speed ∷ [])
      last-moved p l k =
          let end = point e q.speed in
          laid-last (p ∷ q ∷ []) (p ∷ end ∷ []) (then (next p last-at.change) (out p (point q.offset low) (end ∷ []) at l k)) (λ x u o. passes x q (passed x p u) o)
          (λ x u a o f i. rw (not-passed x end (passed x p u) f, passes x p u (le_trans p.offset q.offset x l o)) k)

  -- The limit is laid.
  pub append-laid : (ps : List Point) → Sorted ps → T (Ieee.le (offset_at ps (length ps - 1)) s) → Laid s e v ps (append_limit s e v ps)
  unfolding append_limit append_change
  append-laid [] h b = absurd (le-real-l nan s b)
  append-laid (q ∷ []) h b = pick (Ieee.ne q.speed low') refl (Ieee.lt q.offset s) refl
    where
      low' : Float
      low' = min_speed q.speed v

      pick : (a : Bool) → Ieee.ne q.speed low' ≡ a → (c : Bool) → Ieee.lt q.offset s ≡ c
          → Laid s e v (q ∷ []) (cond a (cond c (q ∷ point s low' ∷ point e q.speed ∷ []) (point q.offset low' ∷ point e q.speed ∷ [])) (q ∷ []))
      pick false a c k = last-same q b a
      pick true a true k = last-after q b
      pick true a false k = last-at q b (at-s q b k)
  append-laid (p ∷ q ∷ []) h b = pick (Ieee.ne q.speed low') refl (Ieee.lt q.offset s) refl (Ieee.eq p.speed low') refl
    where
      low' : Float
      low' = min_speed q.speed v

      pick : (a : Bool) → Ieee.ne q.speed low' ≡ a → (c : Bool) → Ieee.lt q.offset s ≡ c → (d : Bool) → Ieee.eq p.speed low' ≡ d
          → Laid s e v (p ∷ q ∷ []) (cond a (cond c (p ∷ q ∷ point s low' ∷ point e q.speed ∷ []) (cond d (p ∷ point e q.speed ∷ []) (p ∷ point q.offset low' ∷ point e q.speed ∷ []))) (p ∷ q ∷ []))
      pick false a c k d m = laid_next p (last-same q b a)
      pick true a true k d m = laid_next p (last-after q b)
      pick true a false k true m = last-moved q b (at-s q b k) p h.0 (of-true m)
      pick true a false k false m = laid_next p (last-at q b (at-s q b k))
  append-laid (p ∷ q ∷ r ∷ ps) h b =
      rw (append-front s e v p q r ps) (laid_next p (append-laid (q ∷ r ∷ ps) h.1 (rw (less_one (suc (length ps))) (rw (less_one (suc (suc (length ps)))) at b))))
