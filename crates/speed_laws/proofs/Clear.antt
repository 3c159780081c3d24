-- What `clear` leaves of the points, X being the new beginning: sorted points that begin at X, no more than before, and from X on the posted speeds of before.
use mathlib.Core.Path.{◌≡◌, refl, sym, ap, ◌∙◌, subst}
use mathlib.Core.Bool.{Bool, true, false, cond}
use mathlib.Core.List.{List, [], ◌∷◌}
use Prim.Native.Nat.{ℕ, zero, suc, ◌-◌, ◌≤◌, ◌<◌}
use native.Mathlib.Omega.{arith}
use lib.Dec.{T, not_T}
use lib.ListN.{length, drop, length-drop}
use lib.Ieee as Ieee
use lib.Ieee.{Float, nan}
use lib.Ieee.Bits.{is_true, is_false}
use Rattle.ieee.specs.Number.{real}
use Rattle.ieee.proofs.Order.{le_trans, le-real-l, le-real-r, lt→le, lt_irrefl, eq→le, le_lt_trans, not-lt, of-true, of-false}
use Rattle.speed.specs.Points.{Point, point, offset_at}
use Rattle.speed.specs.Insert.{first_from}
use Rattle.speed.specs.Clear.{is_at, move_to, clear_from, clear_points}
use Rattle.speed.specs.Posted.{passed, posted, SortedFrom, Sorted}
use Rattle.speed.proofs.Reached.{passes}
use Rattle.speed_laws.specs.Words.{Every}
use Rattle.speed_laws.proofs.PointInFront.{less_one}
use Rattle.speed_laws.proofs.Lay.{from_le}

every_drop : (O W : Float → Type 0) (k : ℕ) (ps : List Point) → Every O W ps → Every O W (drop k ps)
every_drop O W zero ps n = n
every_drop O W (suc k) [] n = tt
every_drop O W (suc k) (p ∷ ps) n = every_drop O W k ps n.2

-- ---- which point is the first that stays

module _ (X : Float) where
  -- the first, if it is not before X
  from_first : (p : Point) (ps : List Point) → Ieee.lt p.offset X ≡ false → clear_points (p ∷ ps) X ≡ point X p.speed ∷ ps
  unfolding clear_points first_from
  from_first p ps k = rw k (pick (Ieee.eq p.offset X))
    where
      pick : (b : Bool) → move_to X (drop (cond b 0 0) (p ∷ ps)) ≡ point X p.speed ∷ ps
      pick true = refl
      pick false = refl

  -- the only one
  from-only : (p : Point) → clear_points (p ∷ []) X ≡ point X p.speed ∷ []
  unfolding clear_points first_from
  from-only p = pick (Ieee.lt p.offset X) refl
    where
      pick : (b : Bool) → Ieee.lt p.offset X ≡ b → clear_points (p ∷ []) X ≡ point X p.speed ∷ []
      pick true k = rw k
      pick false k = from_first p [] k

  -- the first, if it is before X and the second is after X
  from_last : (p q : Point) (ps : List Point) → Ieee.lt p.offset X ≡ true → Ieee.lt q.offset X ≡ false → Ieee.eq q.offset X ≡ false → clear_points (p ∷ q ∷ ps) X ≡ point X p.speed ∷ q ∷ ps
  unfolding clear_points first_from
  from_last p q ps a b c = rw (a, b, c)

  -- one after the first, if that is before X and the second is at X or before it
  from_at : (p q : Point) (ps : List Point) → Ieee.lt p.offset X ≡ true → Ieee.lt q.offset X ≡ false → Ieee.eq q.offset X ≡ true → clear_points (p ∷ q ∷ ps) X ≡ clear_points (q ∷ ps) X
  unfolding clear_points first_from
  from_at p q ps a b c = rw (a, b, c)

  from_next : (p q : Point) (ps : List Point) → Ieee.lt p.offset X ≡ true → Ieee.lt q.offset X ≡ true → clear_points (p ∷ q ∷ ps) X ≡ clear_points (q ∷ ps) X
  unfolding clear_points first_from
  from_next p q ps a b = rw (a, b) (pick (is_at X (drop (first_from X ps) ps)))
    where
      n : ℕ
      n = first_from X ps

      pick : (c : Bool) → move_to X (drop (cond c (suc (suc n)) (suc (suc n) - 1)) (p ∷ q ∷ ps)) ≡ move_to X (drop (cond c (suc n) (suc n - 1)) (q ∷ ps))
      pick true = refl
      pick false = rw (less_one (suc n), less_one n)

  -- where the first stands does not matter, as long as it is before X
  from_either : (p q : Point) (ps : List Point) → p.speed ≡ q.speed → Ieee.lt p.offset X ≡ true → Ieee.lt q.offset X ≡ true → clear_points (p ∷ ps) X ≡ clear_points (q ∷ ps) X
  from_either p q [] e a b = from-only p ∙ ap (λ (v : Float). point X v ∷ []) e ∙ sym (from-only q)
  from_either p q (r ∷ ps) e a b = pick (Ieee.lt r.offset X) refl (Ieee.eq r.offset X) refl
    where
      pick : (c : Bool) → Ieee.lt r.offset X ≡ c → (d : Bool) → Ieee.eq r.offset X ≡ d → clear_points (p ∷ r ∷ ps) X ≡ clear_points (q ∷ r ∷ ps) X
      pick true k d m = from_next p r ps a k ∙ sym (from_next q r ps b k)
      pick false k true m = from_at p r ps a k m ∙ sym (from_at q r ps b k m)
      pick false k false m = from_last p r ps a k m ∙ ap (λ (v : Float). point X v ∷ r ∷ ps) e ∙ sym (from_last q r ps b k m)

-- Of the points from k on, q and rest, the first moves to X.
record Left (ps : List Point) (X : Float) : Type 0 where
  k : ℕ
  q : Point
  rest : List Point
  from : drop k ps ≡ q ∷ rest
  order : SortedFrom X rest
  left : clear_points ps X ≡ point X q.speed ∷ rest
  posts : (x u : Float) → T (Ieee.le X x) → posted x ps u ≡ posted x rest q.speed
  again : (Y : Float) → T (Ieee.lt X Y) → clear_points (point X q.speed ∷ rest) Y ≡ clear_points ps Y

left-first : (X : Float) (p : Point) (ps : List Point) → T (Ieee.le p.offset X) → SortedFrom X ps → clear_points (p ∷ ps) X ≡ point X p.speed ∷ ps → Left (p ∷ ps) X
left-first X p ps b o e = record { k = 0; q = p; rest = ps; from = refl; order = o; left = e; posts = λ x u h. ap (posted x ps) (passes x p u (le_trans p.offset X x b h)); again = λ Y h. from_either Y (point X p.speed) p ps refl (is_true _ h) (is_true _ (le_lt_trans p.offset X Y b h)) }

left-next : (X : Float) (p q : Point) (ps : List Point) → T (Ieee.le p.offset X) → T (Ieee.le q.offset X) → clear_points (p ∷ q ∷ ps) X ≡ clear_points (q ∷ ps) X → Left (q ∷ ps) X → Left (p ∷ q ∷ ps) X
left-next X p q ps a b e l = record { k = suc l.k; q = l.q; rest = l.rest; from = l.from; order = l.order; left = e ∙ l.left; posts = λ x u. l.posts x (passed x p u); again = λ Y h. l.again Y h ∙ sym (from_next Y p q ps (is_true _ (le_lt_trans p.offset X Y a h)) (is_true _ (le_lt_trans q.offset X Y b h))) }

cleared : (X : Float) (p : Point) (ps : List Point) → T (Ieee.le p.offset X) → SortedFrom p.offset ps → Left (p ∷ ps) X
cleared X p [] b h = left-first X p [] b tt (from-only X p)
cleared X p (q ∷ ps) b h = pick (Ieee.lt p.offset X) refl (Ieee.lt q.offset X) refl (Ieee.eq q.offset X) refl (λ l. cleared X q ps l h.1)
  where
    from-X : (o : Float) → T (real o) → Ieee.lt o X ≡ false → T (Ieee.le X o)
    from-X o r k = not-lt o X r (le-real-r p.offset X b) (of-false k)

    pick : (a : Bool) → Ieee.lt p.offset X ≡ a → (c : Bool) → Ieee.lt q.offset X ≡ c → (d : Bool) → Ieee.eq q.offset X ≡ d → (T (Ieee.le q.offset X) → Left (q ∷ ps) X) → Left (p ∷ q ∷ ps) X
    pick false a c k d m i = left-first X p (q ∷ ps) b (from_le X p.offset (q ∷ ps) (from-X p.offset (le-real-l p.offset X b) a) h) (from_first X p (q ∷ ps) a)
    pick true a true k d m i = let l = lt→le q.offset X (of-true k) in left-next X p q ps b l (from_next X p q ps a k) (i l)
    pick true a false k true m i = let l = eq→le q.offset X (of-true m) in left-next X p q ps b l (from_at X p q ps a k m) (i l)
    pick true a false k false m i = left-first X p (q ∷ ps) b (from-X q.offset (le-real-r p.offset q.offset h.0) k, h.1) (from_last X p q ps a k m)

-- ---- the laws

module _ (ps : List Point) (X : Float) (sorted : Sorted ps) (after : T (Ieee.le (offset_at ps 0) X)) where
  kept : Left ps X
  kept = go ps sorted after
    where
      go : (ps : List Point) → Sorted ps → T (Ieee.le (offset_at ps 0) X) → Left ps X
      go [] h b = absurd (le-real-l nan X b)
      go (p ∷ ps) h b = cleared X p ps b h

  -- The points stay sorted.
  pub clear-order : Sorted (clear_points ps X)
  clear-order = rw kept.left kept.order

  -- The first is at X, to the bit.
  pub clear-begins : offset_at (clear_points ps X) 0 ≡ X
  clear-begins = rw kept.left

  -- There is a point.
  pub clear-some : 0 < length (clear_points ps X)
  clear-some = rw kept.left (omega arith)

  -- From X on the posted speed is what it was, to the bit.
  pub clear-posted : (x u : Float) → T (Ieee.le X x) → posted x (clear_points ps X) u ≡ posted x ps u
  clear-posted x u h = let c = kept in ap (λ (l : List Point). posted x l u) c.left ∙ ap (posted x c.rest) (passes x (point X c.q.speed) u h) ∙ sym (c.posts x u h)

  -- Offsets of a kind that X is of, and speeds of a kind, stay so.
  pub clear-every : (O W : Float → Type 0) → O X → Every O W ps → Every O W (clear_points ps X)
  clear-every O W o n =
      let d : Every O W (kept.q ∷ kept.rest) = subst (Every O W) kept.from (every_drop O W kept.k ps n) in
      rw kept.left (o, d.1, d.2)

  -- A drop at X and then at Y, which is after X, is the drop at Y.
  pub clear-again : (Y : Float) → T (Ieee.lt X Y) → clear_points (clear_points ps X) Y ≡ clear_points ps Y
  clear-again Y h = ap (λ (l : List Point). clear_points l Y) kept.left ∙ kept.again Y h

-- There are no more points than before, sorted or not.
pub clear-count : (ps : List Point) (X : Float) → length (clear_points ps X) ≤ length ps
unfolding clear_points
clear-count ps X = omega (arith, moved (drop (clear_from ps X) ps), length-drop (clear_from ps X) ps)
  where
    moved : (l : List Point) → length (move_to X l) ≡ length l
    moved [] = refl
    moved (p ∷ l) = refl

-- Where the first point is at X already, nothing changes.
pub clear-same : (ps : List Point) (X : Float) → offset_at ps 0 ≡ X → T (real X) → clear_points ps X ≡ ps
clear-same [] X b r = absurd (subst (λ (o : Float). T (real o)) (sym b) r)
clear-same (p ∷ ps) X b r =
    from_first X p ps (rw b (is_false (Ieee.lt X X) (not_T (Ieee.lt X X) (lt_irrefl X)))) ∙ ap (λ (o : Float). point o p.speed ∷ ps) (sym b)
