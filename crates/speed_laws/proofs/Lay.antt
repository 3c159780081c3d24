-- A limit that starts before the last point, laid: a run of changes, after which the smaller speed is posted wherever the limit covers.
use mathlib.Core.Path.{◌≡◌, refl, sym, ap, ◌∙◌, subst}
use mathlib.Core.Logic.{inl, inr}
use mathlib.Core.Bool.{Bool, true, false, cond, ◌&&◌}
use mathlib.Core.List.{List, [], ◌∷◌}
use Prim.Native.Nat.{ℕ, zero, suc, ◌-◌, ◌≤◌, ◌<◌}
use native.Mathlib.Nat.{not-suc-le-zero, le_of_suc-le-suc, sub-zero}
use native.Mathlib.Omega.{arith}
use lib.Dec.{T, not_T}
use lib.ListN.{length, drop}
use lib.Seq.{drop-cons, drop-length}
use lib.Ieee as Ieee
use lib.Ieee.{Float, nan}
use lib.Ieee.Bits.{is_true, is_false}
use lib.Ieee.Fits.{and_l}
use Rattle.ieee.specs.Number.{real}
use Rattle.ieee.specs.Speed.{min_speed}
use Rattle.ieee.proofs.Order.{le_trans, lt→le, lt_not_le, le_lt_trans, le-real-l, le-real-r, le_refl, not-lt, eq_refl, of-true, of-false}
use Rattle.ieee.proofs.Speed.{min_speed-real}
use Rattle.column.specs.Entries.{insert_at}
use Rattle.speed.specs.Points.{Point, point, nowhere, offset_at, speed_at}
use Rattle.speed.specs.Insert.{drop_repeat, merge, first_from, last_from, ends, lay_end, lay_start, between, lay_between, lay_from, lay_limit}
use Rattle.speed.specs.Posted.{passed, posted, SortedFrom, Sorted}
use Rattle.speed.proofs.InsertSteps.{length_inserted, last-le, start-kept, between-yes, between-no, from-between, from_start, limit-from}
use Rattle.speed.proofs.Reached.{passes, not-passed, reaches, ahead, only, alike, reaches-back}
use Rattle.speed_laws.specs.Words.{covers}
use Rattle.speed_laws.proofs.Changes.{Change, none, next, then, enter, lower, change-order, covers-from, covers-to, Laid, laid_next, low-already}
use Rattle.speed_laws.proofs.PointInFront.{less_one, end-front, from_front, last-front}
use Rattle.speed_laws.proofs.Merge.{merged, merged-met}

-- ---- the points after e

-- the points after point k are sorted from its offset on
sorted-at : (o : Float) (ps : List Point) (k : ℕ) → SortedFrom o ps → k < length ps → SortedFrom (offset_at ps k) (drop (suc k) ps)
sorted-at o [] k h z = absurd (not-suc-le-zero z)
sorted-at o (p ∷ ps) zero h z = h.1
sorted-at o (p ∷ ps) (suc k) h z = sorted-at p.offset ps k h.1 (le_of_suc-le-suc z)

-- the points after the last at or before e are not before e
last-tail : (e o : Float) (k : ℕ) (q : Point) (ps : List Point) → SortedFrom o ps → k ≤ length ps → SortedFrom e (drop k ps) → SortedFrom e (drop (last_from e k (q ∷ ps)) ps)
unfolding last_from
last-tail e o zero q ps h z t = t
last-tail e o (suc k) q ps h z t = pick (Ieee.lt e (offset_at ps k)) refl (last-tail e o k q ps h (omega arith))
  where
    pick : (b : Bool) → Ieee.lt e (offset_at ps k) ≡ b → (SortedFrom e (drop k ps) → SortedFrom e (drop (last_from e k (q ∷ ps)) ps)) → SortedFrom e (drop (cond b (last_from e k (q ∷ ps)) (suc k)) ps)
    pick true l i = i (rw (drop-cons ps k nowhere z) (lt→le e (offset_at ps k) (of-true l), sorted-at o ps k h z))
    pick false l i = t

real-at : (o : Float) (ps : List Point) (k : ℕ) → SortedFrom o ps → k < length ps → T (real (offset_at ps k))
real-at o [] k h z = absurd (not-suc-le-zero z)
real-at o (p ∷ ps) zero h z = le-real-r o p.offset h.0
real-at o (p ∷ ps) (suc k) h z = real-at p.offset ps k h.1 (le_of_suc-le-suc z)

-- the last at or before e is, if it is not the first of all
last-upto : (e o : Float) (k : ℕ) (q : Point) (ps : List Point) → T (real e) → SortedFrom o ps → k ≤ length ps → 0 < last_from e k (q ∷ ps) → T (reaches e (drop (last_from e k (q ∷ ps) - 1) ps))
unfolding last_from
last-upto e o zero q ps r h z y = absurd (not-suc-le-zero y)
last-upto e o (suc k) q ps r h z y = pick (Ieee.lt e (offset_at ps k)) refl (last-upto e o k q ps r h (omega arith)) y
  where
    pick : (b : Bool) → Ieee.lt e (offset_at ps k) ≡ b → (0 < last_from e k (q ∷ ps) → T (reaches e (drop (last_from e k (q ∷ ps) - 1) ps)))
        → 0 < cond b (last_from e k (q ∷ ps)) (suc k) → T (reaches e (drop (cond b (last_from e k (q ∷ ps)) (suc k) - 1) ps))
    pick true l i y = i y
    pick false l i y = rw (less_one k, drop-cons ps k nowhere z) (not-lt e (offset_at ps k) r (real-at o ps k h z) (of-false l))

-- it is not, where the second is at or before e
last_some : (e : Float) (k : ℕ) (p q : Point) (ps : List Point) → Ieee.lt e q.offset ≡ false → 0 < last_from e (suc k) (p ∷ q ∷ ps)
last_some e k p q ps h = omega (arith, last-front e k p q ps h)

module _ (s e v : Float) where
  -- ---- (e, w) goes in at j

  put-at : (j : ℕ) (w : Float) (ps : List Point) → j ≤ length ps → T (real e) → T (reaches e (drop j (insert_at j (point e w) ps)))
  put-at zero w ps z r = le_refl e r
  put-at (suc j) w [] z r = absurd (not-suc-le-zero z)
  put-at (suc j) w (p ∷ ps) z r = put-at j w ps (le_of_suc-le-suc z) r

  enter-at : (j : ℕ) (q : Point) (ps : List Point) → j ≤ length ps → T (Ieee.le (offset_at (q ∷ ps) j) e) → SortedFrom e (drop j ps) → Change s e v (q ∷ ps) (q ∷ insert_at j (point e (speed_at (q ∷ ps) j)) ps)
  enter-at zero q ps z l t = enter q e ps (inr refl) l t
  enter-at (suc j) q [] z l t = absurd (not-suc-le-zero z)
  enter-at (suc j) q (p ∷ ps) z l t = next q (enter-at j p ps (le_of_suc-le-suc z) l t)

  put-sorted : (j : ℕ) (q : Point) (ps : List Point) (b : Float) → j ≤ length ps → T (Ieee.le (offset_at (q ∷ ps) j) e) → SortedFrom e (drop j ps) → T (Ieee.le b e) → SortedFrom b ps → SortedFrom b (insert_at j (point e (speed_at (q ∷ ps) j)) ps)
  put-sorted zero q ps b z l t k h = (k, t)
  put-sorted (suc j) q [] b z l t k h = absurd (not-suc-le-zero z)
  put-sorted (suc j) q (p ∷ ps) b z l t k h = change-order b (enter-at j p ps (le_of_suc-le-suc z) l t) h

  module _ (x : Float) (within : T (Ieee.lt x e)) where
    far : T (Ieee.le e x) → ⊥
    far h = lt_not_le x e within h

    -- points from e on do not reach x, and (e, w) changes nothing there
    far-off : (ps : List Point) → SortedFrom e ps → reaches x ps ≡ false
    far-off [] h = refl
    far-off (p ∷ ps) h = is_false (Ieee.le p.offset x) (not_T (Ieee.le p.offset x) (λ r. far (le_trans e p.offset x h.0 r)))

    put-posted : (j : ℕ) (w : Float) (ps : List Point) (u : Float) → posted x (insert_at j (point e w) ps) u ≡ posted x ps u
    put-posted zero w ps u = ap (posted x ps) (not-passed x (point e w) u far)
    put-posted (suc j) w [] u = not-passed x (point e w) u far
    put-posted (suc j) w (p ∷ ps) u = put-posted j w ps (passed x p u)

    put-reaches : (j : ℕ) (w : Float) (ps : List Point) → SortedFrom e (drop j ps) → reaches x (insert_at j (point e w) ps) ≡ reaches x ps
    put-reaches zero w ps t = is_false (Ieee.le e x) (not_T (Ieee.le e x) far) ∙ sym (far-off ps t)
    put-reaches (suc j) w [] t = is_false (Ieee.le e x) (not_T (Ieee.le e x) far)
    put-reaches (suc j) w (p ∷ ps) t = refl

    put-far : (j : ℕ) (w : Float) (ps : List Point) → j ≤ length ps → T (reaches x (drop j (insert_at j (point e w) ps))) → ⊥
    put-far zero w ps z h = far h
    put-far (suc j) w [] z h = not-suc-le-zero z
    put-far (suc j) w (p ∷ ps) z h = put-far j w ps (le_of_suc-le-suc z) h

    -- point j is the last at or before x
    posted-at : (j : ℕ) (ps : List Point) (u : Float) → j < length ps → T (reaches x (drop j ps)) → SortedFrom e (drop (suc j) ps) → T (Ieee.le (offset_at ps j) x) × (posted x ps u ≡ speed_at ps j)
    posted-at j [] u z r t = absurd (not-suc-le-zero z)
    posted-at zero (p ∷ ps) u z r t = (r, ahead x e ps (passed x p u) far t ∙ passes x p u r)
    posted-at (suc j) (p ∷ ps) u z r t = posted-at j ps (passed x p u) (le_of_suc-le-suc z) r t

    -- where (e, w) does not go in, point j is after x or its speed w is low already
    kept_low : (y : Float) (j : ℕ) (q : Point) (ps : List Point) → j ≤ length ps → SortedFrom e (drop j ps) → ends e v j (q ∷ ps) ≡ false → ((t : Float) → posted x ps t ≡ y) → T (reaches x (drop (j - 1) ps)) → T (Ieee.eq y (min_speed y v))
    kept_low y zero q ps z t k c m = absurd (subst T (far-off ps t) m)
    kept_low y (suc j) q ps z t k c m =
        let at = posted-at j ps nan z (rw (less_one j) at m) t in
        let l : Ieee.lt (offset_at ps j) e ≡ true = is_true (Ieee.lt (offset_at ps j) e) (le_lt_trans (offset_at ps j) x e at.0 within) in
        subst (λ (w : Float). T (Ieee.eq w (min_speed w v))) (sym at.1 ∙ c nan) (low-already v (speed_at ps j) (rw l at k))

-- ---- the limit's end

-- Of a point at o and the points rs that follow, j is the last at or before e.
record Last (s e o : Float) (j : ℕ) (rs : List Point) : Type 0 where
  order : T (Ieee.le s e)
  before : T (Ieee.le o s)
  fits : j ≤ length rs
  sorted : SortedFrom o rs
  from : SortedFrom s rs
  upto : 0 < j → T (reaches e (drop (j - 1) rs))
  tail : SortedFrom e (drop j rs)

-- Where the limit covers x, qs post the smaller of y and v: y is what rs post if they reach x, and otherwise the speed z before them is low already.
abbrev Meets : Float → Float → Float → Float → List Point → List Point → Type 0
Meets s e v z rs qs =
    (x u y : Float) → T (covers s e x) → T (real v) → T (real y) → (T (reaches x rs) → (t : Float) → posted x rs t ≡ y) → (reaches x rs ≡ false → T (Ieee.eq z (min_speed y v))) → T (Ieee.eq (posted x qs u) (min_speed y v))

module _ {s e o : Float} {j : ℕ} {rs : List Point} (v : Float) (last : Last s e o j rs) where
  -- a covered offset is at or after o
  at-o : (x : Float) → T (covers s e x) → T (Ieee.le o x)
  at-o x c = le_trans o s x last.before (covers-from s e x c)

  -- (e, w) does not go in: the points up to j are merged, j left as it is
  kept : (z : Float) → Change s e v (point o z ∷ rs) (merge v (j - 1) 1 (point o z ∷ rs))
  kept z = let h = last.fits in merged s e v (j - 1) (point o z) rs (omega arith) (λ i. last.upto (omega arith)) last.sorted last.from

  kept-meets : (w z : Float) → ends e v j (point o w ∷ rs) ≡ false → Meets s e v z rs (merge v (j - 1) 1 (point o z ∷ rs))
  kept-meets w z k x u y c number real-y a b =
      let h = last.fits in
      merged-met s e v x y number real-y (j - 1) (point o z) rs u (omega arith) (λ i. last.upto (omega arith)) last.sorted last.from (at-o x c) a b
      (λ r. kept_low s e v x (covers-to s e x c) y j (point o w) rs h last.tail k (a r))

  -- (e, w) goes in, w being the speed of point j: the points up to j are merged
  module _ (q : Float) (k : ends e v j (point o q ∷ rs) ≡ true) where
    abbrev w : Float
    w = speed_at (point o q ∷ rs) j

    abbrev new : List Point
    new = insert_at j (point e w) rs

    at-e : T (Ieee.le (offset_at (point o q ∷ rs) j) e)
    at-e = let a = offset_at (point o q ∷ rs) j in lt→le a e (and_l (Ieee.lt a e) (Ieee.ne w (min_speed w v)) (of-true k))

    put : Change s e v (point o q ∷ rs) (point o q ∷ new)
    put = enter-at s e v j (point o q) rs last.fits at-e last.tail

    new-fits : j ≤ length new
    new-fits = let h = last.fits in omega (arith, length_inserted j (point e w) rs)

    new-at : T (reaches e (drop j new))
    new-at = put-at s e v j w rs last.fits (le-real-r s e last.order)

    from-o : SortedFrom o new
    from-o = put-sorted s e v j (point o q) rs o last.fits at-e last.tail (le_trans o s e last.before last.order) last.sorted

    from-s : SortedFrom s new
    from-s = put-sorted s e v j (point o q) rs s last.fits at-e last.tail last.order last.from

    put-merged : (z : Float) → Change s e v (point o z ∷ new) (merge v j 1 (point o z ∷ new))
    put-merged z = merged s e v j (point o z) new new-fits (λ i. new-at) from-o from-s

    put_meets : (z : Float) → Meets s e v z rs (merge v j 1 (point o z ∷ new))
    put_meets z x u y c number real-y a b =
        let d = covers-to s e x c in
        let same = put-reaches s e v x d j w rs last.tail in
        merged-met s e v x y number real-y j (point o z) new u new-fits (λ i. new-at) from-o from-s (at-o x c)
        (λ r t. put-posted s e v x d j w rs t ∙ a (subst T same r) t) (λ f. b (sym same ∙ f)) (λ r m. absurd (put-far s e v x d j w rs last.fits m))

  -- either way
  closed : (w : Float) → Change s e v (point o w ∷ rs) (lay_end e v 1 j (point o w ∷ rs)) × Meets s e v w rs (lay_end e v 1 j (point o w ∷ rs))
  unfolding lay_end
  closed w = rw (less_one j) (pick (ends e v j (point o w ∷ rs)) refl)
    where
      end : Bool → List Point
      end b = cond b (merge v j 1 (point o w ∷ insert_at j (point e (speed_at (point o w ∷ rs) j)) rs)) (merge v (j - 1) 1 (point o w ∷ rs))

      pick : (b : Bool) → ends e v j (point o w ∷ rs) ≡ b → Change s e v (point o w ∷ rs) (end b) × Meets s e v w rs (end b)
      pick true k = (then (put w k) (put-merged w k w), put_meets w k w)
      pick false k = (kept w, kept-meets w w k)

  -- where rs do not reach x, w is posted at first, and z has to be the smaller of w and v
  laid_by : (w z : Float) (qs : List Point) → Change s e v (point o w ∷ rs) qs → Meets s e v z rs qs → ((x : Float) → T (covers s e x) → T (real v) → T (real w) → reaches x rs ≡ false → T (Ieee.eq z (min_speed w v))) → Laid s e v (point o w ∷ rs) qs
  laid_by w z qs c m f = record { change = c; met = met }
    where
      met : (x u : Float) → T (covers s e x) → T (real v) → T (real (posted x (point o w ∷ rs) u)) → T (Ieee.eq (posted x qs u) (min_speed (posted x (point o w ∷ rs) u) v))
      met x u h number y =
          let own : reaches x rs ≡ false → posted x (point o w ∷ rs) u ≡ w = only x (point o w) rs u last.sorted (at-o x h) in
          m x u (posted x (point o w ∷ rs) u) h number y (λ r t. alike x rs t (passed x (point o w) u) r) (λ k. rw (own k) (f x h number (subst (λ (t : Float). T (real t)) (own k) y) k))

-- the smaller of w and v equals itself
low-eq : (v w : Float) → T (real v) → T (real w) → T (Ieee.eq (min_speed w v) (min_speed w v))
low-eq v w f g = eq_refl (min_speed w v) (min_speed-real w v g f)

-- no point goes in or out, and the limit ends before the next one
none-meets : {s e o : Float} {rs : List Point} (v w : Float) → Last s e o 0 rs → Meets s e v w rs (point o w ∷ rs)
none-meets {s} {e} {o} {rs} v w last x u y c f g a b =
    let d = far-off s e v x (covers-to s e x c) rs last.tail in
    rw (only x (point o w) rs u last.sorted (at-o v last x c) d) (b d)

-- ---- the limit's start

-- the first point is at s: the merge is from it on
laid-first : {s e o : Float} {j : ℕ} {rs : List Point} (v w : Float) → Last s e o j rs → T (Ieee.le s o) → Laid s e v (point o w ∷ rs) (lay_end e v 0 j (point o w ∷ rs))
unfolding lay_end merge drop_repeat
laid-first {s} {e} {o} {j} {rs} v w last after = rw (sub-zero (suc j), sub-zero j) (pick j last (ends e v j (point o w ∷ rs)) refl)
  where
    pick : (j : ℕ) (last : Last s e o j rs) (b : Bool) → ends e v j (point o w ∷ rs) ≡ b → Laid s e v (point o w ∷ rs) (cond b (merge v (suc j) 0 (point o w ∷ insert_at j (point e (speed_at (point o w ∷ rs) j)) rs)) (merge v j 0 (point o w ∷ rs)))
    pick j last true k =
        let l = new v last w k in
        laid_by v last w (min_speed w v) (merge v j 1 (point o (min_speed w v) ∷ l)) (then (put v last w k) (then (lower (point o w) l after (reaches-back e o j l (from-o v last w k) (new-at v last w k))) (put-merged v last w k (min_speed w v)))) (put_meets v last w k (min_speed w v))
        (λ x c f g d. low-eq v w f g)
    pick zero last false k =
        laid_by v last w w (point o w ∷ rs) none (none-meets v w last)
        (λ x c f g d. low-already v w (rw (is_true (Ieee.lt o e) (le_lt_trans o x e (at-o v last x c) (covers-to s e x c))) at k))
    pick (suc j) last false k =
        subst (λ (n : ℕ). Laid s e v (point o w ∷ rs) (merge v n 1 (point o (min_speed w v) ∷ rs))) (less_one j)
        (laid_by v last w (min_speed w v) (merge v (suc j - 1) 1 (point o (min_speed w v) ∷ rs)) (then (lower (point o w) rs after (reaches-back e o (suc j - 1) rs last.sorted (last.upto (omega arith)))) (kept v last (min_speed w v))) (kept-meets v last w (min_speed w v) k) (λ x c f g d. low-eq v w f g))

-- the last point before s, and the points from s on, the first of which is at or before e
laid-second : {s e o : Float} {j : ℕ} {rs : List Point} (v w : Float) → Last s e o j rs → 0 < j → Laid s e v (point o w ∷ rs) (lay_start s e v 1 j (point o w ∷ rs))
unfolding lay_start
laid-second {s} {e} {o} {j} {rs} v w last some = pick (Ieee.lt s (offset_at rs 0)) refl (Ieee.ne w low) refl
  where
    low : Float
    low = min_speed w v

    real-s : T (real s)
    real-s = le-real-r o s last.before

    some-rs : 0 < length rs
    some-rs = let h = last.fits in omega arith

    last-s : Last s e s j rs
    last-s = record { order = last.order; before = le_refl s real-s; fits = last.fits; sorted = last.from; from = last.from; upto = last.upto; tail = last.tail }

    -- a first point at s is at or before x
    reached : (qs : List Point) (x : Float) → 0 < length qs → SortedFrom s qs → Ieee.lt s (offset_at qs 0) ≡ false → T (Ieee.le s x) → T (reaches x qs)
    reached [] x z f k h = absurd (not-suc-le-zero z)
    reached (q ∷ qs) x z f k h = le_trans q.offset s x (not-lt s q.offset real-s (le-real-r s q.offset f.0) (of-false k)) h

    pick : (a : Bool) → Ieee.lt s (offset_at rs 0) ≡ a → (b : Bool) → Ieee.ne w low ≡ b → Laid s e v (point o w ∷ rs) (cond (a && b) (lay_end e v 2 (suc j) (point o w ∷ point s low ∷ rs)) (lay_end e v 1 j (point o w ∷ rs)))
    pick true a true b =
        let end = closed v last-s low in
        let p = point o w in
        subst (Laid s e v (p ∷ rs)) (sym (end-front e v 0 j p (point s low ∷ rs)))
        (laid_by v last w low (p ∷ lay_end e v 1 j (point s low ∷ rs)) (then (enter p s rs (inl refl) last.before last.from) (next p (then (lower (point s w) rs last-s.before (reaches-back e o (j - 1) rs last.sorted (last.upto some))) end.0))) (λ x u. end.1 x (passed x p u))
        (λ x c f g d. low-eq v w f g))
    pick true a false b = laid_by v last w w (lay_end e v 1 j (point o w ∷ rs)) (closed v last w).0 (closed v last w).1 (λ x c f g d. low-already v w b)
    pick false a b k =
        laid_by v last w w (lay_end e v 1 j (point o w ∷ rs)) (closed v last w).0 (closed v last w).1 (λ x c f g d. absurd (subst T d (reached rs x some-rs last.from a (covers-from s e x c))))

-- the last point before s, and no point from there up to e
laid-between : {s e o : Float} {rs : List Point} (v w : Float) → Last s e o 0 rs → Laid s e v (point o w ∷ rs) (lay_between s e v 1 (point o w ∷ rs))
unfolding lay_between
laid-between {s} {e} {o} {rs} v w last = pick (Ieee.lt s e) refl (Ieee.ne w low) refl
  where
    low : Float
    low = min_speed w v

    real-e : T (real e)
    real-e = le-real-r s e last.order

    split : List Point
    split = point o w ∷ point s low ∷ point e w ∷ rs

    run : Change s e v (point o w ∷ rs) split
    run =
        let p = point o w in
        then (enter p e rs (inr refl) (le_trans o s e last.before last.order) last.tail)
        (then (enter p s (point e w ∷ rs) (inl refl) last.before (last.order, last.tail)) (next p (lower (point s w) (point e w ∷ rs) (le_refl s (le-real-l s e last.order)) (le_refl e real-e))))

    meets : Meets s e v low rs split
    meets x u y c f g a b =
        let d = covers-to s e x c in
        let p : posted x split u ≡ low =
        ahead x e (point e w ∷ rs) (passed x (point s low) (passed x (point o w) u)) (far s e v x d) (le_refl e real-e, last.tail)
        ∙ passes x (point s low) (passed x (point o w) u) (covers-from s e x c) in
        rw p (b (far-off s e v x d rs last.tail))

    pick : (a : Bool) → Ieee.lt s e ≡ a → (b : Bool) → Ieee.ne w low ≡ b → Laid s e v (point o w ∷ rs) (cond (a && b) split (point o w ∷ rs))
    pick true a true b = laid_by v last w low split run meets (λ x c f g d. low-eq v w f g)
    pick true a false b = laid_by v last w w (point o w ∷ rs) none (none-meets v w last) (λ x c f g d. low-already v w b)
    pick false a b k = laid_by v last w w (point o w ∷ rs) none (none-meets v w last) (λ x c f g d. absurd (subst T a (le_lt_trans s x e (covers-from s e x c) (covers-to s e x c))))

-- ---- the limit

-- points sorted from o on are sorted from an earlier offset on
pub from_le : (s o : Float) (ps : List Point) → T (Ieee.le s o) → SortedFrom o ps → SortedFrom s ps
from_le s o [] l h = tt
from_le s o (p ∷ ps) l h = (le_trans s o p.offset l h.0, h.1)

module _ (s e v : Float) (order : T (Ieee.le s e)) where
  last_of : (q : Point) (rs : List Point) → T (Ieee.le q.offset s) → SortedFrom q.offset rs → SortedFrom s rs → Last s e q.offset (last_from e (length rs) (q ∷ rs)) rs
  last_of q rs b h f =
      record {
        order = order;
        before = b;
        fits = last-le e (length rs) (q ∷ rs);
        sorted = h;
        from = f;
        upto = last-upto e q.offset (length rs) q rs (le-real-r s e order) h (omega arith);
        tail = last-tail e q.offset (length rs) q rs h (omega arith) (rw (drop-length rs) tt);
      }

  not-before : (x y : Float) → T (Ieee.le y x) → Ieee.lt x y ≡ false
  not-before x y h = is_false (Ieee.lt x y) (not_T (Ieee.lt x y) (λ l. lt_not_le x y l h))

  -- the first point is at s
  at_first : (p : Point) (ps : List Point) → T (Ieee.le p.offset s) → Ieee.lt p.offset s ≡ false → SortedFrom p.offset ps → Laid s e v (p ∷ ps) (lay_from s e v 0 (last_from e (length ps) (p ∷ ps)) (p ∷ ps))
  at_first p ps b k h =
      let after : T (Ieee.le s p.offset) = not-lt p.offset s (le-real-l p.offset s b) (le-real-r p.offset s b) (of-false k) in
      let j = last_from e (length ps) (p ∷ ps) in
      subst (Laid s e v (p ∷ ps)) (sym (from_start s e v 0 j (p ∷ ps) (sym (between-no s e 0 (p ∷ ps) (omega arith))) ∙ start-kept s e v 0 j (p ∷ ps) (not-before s p.offset b)))
      (laid-first v p.speed (last_of p ps b h (from_le s p.offset ps after h)) after)

  -- the first point is before s, the second is not
  at_second : (p q : Point) (ps : List Point) → T (Ieee.le p.offset s) → SortedFrom p.offset (q ∷ ps) → T (Ieee.le s q.offset)
      → Laid s e v (p ∷ q ∷ ps) (lay_from s e v 1 (last_from e (suc (length ps)) (p ∷ q ∷ ps)) (p ∷ q ∷ ps))
  at_second p q ps b h f = pick (Ieee.lt e q.offset) refl
    where
      j : ℕ
      j = last_from e (suc (length ps)) (p ∷ q ∷ ps)

      test : between s e 1 (p ∷ q ∷ ps) ≡ Ieee.lt e q.offset
      test = between-yes s e 1 (p ∷ q ∷ ps) (omega arith) ∙ rw (is_true (Ieee.le s e) order)

      pick : (c : Bool) → Ieee.lt e q.offset ≡ c → Laid s e v (p ∷ q ∷ ps) (lay_from s e v 1 j (p ∷ q ∷ ps))
      pick true k =
          rw (from-between s e v 1 j (p ∷ q ∷ ps) (test ∙ k))
          (laid-between v p.speed
          (record { order = order; before = b; fits = omega arith; sorted = h; from = (f, h.1); upto = λ z. absurd (not-suc-le-zero z); tail = (lt→le e q.offset (of-true k), h.1) }))
      pick false k = rw (from_start s e v 1 j (p ∷ q ∷ ps) (test ∙ k)) (laid-second v p.speed (last_of p (q ∷ ps) b h (f, h.1)) (last_some e (length ps) p q ps k))

  -- points in front of the last before s are passed over
  start-laid : (p : Point) (ps : List Point) → SortedFrom p.offset ps → T (Ieee.le p.offset s) → first_from s (p ∷ ps) < suc (length ps) → Laid s e v (p ∷ ps) (lay_from s e v (first_from s (p ∷ ps)) (last_from e (length ps) (p ∷ ps)) (p ∷ ps))
  unfolding first_from
  start-laid p [] h b z = pick (Ieee.lt p.offset s) refl z
    where
      pick : (a : Bool) → Ieee.lt p.offset s ≡ a → cond a 1 0 < 1 → Laid s e v (p ∷ []) (lay_from s e v (cond a 1 0) (last_from e 0 (p ∷ [])) (p ∷ []))
      pick true k z = let n : ⊥ = omega arith in absurd n
      pick false k z = at_first p [] b k h
  start-laid p (q ∷ ps) h b z = pick (Ieee.lt p.offset s) refl (Ieee.lt q.offset s) refl z (start-laid q ps h.1)
    where
      index : Bool → ℕ
      index c = cond c (suc (first_from s ps)) 0

      pick : (a : Bool) → Ieee.lt p.offset s ≡ a → (c : Bool) → Ieee.lt q.offset s ≡ c → cond a (suc (index c)) 0 < suc (suc (length ps))
          → (T (Ieee.le q.offset s) → index c < suc (length ps) → Laid s e v (q ∷ ps) (lay_from s e v (index c) (last_from e (length ps) (q ∷ ps)) (q ∷ ps)))
          → Laid s e v (p ∷ q ∷ ps) (lay_from s e v (cond a (suc (index c)) 0) (last_from e (suc (length ps)) (p ∷ q ∷ ps)) (p ∷ q ∷ ps))
      pick false k c l z i = at_first p (q ∷ ps) b k h
      pick true k false l z i =
          at_second p q ps b h (not-lt q.offset s (le-real-r p.offset q.offset h.0) (le-real-r p.offset s b) (of-false l))
      pick true k true l z i =
          let g : T (Ieee.le q.offset s) = lt→le q.offset s (of-true l) in
          rw (last-front e (length ps) p q ps (not-before e q.offset (le_trans q.offset s e g order)), from_front s e v (first_from s ps) (last_from e (length ps) (q ∷ ps)) p (q ∷ ps))
          (laid_next p (i g (le_of_suc-le-suc z)))

  -- The limit is laid.
  pub lay-laid : (ps : List Point) → Sorted ps → T (Ieee.le (offset_at ps 0) s) → first_from s ps < length ps → Laid s e v ps (lay_limit s e v ps)
  lay-laid [] h b z = absurd (not-suc-le-zero z)
  lay-laid (p ∷ ps) h b z = rw (limit-from s e v (p ∷ ps) (suc (length ps)) refl, less_one (length ps)) (start-laid p ps h b z)
