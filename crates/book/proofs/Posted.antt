-- From the smallest of what holds to what demand 3 says of the posted speed, and to what holds it.
use mathlib.Core.Path.{◌≡◌, refl, subst}
use mathlib.Core.Logic.{◌⊎◌, inl, inr}
use mathlib.Core.Bool.{Bool, true, false}
use mathlib.Core.List.{Memᴰ}
use lib.Dec.{T}
use lib.Ieee as Ieee
use lib.Ieee.{Float}
use lib.Ieee.Fits.{and_l, and_r}
use Rattle.ieee.specs.Number.{+0, real, size}
use Rattle.ieee.proofs.Order.{le_trans, eq→le, eq→ge, not-lt, of-true, of-false}
use Rattle.ieee.proofs.Sizes.{nonneg-size, size-cong}
use Rattle.ieee.proofs.Sum.{finite-real}
use Rattle.speed_laws.proofs.Changes.{covers-from}
use Rattle.link.specs.declared.train_params.TrainParams.{TrainParams}
use Rattle.link.specs.Train.{top_speed}
use Rattle.link.specs.Table.{Limit}
use Rattle.path_speeds.specs.Limits.{lowers}
use Rattle.book.specs.Book.{Book, first_end}
use Rattle.book.specs.Claims.{posted_at, covers_at, holding_at, smallest_at, PostedRight, Claims}
use Rattle.book.specs.LimitsEnd.{HeldByLimit, PostedExactly}
use Rattle.book.proofs.FiniteTrain.{TrainGood}
use Rattle.book.proofs.Smallest.{Numbers, holding-in, holding-out, smallest-first, smallest-each, smallest-is}

module _ (train : TrainParams) (good : TrainGood train) (b : Book) (c : Claims train b) (x : Float) (from : T (Ieee.le (first_end b.ends) x)) where
  abbrev top : Float
  top = top_speed train

  abbrev u : Float
  u = posted_at b.points x

  abbrev least : Float
  least = smallest_at top b.limits x

  top-real : T (real top)
  top-real = finite-real top good.top-finite

  numbers : Numbers (holding_at top b.limits x)
  numbers l m = finite-real l.value (c.limits-good l (holding-out top x l b.limits m).0)

  sized : T (Ieee.eq (size u) (size least))
  sized = size-cong u least (c.speeds x from)

  below : (y : Float) → T (Ieee.le (size least) y) → T (Ieee.le (size u) y)
  below y h = le_trans (size u) (size least) y (eq→le (size u) (size least) sized) h

  -- the top speed, which is not negative
  to-top : T (Ieee.le (size u) top)
  to-top =
      below top
      (le_trans (size least) (size top) top (smallest-first top (holding_at top b.limits x) top-real numbers)
      (eq→le (size top) top (nonneg-size top false good.top-from-zero)))

  -- a limit that is not laid is not below the top speed
  to-passed : (v : Float) → T (real v) → Ieee.lt v top ≡ false → T (Ieee.le (size u) (size v))
  to-passed v r h =
      let k : T (Ieee.le top v) = not-lt v top r top-real (of-false h) in
      le_trans (size u) top (size v) to-top (le_trans top v (size v) k (eq→ge (size v) v (nonneg-size v false (le_trans +0 top v good.top-from-zero k))))

  to-limit : (l : Limit) → Memᴰ l b.limits → T (covers_at l x) → T (Ieee.le (size u) (size l.value))
  to-limit l m k = pick (lowers top l) refl
    where
      pick : (t : Bool) → lowers top l ≡ t → T (Ieee.le (size u) (size l.value))
      pick true h =
          below (size l.value) (smallest-each top (holding_at top b.limits x) top-real numbers l (holding-in top x l b.limits m (of-true h) k))
      pick false h = to-passed l.value (finite-real l.value (c.limits-good l m)) h

  held : T (Ieee.eq (size u) (size top)) ⊎ HeldByLimit top b.limits x u
  held = elim (smallest-is top (holding_at top b.limits x)) [
    | inl e ↦ inl (subst (λ (y : Float). T (Ieee.eq (size u) y)) e sized)
    | inr e ↦
        let l = e.0 in
        let m = holding-out top x l b.limits e.1 in
        let same = subst (λ (y : Float). T (Ieee.eq (size u) y)) e.2 sized in
        inr (l, m.0, and_l (lowers top l) (covers_at l x) m.1, and_r (lowers top l) (covers_at l x) m.1, same)
  ]

  pub posted-exactly : PostedExactly train b x (posted_at b.points x)
  posted-exactly = record { smallest = c.speeds x from; held = held }

  pub posted-right : PostedRight train b x (posted_at b.points x)
  posted-right =
      record {
        at-most-top = to-top;
        at-most-limits = to-limit;
        attained = elim held [ inl i ↦ inl i | inr i ↦ inr (i.0, i.1, i.2, covers-from i.0.start i.0.end x i.3, i.4) ];
      }
