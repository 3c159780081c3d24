-- Limits enter a book, laid where they are below the top speed, and its claims stand.
use mathlib.Core.Path.{◌≡◌, refl, sym, ap₂, ◌∙◌, subst}
use mathlib.Core.Logic.{inl, inr}
use mathlib.Core.Bool.{Bool, true, false, cond}
use mathlib.Core.List.Memᴰ
use mathlib.Core.List.{List, [], ◌∷◌, ◌++◌, append-nil, append_assoc, Memᴰ}
use lib.Dec.{T}
use lib.Ieee as Ieee
use lib.Ieee.{Float, nan}
use lib.Ieee.Bits.{is_true}
use lib.Ieee.Scale.{finite}
use Rattle.ieee.specs.Number.{real}
use Rattle.ieee.proofs.Order.{eq_trans, of-true}
use Rattle.ieee.proofs.Speed.{min_speed-finite}
use Rattle.ieee.proofs.Sum.{finite-real}
use Rattle.speed.specs.Points.{Point, offset_at}
use Rattle.speed.specs.Insert.{insert_speed}
use Rattle.speed_laws.specs.Words.{held_to, Finite}
use Rattle.speed_laws.proofs.Insert.{posted-every, insert-order, insert-every, insert-exact}
use Rattle.speed_laws.proofs.Kept.{insert-begins}
use Rattle.speed_laws.proofs.EitherOrder.{held-cong}
use Rattle.link.specs.declared.train_params.TrainParams.{TrainParams}
use Rattle.link.specs.Train.{top_speed}
use Rattle.link.specs.Table.{Limit}
use Rattle.path_speeds.specs.Limits.{lowers, lowering, lay_all}
use Rattle.book.specs.Book.{Book, first_end}
use Rattle.book.specs.Claims.{posted_at, smallest_at, Offset, Claims}
use Rattle.book.proofs.Placed.{Stretch, Enters, AllEnter}
use Rattle.book.proofs.Smallest.{smallest-laid, smallest-passed}

abbrev pub book_with : List Float → List Limit → List Point → Book
book_with ends limits points = record { ends = ends; limits = limits; points = points }

-- the points once a limit has entered
abbrev laid_on : Float → Limit → List Point → List Point
laid_on top l ps = cond (lowers top l) (insert_speed ps l.start l.end l.value) ps

lay-next : (top : Float) (l : Limit) (ls : List Limit) (ps : List Point) → lay_all ps (lowering top (l ∷ ls)) ≡ lay_all (laid_on top l ps) (lowering top ls)
unfolding lowering lay_all
lay-next top l ls ps = pick (lowers top l)
  where
    pick : (k : Bool) → lay_all ps (cond k (l ∷ lowering top ls) (lowering top ls)) ≡ lay_all (cond k (insert_speed ps l.start l.end l.value) ps) (lowering top ls)
    pick true = refl
    pick false = refl

module _ (train : TrainParams) where
  -- ---- one limit

  module _ (b : Book) (c : Claims train b) (l : Limit) (fit : Enters (top_speed train) (first_end b.ends) l) where
    abbrev top : Float
    top = top_speed train

    abbrev more : List Limit
    more = b.limits ++ l ∷ []

    -- a limit is one of before, or the new one
    all-good : (k : Limit) → Memᴰ k more → T (finite k.value)
    all-good k m = elim (Memᴰ.append_cases b.limits m) [
      | inl i ↦ c.limits-good k i
      | inr i ↦ subst (λ (n : Limit). T (finite n.value)) (sym (Memᴰ.eq_of_singleton i)) fit.value-finite
    ]

    -- it is laid
    module _ (below : T (lowers top l)) where
      abbrev points : List Point
      points = insert_speed b.points l.start l.end l.value

      where-laid : Stretch (first_end b.ends) l
      where-laid = fit.if-laid below

      after : T (Ieee.le (offset_at b.points 0) l.start)
      after = rw c.starts where-laid.on

      exact : (x : Float) → T (Ieee.le (first_end b.ends) x) → T (Ieee.eq (posted_at points x) (smallest_at top more x))
      exact x h =
          let s = l.start in
          let e = l.end in
          let v = l.value in
          let was = posted_at b.points x in
          let is = posted_at points x in
          let least = smallest_at top b.limits x in
          let v-real : T (real v) = finite-real v fit.value-finite in
          let was-real : T (real was) = finite-real was (posted-every Offset Finite x nan b.points c.points-good (rw c.starts h)) in
          rw (smallest-laid top x b.limits l (is_true (lowers top l) below))
          (eq_trans is (held_to s e v x was) (held_to s e v x least) (insert-exact b.points s e v c.in_order after where-laid.forward x nan v-real was-real)
          (held-cong s e v x was least v-real (c.speeds x h)))

      laid : Claims train (book_with b.ends more points)
      laid =
          let z = where-laid in
          record {
            some_end = c.some_end;
            ends-good = c.ends-good;
            ends-rise = c.ends-rise;
            starts = insert-begins b.points l.start l.end l.value after ∙ c.starts;
            in_order = insert-order b.points l.start l.end l.value c.in_order after z.forward;
            points-good = insert-every b.points l.start l.end l.value c.in_order after z.forward Offset Finite
                z.start-good z.end-good (λ u h. min_speed-finite u l.value h fit.value-finite) c.points-good;
            limits-good = all-good;
            speeds = exact;
          }

    -- it is not
    passed-by : lowers top l ≡ false → Claims train (book_with b.ends more b.points)
    passed-by k =
        record {
          some_end = c.some_end;
          ends-good = c.ends-good;
          ends-rise = c.ends-rise;
          starts = c.starts;
          in_order = c.in_order;
          points-good = c.points-good;
          limits-good = all-good;
          speeds = λ x h. rw (smallest-passed top x b.limits l k) (c.speeds x h);
        }

    -- laid or not
    limit-enters : Claims train (book_with b.ends more (laid_on top l b.points))
    limit-enters = pick (lowers top l) refl
      where
        pick : (k : Bool) → lowers top l ≡ k → Claims train (book_with b.ends more (cond k (insert_speed b.points l.start l.end l.value) b.points))
        pick true e = laid (of-true e)
        pick false e = passed-by e

  -- ---- limits in turn

  pub limits-enter : (limits : List Limit) (b : Book) → AllEnter (top_speed train) (first_end b.ends) limits → Claims train b
      → Claims train (book_with b.ends (b.limits ++ limits) (lay_all b.points (lowering (top_speed train) limits)))
  unfolding lowering lay_all
  limits-enter [] b f c = subst (λ (ls : List Limit). Claims train (book_with b.ends ls b.points)) (sym (append-nil b.limits)) c
  limits-enter (l ∷ ls) b f c =
      subst (Claims train) (ap₂ (book_with b.ends) (append_assoc b.limits (l ∷ []) ls) (sym (lay-next (top_speed train) l ls b.points)))
      (limits-enter ls (book_with b.ends (b.limits ++ l ∷ []) (laid_on (top_speed train) l b.points)) f.1 (limit-enters b c l f.0))
