-- A link that questions 6 and 8 have passed is entered, and the claims of the book stand.
use Rattle.std.specs.Prelude.{Option, Some, None}
use Prim.Native.Nat.{ℕ}
use mathlib.Core.Path.{◌≡◌, refl, sym, ap, ◌∙◌, subst}
use mathlib.Core.Bool.{Bool, true, false, cond, false≢true}
use mathlib.Core.List.{List, [], ◌∷◌, ◌++◌}
use lib.Dec.{T, eqb}
use lib.Ieee as Ieee
use lib.Ieee.{Float, binary64}
use Rattle.ieee.specs.Number.{+0, ◌⊕◌}
use Rattle.ieee.proofs.Order.{le_refl, lt→le, of-true}
use Rattle.ieee.proofs.Sum.{add_comm}
use Rattle.link.specs.declared.train_params.TrainParams.{TrainParams}
use Rattle.link.specs.declared.speed_set.SpeedSet.{SpeedSet}
use Rattle.link.specs.Train.{top_speed}
use Rattle.link.specs.Condition.{applies}
use Rattle.link.specs.Table.{LinkTable, link_at, set_at, set_for, conditions_of, limits_of}
use Rattle.link.proofs.Known.{formed, set-formed, limits-formed}
use Rattle.path.specs.Sound.{train_finite}
use Rattle.path_speeds.specs.Limits.{if_applies, applying_set, tail_of, entering, limits_finite, sets_of, set_of, entering_at, finite_at, lowering, lay_all}
use Rattle.book.specs.Book.{Book, first_end, last_end, enter_link, enter_links}
use Rattle.book.proofs.Good.{GoodLink, GoodLinks}
use Rattle.book.specs.Claims.{Offset, Claims}
use Rattle.book.proofs.Placed.{sum-offset, AllEnter, all-enter}
use Rattle.book.proofs.Ends.{last-offset, first-last, first_more, some_more, offsets-more, rising-more}
use Rattle.book.proofs.Entered.{book_with, limits-enter}
use Rattle.book.proofs.FiniteTrain.{train-good}

-- ---- the limits of a link

-- a set that applies was found
was-found : (train : TrainParams) (codes : List ℕ) (values : List Float) (set : Option SpeedSet) (s : SpeedSet) → if_applies train codes values set ≡ Some s → set ≡ Some s
unfolding if_applies
was-found train codes values None s e = e
was-found train codes values (Some r) s e = pick (applies train (conditions_of codes values r)) e
  where
    is_found : Option SpeedSet → Bool
    is_found None = false
    is_found (Some r) = true

    pick : (b : Bool) → cond b (Some r) None ≡ Some s → Some r ≡ Some s
    pick true e = e
    pick false e = absurd (false≢true (ap is_found e))

module _ (train : TrainParams) (own : Float) (above : T (Ieee.le +0 own)) where
  tail-from-zero : (s : SpeedSet) → T (Ieee.le +0 (tail_of own s))
  tail-from-zero s = pick (eqb s.is_head_end 1)
    where
      pick : (b : Bool) → T (Ieee.le +0 (cond b +0 own))
      pick true = le_refl +0 tt
      pick false = above

  -- they may enter a path that begins at o
  link-enters : (t : LinkTable) (base : Float) (n : ℕ) (o : Float) → Offset base → T (Ieee.le o base) → GoodLink train own t base n → AllEnter (top_speed train) o (entering_at train own (sets_of t) base n)
  unfolding entering_at finite_at
  link-enters t base n o at h g = pick (set_of train (sets_of t) n) refl g.sums
    where
      pick : (set : Option SpeedSet) → set_of train (sets_of t) n ≡ set → limits_finite (top_speed train) base own t.limits set ≡ true
          → AllEnter (top_speed train) o (entering base own t.limits set)
      pick None e f = unfold entering in tt
      pick (Some s) e f =
          let found = was-found train t.codes t.values (set_for (set_at t.sets n) train.train_type) s (unfold applying_set in e) in
          let each-formed = limits-formed t.codes t.values t.limits s (set-formed t n train.train_type s g.formed found) in
          unfold entering in all-enter base (tail_of own s) at (tail-from-zero s) (top_speed train) o h (limits_of t.limits s) each-formed (unfold limits_finite in f)

-- ---- a link

-- one more end, beyond the last
more-ends : (train : TrainParams) (b : Book) (e : Float) → Offset e → T (Ieee.lt (last_end b.ends) e) → Claims train b → Claims train (book_with (b.ends ++ e ∷ []) b.limits b.points)
more-ends train b e k l c =
    let same : first_end (b.ends ++ e ∷ []) ≡ first_end b.ends = first_more b.ends e c.some_end in
    record {
      some_end = some_more b.ends e;
      ends-good = offsets-more b.ends e c.ends-good k;
      ends-rise = rising-more b.ends e c.ends-rise l;
      starts = c.starts ∙ sym same;
      in_order = c.in_order;
      points-good = c.points-good;
      limits-good = c.limits-good;
      speeds = λ x h. c.speeds x (subst (λ (o : Float). T (Ieee.le o x)) same h);
    }

pub link-claims : (train : TrainParams) → train_finite train ≡ true → (own : Float) → T (Ieee.le +0 own) → (t : LinkTable) (b : Book) (n : ℕ) → Claims train b → GoodLink train own t (last_end b.ends) n → Claims train (enter_link train own t b n)
unfolding enter_link
link-claims train fin own above t b n c g =
    let good = train-good train fin in
    let base = last_end b.ends in
    let long = (link_at t n).length in
    let limits = entering_at train own (sets_of t) base n in
    let at : Offset base = last-offset b.ends c.some_end c.ends-good in
    let from = first-last b.ends c.some_end c.ends-good c.ends-rise in
    let turn : long ⊕ base ≡ base ⊕ long = add_comm binary64 long base in
    let end = (sum-offset long base (lt→le +0 long (of-true (formed t n g.formed).above)) at (of-true g.end-finite)).0 in
    more-ends train (book_with b.ends (b.limits ++ limits) (lay_all b.points (lowering (top_speed train) limits))) (base ⊕ long) (subst Offset turn end)
    (subst (λ (e : Float). T (Ieee.lt base e)) turn (of-true g.beyond))
    (limits-enter train limits b (link-enters train own above t base n (first_end b.ends) at from g) c)

pub links-claims : (train : TrainParams) → train_finite train ≡ true → (own : Float) → T (Ieee.le +0 own) → (t : LinkTable) (b : Book) (ns : List ℕ) → Claims train b → GoodLinks train own t b ns → Claims train (enter_links train own t b ns)
unfolding enter_links
links-claims train fin own above t b [] c g = c
links-claims train fin own above t b (n ∷ ns) c g = links-claims train fin own above t (enter_link train own t b n) ns (link-claims train fin own above t b n c g.0) g.1
