-- A limit ends at its end: after every list of calls on a path made by a `new` that is done the smallest of what holds is posted; and two limits more post
-- the same speed in either order.
use mathlib.Core.Path.{sym, subst}
use mathlib.Core.List.{List, [], ◌∷◌}
use lib.Ieee.{Float, nan}
use Rattle.ieee.proofs.Sum.{finite-real}
use Rattle.speed.specs.Points.{Point, offset_at}
use Rattle.speed_laws.specs.Words.{Every, Finite, Number}
use Rattle.speed_laws.proofs.EitherOrder.{either_order}
use Rattle.link.specs.declared.train_params.TrainParams.{TrainParams}
use Rattle.link.specs.Table.{Limit}
use Rattle.path_speeds.specs.Limits.{lay_all}
use Rattle.book.specs.Book.{Book, first_end, book_of}
use Rattle.book.specs.Claims.{posted_at, Offset, Claims}
use Rattle.book.specs.Demand.{ran_from_new}
use Rattle.book.specs.LimitsEnd.{PostedExactly, Exact, MayBeLaid, SameEitherWay, EitherOrder}
use Rattle.book.proofs.FiniteTrain.{train-good}
use Rattle.book.proofs.Posted.{posted-exactly}
use Rattle.book.proofs.Running.{new-goes, goes}

pub exact : Exact
exact train columns calls f64 e x h =
    let g = goes train columns calls f64 e in
    let b = book_of train (ran_from_new train columns calls).told in
    subst (λ (ps : List Point). PostedExactly train b x (posted_at ps x)) (sym g.matched.points)
    (posted-exactly train (train-good train (new-goes train columns e).0) b g.claims x h)

-- ---- two limits more

numbers_of : (ps : List Point) → Every Offset Finite ps → Every Number Number ps
numbers_of [] n = tt
numbers_of (p ∷ ps) n = (finite-real p.offset n.0.is_finite, finite-real p.speed n.1, numbers_of ps n.2)

either_way : (train : TrainParams) (b : Book) → Claims train b → SameEitherWay b.points (first_end b.ends)
unfolding lay_all
either_way train b c k l a d x h =
    either_order b.points c.in_order (numbers_of b.points c.points-good) x nan (rw c.starts h)
    k.start k.end k.value l.start l.end l.value (from k a) (from l d)
  where
    from : (m : Limit) → MayBeLaid (first_end b.ends) m → MayBeLaid (offset_at b.points 0) m
    from m = subst (λ (o : Float). MayBeLaid o m) (sym c.starts)

pub in-either-order : EitherOrder
in-either-order train columns calls f64 e =
    let g = goes train columns calls f64 e in
    let b = book_of train (ran_from_new train columns calls).told in
    subst (λ (ps : List Point). SameEitherWay ps (first_end b.ends)) (sym g.matched.points) (either_way train b g.claims)
