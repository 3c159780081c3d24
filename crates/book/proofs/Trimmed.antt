-- Ends and points behind an offset go, and the claims of the book stand.
use mathlib.Core.List.{List}
use lib.Dec.{T}
use lib.Ieee as Ieee
use lib.Ieee.{Float, nan}
use Rattle.ieee.proofs.Order.{le_trans}
use Rattle.speed.specs.Points.{offset_at}
use Rattle.speed_laws.specs.Words.{Finite}
use Rattle.speed_laws.proofs.Clear.{clear-order, clear-begins, clear-posted, clear-every}
use Rattle.link.specs.declared.train_params.TrainParams.{TrainParams}
use Rattle.book.specs.Book.{Book, first_end, drop_ends, drop_behind}
use Rattle.book.proofs.Good.{GoodClear}
use Rattle.book.specs.Claims.{Offset, Claims}
use Rattle.book.proofs.Ends.{first-offset, Left, ends-left}

pub drop-claims : (train : TrainParams) (x : Float) (b : Book) → Claims train b → GoodClear x b → Claims train (drop_behind x b)
unfolding drop_behind
drop-claims train x b c g =
    record {
      some_end = left.some;
      ends-good = left.offsets;
      ends-rise = left.rises;
      starts = clear-begins b.points X c.in_order after;
      in_order = clear-order b.points X c.in_order after;
      points-good = clear-every b.points X c.in_order after Offset Finite (first-offset ends left.some left.offsets) c.points-good;
      limits-good = c.limits-good;
      speeds = λ y h. rw (clear-posted b.points X c.in_order after y nan h) (c.speeds y (le_trans (first_end b.ends) X y left.on h));
    }
  where
    ends : List Float
    ends = drop_ends x b.ends

    X : Float
    X = first_end ends

    left : Left (first_end b.ends) ends
    left = ends-left x b.ends c.some_end c.ends-good c.ends-rise

    after : T (Ieee.le (offset_at b.points 0) X)
    after = rw c.starts left.on
