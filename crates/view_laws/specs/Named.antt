-- What the view names as holding a stretch, against the book of the calls; and the records that tell of the limits laid. Definitions only.
use Rattle.std.specs.Prelude.{ℕ, ◌+◌, ◌≤◌, ◌≡◌, true, T, None, length, take, Float}
use mathlib.Core.List.{List, [], ◌∷◌, ◌++◌, Memᴰ}
use Rattle.std.specs.Float.Ieee as Ieee
use Rattle.link.specs.declared.train_params.TrainParams.{TrainParams}
use Rattle.link.specs.Lists.{every}
use Rattle.link.specs.Train.{length_of, top_speed}
use Rattle.link.specs.Table as table
use Rattle.path.specs.declared.link_point.LinkPoint.{LinkPoint}
use Rattle.path.specs.Records.{Columns, offset_of, number_of, path_of}
use Rattle.path.specs.Answers.{is_done}
use Rattle.path_ends.specs.New.{new_of}
use Rattle.path_speeds.specs.Limits.{SpeedSets, lowers, entering_at, point_few}
use Rattle.book.specs.Book.{Call, first_end, book_of}
use Rattle.book.specs.Claims.{posted_at}
use Rattle.book.specs.Demand.{CallsF64, ran_from_new}
use Rattle.speed.specs.declared.laid.Laid.{Laid}
use Rattle.view.specs.History.{with_more, points_lay}
use Rattle.view.specs.Holders.{held_by}

-- a record tells of the limit: its start, its end with the tail, and its speed
pub record Tells (r : Laid) (l : table.Limit) : Type 0 where
  pub start : r.start ≡ l.start
  pub end : r.end ≡ l.end
  pub value : r.value ≡ l.value

-- of the limits, each that was laid is told of by one of the records
abbrev pub AllTold : List Laid → Float → List table.Limit → Type 0
AllTold laid top limits = (l : table.Limit) → Memᴰ l limits → T (lowers top l) → (r : Laid) × Memᴰ r laid × Tells r l

-- After every list of calls of demand 3, where the records tell of every limit laid, a limit or the top speed is named at every offset not before the
-- path's beginning
abbrev pub AlwaysNamed : Type 0
AlwaysNamed =
    (train : TrainParams) (columns : Columns) (calls : List Call) → CallsF64 calls → is_done (new_of train columns).answer.answer ≡ true →
    (laid : List Laid) → AllTold laid (top_speed train) (book_of train (ran_from_new train columns calls).told).limits →
    (x : Float) → T (Ieee.le (first_end (book_of train (ran_from_new train columns calls).told).ends) x) →
    held_by laid x (posted_at (path_of (ran_from_new train columns calls).path (ran_from_new train columns calls).columns).speeds x) (top_speed train)
    ≡ None → ⊥

-- the limits that the links of link points enter, one link after the other
unfoldable pub entering_all : TrainParams → SpeedSets → List LinkPoint → List table.Limit
entering_all train q [] = []
entering_all train q (p ∷ ps) = entering_at train (length_of train) q (offset_of p) (number_of p) ++ entering_all train q ps

-- Where the first n records tell of every limit laid so far, and there is room for what the links of ps lay, the records with these behind them, as
-- `add_links` leaves them, tell of the limits of ps too
abbrev pub StillTold : Type 0
StillTold =
    (train : TrainParams) (q : SpeedSets) (ps : List LinkPoint) → every (point_few train q) ps ≡ true →
    (laid laid' : List Laid) (n r : ℕ) → n + length (points_lay train q ps) ≤ length laid →
    take r laid' ≡ with_more laid n (points_lay train q ps) →
    (limits : List table.Limit) → AllTold (take n laid) (top_speed train) limits →
    AllTold (take r laid') (top_speed train) (limits ++ entering_all train q ps)
