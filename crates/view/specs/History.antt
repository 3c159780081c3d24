-- The limits laid since `new`, as the history keeps them: the first so many of a slice of records. Definitions only.
use Rattle.std.specs.Prelude.{ℕ, ◌-◌, cond, List, [], ◌∷◌, ◌++◌, map, length, take, Float, Option, Some, None}
use Rattle.ieee.specs.Number.{+0}
use Rattle.speed.specs.declared.laid.Laid.{Laid}
use Rattle.link.specs.declared.train_params.TrainParams.{TrainParams}
use Rattle.link.specs.declared.speed_set.SpeedSet.{SpeedSet}
use Rattle.link.specs.Lists.{up_from}
use Rattle.link.specs.Train.{length_of, top_speed}
use Rattle.link.specs.Table.{Limit, set_at, set_for, limits_of}
use Rattle.path.specs.declared.link_point.LinkPoint.{LinkPoint}
use Rattle.path.specs.Records.{offset_of, number_of, point_at}
use Rattle.path_speeds.specs.Limits.{SpeedSets, few_conditions, applying_set, tail_of, placed, lowering}

-- ---- the records

-- the first n records and more behind them, as many as there is room for
abbrev pub with_more : {A : Type 0} → List A → ℕ → List A → List A
with_more records n more = take (length records) (take n records ++ more)

-- the limit, without its board and its link
abbrev pub limit_in : Laid → Limit
limit_in l = record { start = l.start; end = l.end; value = l.value }

-- ---- what a link lays

-- a limit of the link with this number: as it is laid, and as it would be without a tail
abbrev pub laid_as : ℕ → Limit → Limit → Laid
laid_as number l board = record { start = l.start; board = board.end; end = l.end; value = l.value; link = number }

-- laid from base on
abbrev pub laid_of : Float → Float → ℕ → Limit → Laid
laid_of base tail number l = laid_as number (placed base tail l) (placed base +0 l)

-- those of a set that are below the top speed, for a train of this length
unfoldable pub set_lays : Float → Float → Float → ℕ → List Float → Option SpeedSet → List Laid
set_lays top base length number limits None = []
set_lays top base length number limits (Some s) = map (laid_of base (tail_of length s) number) (lowering top (limits_of limits s))

-- the set that link i takes them from: none where it has more than 64 conditions
unfoldable pub set_taken : TrainParams → List ℕ → List ℕ → List Float → ℕ → Option SpeedSet
set_taken train sets codes values i = cond (few_conditions (set_for (set_at sets i) train.train_type)) (applying_set train sets codes values i) None

-- those of a link point's link
unfoldable pub point_lays : TrainParams → SpeedSets → LinkPoint → List Laid
point_lays train q p =
    set_lays (top_speed train) (offset_of p) (length_of train) (number_of p) q.limits (set_taken train q.places q.codes q.values (number_of p))

-- those of link points, one link after the other
unfoldable pub points_lay : TrainParams → SpeedSets → List LinkPoint → List Laid
points_lay train q [] = []
points_lay train q (p ∷ ps) = point_lays train q p ++ points_lay train q ps

-- those of the link points from `from` up to `to` of the two columns
abbrev pub lay_from_to : TrainParams → SpeedSets → List Float → List ℕ → ℕ → ℕ → List Laid
lay_from_to train q offsets numbers from to = points_lay train q (up_from (point_at offsets numbers) from (to - from))
