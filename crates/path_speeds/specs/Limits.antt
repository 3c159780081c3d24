-- The limits that a link lays, R40 and R41: path_tpc.rs (`add_speeds`). Definitions only.
use Rattle.std.specs.Prelude.{ℕ, Bool, true, not, ◌&&◌, ◌||◌, cond, List, [], ◌∷◌, map, eqb, leb, Float, Option, Some, None}
use Rattle.std.proofs.Math.ListN as list
use Rattle.std.specs.Float.Ieee as Ieee
use Rattle.std.specs.Float.Ieee.Scale.{finite}
use Rattle.ieee.specs.Number.{+0, ◌⊕◌}
use Rattle.speed.specs.Points.{Point}
use Rattle.speed.specs.Insert.{insert_speed}
use Rattle.link.specs.declared.train_params.TrainParams.{TrainParams}
use Rattle.link.specs.declared.speed_set.SpeedSet.{SpeedSet}
use Rattle.link.specs.Lists.{every}
use Rattle.link.specs.Train.{top_speed}
use Rattle.link.specs.Condition.{applies}
use Rattle.link.specs.Table.{LinkTable, Limit, set_at, set_for, conditions_of, limits_of}
use Rattle.path.specs.declared.link_point.LinkPoint.{LinkPoint}
use Rattle.path.specs.Records.{offset_of, number_of}

-- ---- the set that applies

-- the set, if its conditions hold for the train
unfoldable pub if_applies : TrainParams → List ℕ → List Float → Option SpeedSet → Option SpeedSet
if_applies train codes values None = None
if_applies train codes values (Some s) = cond (applies train (conditions_of codes values s)) (Some s) None

-- of link n
unfoldable pub applying_set : TrainParams → List ℕ → List ℕ → List Float → ℕ → Option SpeedSet
unfolding if_applies
applying_set train sets codes values n = if_applies train codes values (set_for (set_at sets n) train.train_type)

-- a set has at most 64 conditions (question 6)
abbrev pub few_conditions : Option SpeedSet → Bool
few_conditions None = true
few_conditions (Some s) = leb s.params_count 64

-- ---- where its limits are laid

-- R41: the tail is 0 for a head-end set, else the train's length
abbrev pub tail_of : Float → SpeedSet → Float
tail_of length s = cond (eqb s.is_head_end 1) +0 length

-- R41: from start + base to (end + base) + tail
abbrev pub placed : Float → Float → Limit → Limit
placed base tail l = record { start = l.start ⊕ base; end = (l.end ⊕ base) ⊕ tail; value = l.value }

-- R40: a limit below the top speed
abbrev pub lowers : Float → Limit → Bool
lowers top l = Ieee.lt l.value top

abbrev pub cons_if : {A : Type 0} → Bool → A → List A → List A
cons_if b x l = cond b (x ∷ l) l

unfoldable pub lowering : Float → List Limit → List Limit
lowering top [] = []
lowering top (l ∷ ls) = cons_if (lowers top l) l (lowering top ls)

-- the limits of a set, base and tail added, for a train of this length
unfoldable pub entering : Float → Float → List Float → Option SpeedSet → List Limit
entering base length limits None = []
entering base length limits (Some s) = map (placed base (tail_of length s)) (limits_of limits s)

-- those that are laid
abbrev pub laying : Float → Float → Float → List Float → Option SpeedSet → List Limit
laying top base length limits found = lowering top (entering base length limits found)

-- how many they are, wherever the link begins
unfoldable pub count_laid : Float → List Float → Option SpeedSet → ℕ
unfolding lowering
count_laid top limits None = 0
count_laid top limits (Some s) = list.length (lowering top (limits_of limits s))

-- the limits laid on the points in turn
unfoldable pub lay_all : List Point → List Limit → List Point
lay_all ps [] = ps
lay_all ps (l ∷ ls) = lay_all (insert_speed ps l.start l.end l.value) ls

-- ---- question 8: the sums that laying a limit makes are finite

abbrev pub placed_finite : Float → Float → Limit → Bool
placed_finite base tail l = finite (l.start ⊕ base) && (finite (l.end ⊕ base) && finite ((l.end ⊕ base) ⊕ tail))

abbrev pub laid_finite : Float → Float → Float → Limit → Bool
laid_finite top base tail l = not (lowers top l) || placed_finite base tail l

unfoldable pub limits_finite : Float → Float → Float → List Float → Option SpeedSet → Bool
limits_finite top base length limits None = true
limits_finite top base length limits (Some s) = every (laid_finite top base (tail_of length s)) (limits_of limits s)

-- ---- of link n

-- what a link table says of speed sets: the columns of set places, conditions and limits
pub record SpeedSets : Type 0 where
  pub places : List ℕ
  pub codes : List ℕ
  pub values : List Float
  pub limits : List Float

abbrev pub speed_sets : List ℕ → List ℕ → List Float → List Float → SpeedSets
speed_sets places codes values limits = record { places = places; codes = codes; values = values; limits = limits }

abbrev pub sets_of : LinkTable → SpeedSets
sets_of t = speed_sets t.sets t.codes t.values t.limits

-- the set for the train has at most 64 conditions
unfoldable pub few_at : TrainParams → SpeedSets → ℕ → Bool
few_at train q n = few_conditions (set_for (set_at q.places n) train.train_type)

abbrev pub set_of : TrainParams → SpeedSets → ℕ → Option SpeedSet
set_of train q n = applying_set train q.places q.codes q.values n

-- the applying limits of the link where it begins at base, for a train of this length
unfoldable pub entering_at : TrainParams → Float → SpeedSets → Float → ℕ → List Limit
unfolding applying_set entering
entering_at train length q base n = entering base length q.limits (set_of train q n)

-- those that are laid
unfoldable pub laying_at : TrainParams → Float → SpeedSets → Float → ℕ → List Limit
unfolding applying_set lowering entering
laying_at train length q base n = laying (top_speed train) base length q.limits (set_of train q n)

-- how many they are
unfoldable pub count_at : TrainParams → SpeedSets → ℕ → ℕ
unfolding applying_set count_laid
count_at train q n = count_laid (top_speed train) q.limits (set_of train q n)

-- question 8 of them
unfoldable pub finite_at : TrainParams → Float → SpeedSets → Float → ℕ → Bool
unfolding applying_set limits_finite
finite_at train length q base n = limits_finite (top_speed train) base length q.limits (set_of train q n)

-- ---- of link points

-- the limits laid link point by link point
unfoldable pub lay_links : TrainParams → Float → SpeedSets → List Point → List LinkPoint → List Point
unfolding lay_all laying_at
lay_links train length q ps [] = ps
lay_links train length q ps (l ∷ ls) = lay_links train length q (lay_all ps (laying_at train length q (offset_of l) (number_of l))) ls

-- how many limits the link of a link point lays
abbrev pub point_count : TrainParams → SpeedSets → LinkPoint → ℕ
point_count train q l = count_at train q (number_of l)

-- question 8 of them
abbrev pub point_finite : TrainParams → Float → SpeedSets → LinkPoint → Bool
point_finite train length q l = finite_at train length q (offset_of l) (number_of l)

abbrev pub point_few : TrainParams → SpeedSets → LinkPoint → Bool
point_few train q l = few_at train q (number_of l)
