-- The words of a route file and what they mean: the tables that the reader is proved against. Definitions only.
use Rattle.std.specs.Prelude.{ℕ, suc, Bool, true, false, cond, List, [], ◌∷◌, map, Option, Some, None}
use Rattle.std.specs.Option.{unwrap_or}
use Prim.Native.Char.{code}
use Prim.Native.String.{String, [] as ending, ◌∷◌ as ◌before◌}
use Rattle.link.specs.declared.train_params.TrainType.{TrainType}
use Rattle.link.specs.declared.train_params.TrainType.TheVariants as Trains
use Rattle.link.specs.Train.{type_number}
use Rattle.lookup.specs.declared.lin_search_hint.Dir.{Dir}
use Rattle.lookup.specs.declared.lin_search_hint.Dir.TheVariants as Toward
use Rattle.route.specs.declared.kinds.Kind.{Kind}
use Rattle.route.specs.declared.kinds.Kind.TheVariants.{Blank, Table, Call as Calls, Unknown}
use Rattle.route.specs.declared.kinds.TableLine.TheVariants as Of
use Rattle.route.specs.declared.kinds.Call.{Call}
use Rattle.route.specs.declared.kinds.Call.TheVariants as To
use Rattle.route.specs.Fields.{same, no_field, field_bytes}

-- the bytes of an ASCII text
abbrev pub bytes : String → List ℕ
bytes ending = []
bytes (c before s) = code c ∷ bytes s

-- a word, as bytes, and what it means
pub record Entry (A : Type 0) : Type 0 where
  pub word : List ℕ
  pub code : A

infix 30 ◌is◌
abbrev pub ◌is◌ : {A : Type 0} → String → A → Entry A
w is x = record { word = bytes w; code = x }

-- what the first entry whose word is w means; nothing where there is none
unfoldable pub code_of : {A : Type 0} → List (Entry A) → List ℕ → Option A
unfolding same
code_of [] w = None
code_of (e ∷ table) w = cond (same w e.word) (Some e.code) (code_of table w)

abbrev pub types : List (Entry TrainType)
types =
    ("none" is Trains.None)
    ∷ ("freight" is Trains.Freight)
    ∷ ("passenger" is Trains.Passenger)
    ∷ ("intermodal" is Trains.Intermodal)
    ∷ ("high_speed_passenger" is Trains.HighSpeedPassenger)
    ∷ ("tilt_train" is Trains.TiltTrain)
    ∷ ("commuter" is Trains.Commuter)
    ∷ []

abbrev pub place_of_type : Entry TrainType → Entry ℕ
place_of_type e = record { word = e.word; code = suc (type_number e.code) }

-- the set places of a link: for all trains, and for each type
abbrev pub places : List (Entry ℕ)
places = ("all" is 0) ∷ map place_of_type types

-- whether a set's limits have a tail or end at their end
abbrev pub tails : List (Entry ℕ)
tails = ("tail" is 0) ∷ ("head" is 1) ∷ []

-- the figures that a condition compares
abbrev pub figures : List (Entry ℕ)
figures = ("mass" is 3) ∷ ("brake" is 4) ∷ ("axles" is 5) ∷ []

abbrev pub comparisons : List (Entry ℕ)
comparisons = ("=" is 1) ∷ (">" is 2) ∷ ("<" is 3) ∷ (">=" is 4) ∷ ("<=" is 5) ∷ []

abbrev pub directions : List (Entry Dir)
directions = ("unk" is Toward.Unk) ∷ ("fwd" is Toward.Fwd) ∷ ("bwd" is Toward.Bwd) ∷ []

-- the first word of a line
abbrev pub keywords : List (Entry Kind)
keywords =
    ("train" is Table Of.Train)
    ∷ ("link" is Table Of.Link)
    ∷ ("elev" is Table Of.Elev)
    ∷ ("heading" is Table Of.Heading)
    ∷ ("power" is Table Of.Power)
    ∷ ("set" is Table Of.Set)
    ∷ ("when" is Table Of.When)
    ∷ ("limit" is Table Of.Limit)
    ∷ ("new" is Calls To.New)
    ∷ ("extend" is Calls To.Extend)
    ∷ ("clear" is Calls To.Clear)
    ∷ ("finish" is Calls To.Finish)
    ∷ ("recalculate" is Calls To.Recalculate)
    ∷ ("reindex" is Calls To.Reindex)
    ∷ ("locate" is Calls To.Locate)
    ∷ ("resistance" is Calls To.Resistance)
    ∷ ("grades" is Calls To.Grades)
    ∷ ("curves" is Calls To.Curves)
    ∷ ("powers" is Calls To.Powers)
    ∷ ("show" is Calls To.Show)
    ∷ ("posted" is Calls To.Posted)
    ∷ []

-- whether a call reads the path, and does not change it
abbrev pub is_reading : Call → Bool
is_reading To.New = false
is_reading To.Extend = false
is_reading To.Clear = false
is_reading To.Finish = false
is_reading To.Recalculate = false
is_reading To.Reindex = false
is_reading To.Locate = true
is_reading To.Resistance = true
is_reading To.Grades = true
is_reading To.Curves = true
is_reading To.Powers = true
is_reading To.Show = true
is_reading To.Posted = true

-- the kind of the line at `at`: blank where it has no field, unknown where its first is no keyword
unfoldable pub kind_of : List ℕ → ℕ → Kind
unfolding no_field field_bytes code_of
kind_of text at = cond (no_field text at 0) Blank (unwrap_or (code_of keywords (field_bytes text at 0)) Unknown)
