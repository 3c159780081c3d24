-- What the fields of a line must be, by its kind, and the first that is not so. Definitions only.
use Rattle.std.specs.Prelude.{ℕ, zero, suc, Bool, true, false, cond, List, [], ◌∷◌, Option, Some, None, is_some}
use Rattle.route.specs.declared.kinds.TableLine.{TableLine}
use Rattle.route.specs.declared.kinds.TableLine.TheVariants as Of
use Rattle.route.specs.declared.kinds.Call.{Call}
use Rattle.route.specs.declared.kinds.Call.TheVariants as To
use Rattle.route.specs.declared.wanted.Wanted.{Wanted}
use Rattle.route.specs.declared.wanted.Wanted.TheVariants.{Number, Whole, TrainType, SetPlace, Tail, Figure, Comparison, Direction}
use Rattle.route.specs.Fields.{field_bytes, no_field, number_at, whole_at}
use Rattle.route.specs.Codes.{code_of, types, places, tails, figures, comparisons, directions}

-- whether field k is what a form asks for
unfoldable pub field_fits : List ℕ → ℕ → ℕ → Wanted → Bool
unfolding number_at whole_at field_bytes code_of
field_fits text at k Number = is_some (number_at text at k)
field_fits text at k Whole = is_some (whole_at text at k)
field_fits text at k TrainType = is_some (code_of types (field_bytes text at k))
field_fits text at k SetPlace = is_some (code_of places (field_bytes text at k))
field_fits text at k Tail = is_some (code_of tails (field_bytes text at k))
field_fits text at k Figure = is_some (code_of figures (field_bytes text at k))
field_fits text at k Comparison = is_some (code_of comparisons (field_bytes text at k))
field_fits text at k Direction = is_some (code_of directions (field_bytes text at k))

-- the first field from k on that does not fit its form, or that is one too many; none where all fit and none follows
unfoldable pub misfit_from : List ℕ → ℕ → ℕ → List Wanted → Option ℕ
unfolding field_fits no_field
misfit_from text at k [] = cond (no_field text at k) None (Some k)
misfit_from text at k (asks ∷ form) = cond (field_fits text at k asks) (misfit_from text at (suc k) form) (Some k)

-- the same for a list of whole numbers, at most n from k on
unfoldable pub list_misfit_from : List ℕ → ℕ → ℕ → ℕ → Option ℕ
unfolding whole_at no_field
list_misfit_from text at k zero = cond (no_field text at k) None (Some k)
list_misfit_from text at k (suc n) = cond (no_field text at k) None (cond (is_some (whole_at text at k)) (list_misfit_from text at (suc k) n) (Some k))

-- what the fields of a line of the train or of the link table must be
abbrev pub table_form : TableLine → List Wanted
table_form Of.Train = Number ∷ Number ∷ Number ∷ Number ∷ Whole ∷ TrainType ∷ Number ∷ Number ∷ Number ∷ []
table_form Of.Link = Whole ∷ Number ∷ Whole ∷ Whole ∷ Whole ∷ Whole ∷ []
table_form Of.Elev = Number ∷ Number ∷ []
table_form Of.Heading = Number ∷ Number ∷ []
table_form Of.Power = Number ∷ Number ∷ Number ∷ Whole ∷ []
table_form Of.Set = SetPlace ∷ Tail ∷ []
table_form Of.When = Figure ∷ Comparison ∷ Number ∷ []
table_form Of.Limit = Number ∷ Number ∷ Number ∷ []

-- whether a call has a list of whole numbers
abbrev pub has_list : Call → Bool
has_list To.Extend = true
has_list To.Reindex = true
has_list _ = false

-- what the fields of a call without a list must be
abbrev pub call_form : Call → List Wanted
call_form To.Clear = Number ∷ []
call_form To.Posted = Number ∷ []
call_form To.Locate = Number ∷ Number ∷ []
call_form To.Resistance = Direction ∷ Number ∷ Number ∷ Number ∷ []
call_form To.Grades = Whole ∷ []
call_form To.Curves = Whole ∷ []
call_form _ = []

-- the first misfit of a line of the train or of the link table
abbrev pub table_misfit : List ℕ → ℕ → TableLine → Option ℕ
table_misfit text at line = misfit_from text at 1 (table_form line)

-- the same for a call
abbrev pub call_misfit : List ℕ → ℕ → Call → Option ℕ
call_misfit text at call = cond (has_list call) (list_misfit_from text at 1 1025) (misfit_from text at 1 (call_form call))
