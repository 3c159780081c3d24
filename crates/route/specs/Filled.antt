-- What the lines of a route fill: the train, and the column of a list. Definitions only.
use Rattle.std.specs.Prelude.{ℕ, suc, cond, List, [], ◌∷◌}
use Rattle.std.specs.Option.{unwrap_or}
use Rattle.link.specs.declared.train_params.TrainType.TheVariants as Trains
use Rattle.link.specs.declared.train_params.TrainParams.{TrainParams}
use Rattle.route.specs.Fields.{field_bytes, no_field, number_at, whole_at, or_zero, whole_or_zero}
use Rattle.route.specs.Codes.{code_of, types}

-- the train of the line at `at`
unfoldable pub train_of : List ℕ → ℕ → TrainParams
unfolding number_at whole_at field_bytes code_of
train_of text at =
    record {
      length = record { 0 = or_zero (number_at text at 1) };
      speed_max = record { 0 = or_zero (number_at text at 2) };
      towed_mass_static = record { 0 = or_zero (number_at text at 3) };
      mass_per_brake = record { 0 = or_zero (number_at text at 4) };
      axle_count = whole_or_zero (whole_at text at 5);
      train_type = unwrap_or (code_of types (field_bytes text at 6)) Trains.None;
      curve_coeff_0 = record { 0 = or_zero (number_at text at 7) };
      curve_coeff_1 = record { 0 = or_zero (number_at text at 8) };
      curve_coeff_2 = record { 0 = or_zero (number_at text at 9) };
    }

-- a column from entry i on, with the whole numbers of the fields behind the line's word, as far as there are any
unfoldable pub listed : List ℕ → ℕ → ℕ → List ℕ → List ℕ
unfolding no_field whole_at
listed text at i [] = []
listed text at i (x ∷ col) = cond (no_field text at (suc i)) (x ∷ col) (whole_or_zero (whole_at text at (suc i)) ∷ listed text at (suc i) col)

-- how many there are
unfoldable pub list_length : List ℕ → ℕ → ℕ → List ℕ → ℕ
unfolding no_field
list_length text at i [] = 0
list_length text at i (x ∷ col) = cond (no_field text at (suc i)) 0 (suc (list_length text at (suc i) col))
