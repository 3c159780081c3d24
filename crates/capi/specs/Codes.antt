-- Codes at the C interface. An unknown code is a no to question 1: number 1, place 0. Definitions only.
use Rattle.std.specs.Prelude.{ℕ, cond, leb, eqb, Float, Option, Some, None}
use Rattle.std.specs.Float.{nan}
use Rattle.lookup.specs.declared.lin_search_hint.Dir.{Dir}
use Rattle.lookup.specs.declared.lin_search_hint.Dir.TheVariants.{Unk, Fwd, Bwd}
use Rattle.link.specs.declared.train_params.TrainType.{TrainType}
use Rattle.link.specs.declared.train_params.TrainType.TheVariants as types
use Rattle.link.specs.declared.train_params.TrainType.TheVariants.{Freight, Passenger, Intermodal, HighSpeedPassenger, TiltTrain, Commuter}
use Rattle.link.specs.declared.train_params.TrainParams.{TrainParams}
use Rattle.capi.specs.declared.codes.Train.{Train}

-- 0, 1 and 2
abbrev pub dir_of : ℕ → Option Dir
dir_of code = cond (eqb code 0) (Some Unk) (cond (eqb code 1) (Some Fwd) (cond (eqb code 2) (Some Bwd) None))

-- the answer of a call with a direction, and what a call with an unknown one answers
abbrev pub directed : {A : Type 0} → Option Dir → (Dir → A) → A → A
directed (Some d) call refused = call d
directed None call refused = refused

-- 0 to 6 in the Rust's order; none for any other
abbrev pub type_of : ℕ → TrainType
type_of code =
    cond (eqb code 1) Freight
    (cond (eqb code 2) Passenger
    (cond (eqb code 3) Intermodal
    (cond (eqb code 4) HighSpeedPassenger
    (cond (eqb code 5) TiltTrain
    (cond (eqb code 6) Commuter
    types.None)))))

-- a train of unknown type has no length that question 1 passes
abbrev pub judged_length : Train → Float
judged_length t = cond (leb t.train_type 6) t.length.0 nan

abbrev pub train_of : Train → TrainParams
train_of t =
    record {
      length = record { 0 = judged_length t };
      speed_max = t.speed_max;
      towed_mass_static = t.towed_mass_static;
      mass_per_brake = t.mass_per_brake;
      axle_count = t.axle_count;
      train_type = type_of t.train_type;
      curve_coeff_0 = t.curve_coeff_0;
      curve_coeff_1 = t.curve_coeff_1;
      curve_coeff_2 = t.curve_coeff_2;
    }
