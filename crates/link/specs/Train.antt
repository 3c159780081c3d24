-- The train's figures as plain numbers, R15 and R16: train_params.rs. Definitions only.
use Rattle.std.specs.Prelude.{ℕ, Float}
use Rattle.link.specs.declared.train_params.TrainType.{TrainType}
use Rattle.link.specs.declared.train_params.TrainType.TheVariants.{None, Freight, Passenger, Intermodal, HighSpeedPassenger, TiltTrain, Commuter}
use Rattle.link.specs.declared.train_params.TrainParams.{TrainParams}

abbrev pub length_of : TrainParams → Float
length_of train = train.length.0

abbrev pub top_speed : TrainParams → Float
top_speed train = train.speed_max.0

abbrev pub towed_mass : TrainParams → Float
towed_mass train = train.towed_mass_static.0

abbrev pub mass_per_brake_of : TrainParams → Float
mass_per_brake_of train = train.mass_per_brake.0

abbrev pub axles : TrainParams → ℕ
axles train = train.axle_count

abbrev pub curve0 : TrainParams → Float
curve0 train = train.curve_coeff_0.0

abbrev pub curve1 : TrainParams → Float
curve1 train = train.curve_coeff_1.0

abbrev pub curve2 : TrainParams → Float
curve2 train = train.curve_coeff_2.0

-- the seven train types as places, from 0
unfoldable pub type_number : TrainType → ℕ
type_number None = 0
type_number Freight = 1
type_number Passenger = 2
type_number Intermodal = 3
type_number HighSpeedPassenger = 4
type_number TiltTrain = 5
type_number Commuter = 6
