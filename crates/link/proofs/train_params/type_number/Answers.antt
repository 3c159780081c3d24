-- `type_number`: the variants' numbers are the places.
use Rattle.std.proofs.Common.{◌≡◌, refl}
use denote.Enum.Declared.{tag_of}
use Rattle.link.specs.declared.train_params.TrainType.{TrainType}
use Rattle.link.specs.declared.train_params.TrainType.TheVariants.{None, Freight, Passenger, Intermodal, HighSpeedPassenger, TiltTrain, Commuter}
use Rattle.link.specs.contracts.train_params.TrainType.{the_type}
use Rattle.link.specs.Train.{type_number}
use Rattle.link.proofs.train_params.type_number.Goals as goal

numbered : (t : TrainType) → tag_of the_type t ≡ type_number t
unfolding type_number
numbered None = refl
numbered Freight = refl
numbered Passenger = refl
numbered Intermodal = refl
numbered HighSpeedPassenger = refl
numbered TiltTrain = refl
numbered Commuter = refl

pub returns : goal.returns
returns c = numbered c.args.t
