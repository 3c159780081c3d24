-- The position of a train, R73: train_state.rs, and question 1 of it. Definitions only.
use Rattle.std.specs.Prelude.{Bool, ◌&&◌, [], ◌∷◌, Float}
use Rattle.std.specs.Float.Ieee as Ieee
use Rattle.ieee.specs.Number.{+0, all_finite}
use Rattle.train.specs.declared.train_state.TrainState.{TrainState}

-- where the front stands
abbrev pub front_of : TrainState → Float
front_of s = s.offset.0

-- where the back stands
abbrev pub back_of : TrainState → Float
back_of s = s.offset_back.0

abbrev pub length_of : TrainState → Float
length_of s = s.length.0

abbrev pub weight_of : TrainState → Float
weight_of s = s.weight_static.0

abbrev pub in_link_of : TrainState → Float
in_link_of s = s.offset_in_link.0

-- question 1 (R104): every number finite, the length above 0
unfoldable pub state_finite : TrainState → Bool
state_finite s = all_finite (front_of s ∷ back_of s ∷ length_of s ∷ weight_of s ∷ in_link_of s ∷ []) && Ieee.lt +0 (length_of s)
