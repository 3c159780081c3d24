-- A position whose front and back are moved.
use mathlib.Core.Path.{◌≡◌, ap₂}
use mathlib.Core.Bool.{true, ◌&&◌}
use mathlib.Core.List.{[], ◌∷◌}
use lib.Ieee as Ieee
use lib.Ieee.{Float}
use lib.Ieee.Scale.{finite}
use Rattle.ieee.specs.Number.{+0, all_finite}
use Rattle.link.proofs.Known.{and_both}
use Rattle.train.specs.declared.train_state.TrainState.{TrainState}
use Rattle.train.specs.Position.{front_of, back_of, length_of, weight_of, in_link_of, state_finite}

-- the same train with its front at x and its back at y
abbrev pub standing : TrainState → Float → Float → TrainState
standing s x y =
    record {
      offset = record { 0 = x };
      offset_back = record { 0 = y };
      length = s.length;
      weight_static = s.weight_static;
      link_idx_front = s.link_idx_front;
      link_idx_back = s.link_idx_back;
      offset_in_link = s.offset_in_link;
    }

-- question 1 asks nothing of the two offsets but that they are finite
pub standing-finite : (s : TrainState) (x y : Float) → state_finite s ≡ true → finite x ≡ true → finite y ≡ true → state_finite (standing s x y) ≡ true
unfolding state_finite all_finite
standing-finite s x y e f g =
    let rest = all_finite (length_of s ∷ weight_of s ∷ in_link_of s ∷ []) in
    let a = and_both (finite (front_of s) && (finite (back_of s) && rest)) (Ieee.lt +0 (length_of s)) e in
    let b = and_both (finite (front_of s)) (finite (back_of s) && rest) a.0 in
    let d = and_both (finite (back_of s)) rest b.1 in
    ap₂ ◌&&◌ (ap₂ ◌&&◌ f (ap₂ ◌&&◌ g d.1)) a.1
