-- What question 1 settles of a train. A law of `train_finite` alone, for `path`.
use mathlib.Core.Path.{◌≡◌}
use mathlib.Core.Bool.{true}
use mathlib.Core.List.{[], ◌∷◌}
use lib.Dec.{T}
use lib.Ieee as Ieee
use lib.Ieee.Scale.{finite}
use Rattle.ieee.specs.Number.{+0, all_finite}
use Rattle.ieee.proofs.Order.{lt→le, not-lt, of-true}
use Rattle.ieee.proofs.Sum.{finite-real}
use Rattle.link.specs.declared.train_params.TrainParams.{TrainParams}
use Rattle.link.specs.Train.{length_of, top_speed, towed_mass, mass_per_brake_of, curve0, curve1, curve2}
use Rattle.link.proofs.Known.{and_both}
use Rattle.path.specs.Sound.{train_finite}

pub record TrainGood (train : TrainParams) : Type 0 where
  pub top-finite : T (finite (top_speed train))
  pub top-from-zero : T (Ieee.le +0 (top_speed train))
  pub length-from-zero : T (Ieee.le +0 (length_of train))

pub train-good : (train : TrainParams) → train_finite train ≡ true → TrainGood train
unfolding train_finite all_finite
train-good train e =
    let top = top_speed train in
    let a = and_both (all_finite (length_of train ∷ top ∷ towed_mass train ∷ mass_per_brake_of train ∷ curve0 train ∷ curve1 train ∷ curve2 train ∷ [])) _ e in
    let b = and_both (finite (length_of train)) _ a.0 in
    let c = and_both (finite top) _ b.1 in
    let d = and_both (Ieee.lt +0 (length_of train)) _ a.1 in
    record {
      top-finite = of-true c.0;
      top-from-zero = not-lt top +0 (finite-real top (of-true c.0)) tt (of-true d.1);
      length-from-zero = lt→le +0 (length_of train) (of-true d.0);
    }
