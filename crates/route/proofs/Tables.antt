-- What the words mean is what the link table and the train are asked by, and no word of a table hides another.
use Rattle.std.proofs.Common.{◌≡◌, refl, ℕ, suc, Bool, List, [], ◌∷◌, map, Option, Some, option_map, option_and_then}
use lib.Ieee.{Float}
use Rattle.link.specs.Condition.{by_code, param_of}
use Rattle.link.specs.Train.{type_number}
use Rattle.link.specs.declared.speed_param.SpeedParam.TheVariants.{MassTotal, MassPerBrake, AxleCount}
use Rattle.link.specs.declared.train_params.TrainType.TheVariants as Trains
use Rattle.route.specs.Codes.{Entry, bytes, code_of, types, places, tails, figures, comparisons, directions, keywords}

-- ---- comparisons: the train's figure on the left, R26
module _ (equal above below not_below not_above : Bool) where
  abbrev asked : List ℕ → Option Bool
  asked w = option_map (λ code. by_code code equal above below not_below not_above) (code_of comparisons w)

  equal-asked : asked (bytes "=") ≡ Some equal
  unfolding code_of by_code
  equal-asked = refl

  above-asked : asked (bytes ">") ≡ Some above
  unfolding code_of by_code
  above-asked = refl

  below-asked : asked (bytes "<") ≡ Some below
  unfolding code_of by_code
  below-asked = refl

  not-below-asked : asked (bytes ">=") ≡ Some not_below
  unfolding code_of by_code
  not-below-asked = refl

  not-above-asked : asked (bytes "<=") ≡ Some not_above
  unfolding code_of by_code
  not-above-asked = refl

-- ---- figures of the train, R25
module _ (v : Float) where
  mass-asked : option_and_then (λ code. param_of code v) (code_of figures (bytes "mass")) ≡ Some (MassTotal v)
  unfolding code_of param_of
  mass-asked = refl

  brake-asked : option_and_then (λ code. param_of code v) (code_of figures (bytes "brake")) ≡ Some (MassPerBrake v)
  unfolding code_of param_of
  brake-asked = refl

  axles-asked : option_and_then (λ code. param_of code v) (code_of figures (bytes "axles")) ≡ Some (AxleCount v)
  unfolding code_of param_of
  axles-asked = refl

-- ---- train types: the seven in the Rust's order
types-read : map (λ (e : Entry _). e.code) types ≡ Trains.None ∷ Trains.Freight ∷ Trains.Passenger ∷ Trains.Intermodal ∷ Trains.HighSpeedPassenger ∷ Trains.TiltTrain ∷ Trains.Commuter ∷ []
types-read = refl

type-numbers : map (λ (e : Entry _). type_number e.code) types ≡ 0 ∷ 1 ∷ 2 ∷ 3 ∷ 4 ∷ 5 ∷ 6 ∷ []
unfolding type_number
type-numbers = refl

-- the place of a type's set is the one that R30 asks
place-asked : map (λ (e : Entry _). code_of places e.word) types ≡ map (λ (e : Entry _). option_map (λ t. suc (type_number t)) (code_of types e.word)) types
unfolding code_of type_number
place-asked = refl

-- ---- each word means what stands beside it
abbrev Told : {A : Type 0} → List (Entry A) → Type 0
Told {A} table = map (λ (e : Entry A). code_of table e.word) table ≡ map (λ (e : Entry A). Some e.code) table

types-told : Told types
unfolding code_of
types-told = refl

places-told : Told places
unfolding code_of type_number
places-told = refl

tails-told : Told tails
unfolding code_of
tails-told = refl

figures-told : Told figures
unfolding code_of
figures-told = refl

comparisons-told : Told comparisons
unfolding code_of
comparisons-told = refl

directions-told : Told directions
unfolding code_of
directions-told = refl

keywords-told : Told keywords
unfolding code_of
keywords-told = refl
