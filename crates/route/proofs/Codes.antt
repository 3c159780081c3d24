-- What words mean: a table of words walked entry by entry, and a table made of another.
use Rattle.std.proofs.Common.{◌≡◌, refl, sym, ap, ◌∙◌, ℕ, ◌+◌, ◌<◌, ◌≤◌, Bool, true, false, cond, List, [], ◌∷◌, map, length, drop, get_or, Option, Some, None, option_map, arith}
use Rattle.std.proofs.lemmas.List.{drop_more}
use lib.ListN.{drop_of_length-le}
use Rattle.link.specs.declared.train_params.TrainType.{TrainType}
use Rattle.link.specs.declared.train_params.TrainType.TheVariants as Trains
use Rattle.link.specs.Train.{type_number}
use Rattle.route.specs.Fields.{same}
use Rattle.route.specs.Codes.{Entry, code_of}

-- ---- a table's entry e before the others
module _ {A : Type 0} (e : Entry A) (table : List (Entry A)) (w : List ℕ) (r : Bool) (er : r ≡ same w e.word) where
  pub first-is : r ≡ true → Some e.code ≡ code_of (e ∷ table) w
  unfolding code_of
  first-is h = rw (← er, h)

  pub first-not : r ≡ false → code_of table w ≡ code_of (e ∷ table) w
  unfolding code_of
  first-not h = rw (← er, h)

-- ---- a table whose words mean f of what they meant
cond-map : {A B : Type 0} (f : A → B) (b : Bool) (x : A) (o : Option A) → cond b (Some (f x)) (option_map f o) ≡ option_map f (cond b (Some x) o)
cond-map f true x o = refl
cond-map f false x o = refl

pub code-map : {A B : Type 0} (f : A → B) (table : List (Entry A)) (w : List ℕ) → code_of (map (λ e. record { word = e.word; code = f e.code }) table) w ≡ option_map f (code_of table w)
unfolding code_of
code-map f [] w = refl
code-map f (e ∷ table) w = rw (code-map f table w, cond-map f (same w e.word) e.code (code_of table w))

-- ---- a list of entries, each told as word and meaning: entry i, which is x, and those behind it
module _ {A B : Type 0} (told : B → Entry A) (w : List ℕ) (xs : List B) (i : ℕ) where
  pub told-none : length xs ≤ i → None ≡ code_of (map told (drop i xs)) w
  unfolding code_of
  told-none h = rw (drop_of_length-le xs h)

  module _ (x : B) (r : Bool) (h : i < length xs) (ex : x ≡ get_or xs i x) (er : r ≡ same w (told x).word) where
    told-here : code_of (told x ∷ map told (drop (i + 1) xs)) w ≡ code_of (map told (drop i xs)) w
    told-here = ap (λ l. code_of (map told l) w) (sym (drop_more xs i x h ∙ ap (λ y. y ∷ drop (i + 1) xs) (sym ex)))

    pub told-is : r ≡ true → Some (told x).code ≡ code_of (map told (drop i xs)) w
    told-is e = first-is (told x) (map told (drop (i + 1) xs)) w r er e ∙ told-here

    pub told-next : r ≡ false → code_of (map told (drop (i + 1) xs)) w ≡ code_of (map told (drop i xs)) w
    told-next e = first-not (told x) (map told (drop (i + 1) xs)) w r er e ∙ told-here

-- the seven train types
pub type-number-up-to : (t : TrainType) → type_number t ≤ 6
unfolding type_number
type-number-up-to Trains.None = omega arith
type-number-up-to Trains.Freight = omega arith
type-number-up-to Trains.Passenger = omega arith
type-number-up-to Trains.Intermodal = omega arith
type-number-up-to Trains.HighSpeedPassenger = omega arith
type-number-up-to Trains.TiltTrain = omega arith
type-number-up-to Trains.Commuter = omega arith
