-- What the questions have settled of the calls that were done, said of the book that each met. Definitions that only the proofs need.
use Prim.Native.Nat.{ℕ, ◌≤◌}
use mathlib.Core.Path.{◌≡◌}
use mathlib.Core.Bool.{true}
use mathlib.Core.List.{List, [], ◌∷◌}
use lib.ListN as list
use lib.Ieee as Ieee
use lib.Ieee.{Float}
use lib.Ieee.Scale.{finite}
use Rattle.ieee.specs.Number.{◌⊕◌}
use Rattle.link.specs.declared.train_params.TrainParams.{TrainParams}
use Rattle.link.specs.Train.{length_of}
use Rattle.link.specs.Table.{LinkTable, link_at}
use Rattle.link.specs.Questions.{well_formed}
use Rattle.path_speeds.specs.Limits.{sets_of, finite_at}
use Rattle.book.specs.Book.{Call, Book, first_end, last_end, enter_link}
use Rattle.book.specs.Book.Call.{extend, clear, reindex, finish}

-- a link that is joined at base, for a train of this length
pub record GoodLink (train : TrainParams) (length : Float) (t : LinkTable) (base : Float) (n : ℕ) : Type 0 where
  -- question 6
  pub formed : well_formed t n ≡ true
  -- question 8: the sums of the limits that are laid are finite, and so is its end, which lies beyond its beginning
  pub sums : finite_at train length (sets_of t) base n ≡ true
  pub end-finite : finite ((link_at t n).length ⊕ base) ≡ true
  pub beyond : Ieee.lt base ((link_at t n).length ⊕ base) ≡ true

abbrev pub GoodLinks : TrainParams → Float → LinkTable → Book → List ℕ → Type 0
GoodLinks train length t b [] = Unit
GoodLinks train length t b (n ∷ ns) = GoodLink train length t (last_end b.ends) n × GoodLinks train length t (enter_link train length t b n) ns

pub record GoodClear (x : Float) (b : Book) : Type 0 where
  -- question 10
  pub not-before : Ieee.le (first_end b.ends) x ≡ true
  pub not_after : Ieee.le x (last_end b.ends) ≡ true
  -- question 12
  pub two : 2 ≤ list.length b.ends

abbrev pub GoodCall : TrainParams → Call → Book → Type 0
GoodCall train (extend t ns) b = GoodLinks train (length_of train) t b ns
GoodCall train (clear x) b = GoodClear x b
GoodCall train (reindex new) b = Unit
GoodCall train finish b = Unit
