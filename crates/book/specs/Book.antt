-- The book of a path's calls, R86 to R89. It is told the train, each call's arguments and whether the call was done, and nothing of the path.
-- Definitions only.
use Rattle.std.specs.Prelude.{ℕ, ◌-◌, Bool, cond, List, [], ◌∷◌, ◌++◌, get_or, Float}
use Rattle.std.proofs.Math.ListN as list
use Rattle.std.specs.Float.Ieee as Ieee
use Rattle.std.specs.Float.{nan}
use Rattle.ieee.specs.Number.{+0, ◌⊕◌}
use Rattle.speed.specs.Points.{Point, point}
use Rattle.speed.specs.Clear.{clear_points}
use Rattle.link.specs.declared.train_params.TrainParams.{TrainParams}
use Rattle.link.specs.Train.{length_of, top_speed}
use Rattle.link.specs.Table.{LinkTable, Limit, link_at}
use Rattle.path_speeds.specs.Limits.{sets_of, lowering, lay_all, entering_at}

-- ---- the calls

-- extensions, trims, reindexings and finishings (R90), with the arguments of each but the path and its columns
pub data Call : Type 0 where
  extend : LinkTable → List ℕ → Call
  clear : Float → Call
  reindex : List ℕ → Call
  finish : Call

-- a call, and whether it was done
pub record Told : Type 0 where
  pub call : Call
  pub was_done : Bool

-- ---- the book

-- R86: ends, applying limits and speed points
pub record Book : Type 0 where
  pub ends : List Float
  pub limits : List Limit
  pub points : List Point

abbrev pub new_book : TrainParams → Book
new_book train = record { ends = +0 ∷ []; limits = []; points = point +0 (top_speed train) ∷ [] }

abbrev pub first_end : List Float → Float
first_end ends = get_or ends 0 nan

abbrev pub last_end : List Float → Float
last_end ends = get_or ends (list.length ends - 1) nan

-- R87, for a train of this length: base is the last end; where the set for the train applies its limits enter, base and tail added, and those below the
-- top speed are laid on the points; the next end is base + the link's length
unfoldable pub enter_link : TrainParams → Float → LinkTable → Book → ℕ → Book
enter_link train length t b n =
    let base = last_end b.ends in
    let limits = entering_at train length (sets_of t) base n in
    record {
      ends = b.ends ++ (base ⊕ (link_at t n).length) ∷ [];
      limits = b.limits ++ limits;
      points = lay_all b.points (lowering (top_speed train) limits);
    }

unfoldable pub enter_links : TrainParams → Float → LinkTable → Book → List ℕ → Book
unfolding enter_link
enter_links train length t b [] = b
enter_links train length t b (n ∷ ns) = enter_links train length t (enter_link train length t b n) ns

-- R88: as long as the second end is before x the first one goes
unfoldable pub drop_ends_from : Float → Float → List Float → List Float
drop_ends_from x e [] = e ∷ []
drop_ends_from x e (f ∷ fs) = cond (Ieee.lt f x) (drop_ends_from x f fs) (e ∷ f ∷ fs)

unfoldable pub drop_ends : Float → List Float → List Float
unfolding drop_ends_from
drop_ends x [] = []
drop_ends x (e ∷ es) = drop_ends_from x e es

-- R88: then the points change by R52, X being the first end
unfoldable pub drop_behind : Float → Book → Book
unfolding drop_ends
drop_behind x b =
    let ends = drop_ends x b.ends in
    record { ends = ends; limits = b.limits; points = clear_points b.points (first_end ends) }

-- R89: all else changes nothing
unfoldable pub enter_call : TrainParams → Call → Book → Book
unfolding enter_links drop_behind
enter_call train (extend t ns) b = enter_links train (length_of train) t b ns
enter_call train (clear x) b = drop_behind x b
enter_call train (reindex new) b = b
enter_call train finish b = b

unfoldable pub enter : TrainParams → Told → Book → Book
unfolding enter_call
enter train told b = cond told.was_done (enter_call train told.call b) b

-- the book of a list of calls, begun as `b`
unfoldable pub book_from : TrainParams → List Told → Book → Book
unfolding enter
book_from train [] b = b
book_from train (told ∷ rest) b = book_from train rest (enter train told b)

abbrev pub book_of : TrainParams → List Told → Book
book_of train told = book_from train told (new_book train)
