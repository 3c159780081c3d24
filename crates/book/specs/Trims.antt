-- A list of trims as one call: what it leaves is what so many trims leave, so demand 3 speaks of it too. Definitions only.
use Rattle.std.specs.Prelude.{◌≡◌, true, cond, List, [], ◌∷◌, ◌++◌, map, Float}
use Rattle.link.specs.declared.train_params.TrainParams.{TrainParams}
use Rattle.path.specs.declared.path_tpc.PathTpc.{PathTpc}
use Rattle.path.specs.Records.{Columns, path_of}
use Rattle.path.specs.Answers.{is_done, Outcome}
use Rattle.path_ends.specs.New.{new_of}
use Rattle.path_clear.specs.Trims.{clear_each}
use Rattle.book.specs.Book.{Call, Told, book_of}
use Rattle.book.specs.Book.Call.{clear}
use Rattle.book.specs.Demand.{Ran, run, CallsF64, Kept, ran_from_new}

-- so many calls of `clear`
abbrev pub clears : List Float → List Call
clears xs = map clear xs

-- each of them done
abbrev pub all_done : List Float → List Told
all_done xs = map (λ (x : Float). record { call = clear x; was_done = true }) xs

-- what a list of trims leaves of a path and its columns
abbrev pub trimmed_by : List Float → PathTpc → Columns → Outcome
trimmed_by xs p c = (clear_each xs p c).outcome

-- a list of trims that is done leaves what `run` of so many `clear` leaves, and each of these is done
abbrev pub TrimsAsCalls : Type 0
TrimsAsCalls =
    (train : TrainParams) (x : Float) (xs : List Float) (p : PathTpc) (c : Columns) → is_done (trimmed_by (x ∷ xs) p c).answer.answer ≡ true →
    run train (clears (x ∷ xs)) p c ≡ record { path = (trimmed_by (x ∷ xs) p c).answer.path; columns = (trimmed_by (x ∷ xs) p c).columns; told = all_done (x ∷ xs) }

-- the calls that a list of trims stands for on a path: so many where it is done, and none where it is refused
abbrev pub stands_for : List Float → Ran → List Call
stands_for xs ran = cond (is_done (trimmed_by xs ran.path ran.columns).answer.answer) (clears xs) []

-- on a path of demand 3 any list of trims, an empty or a refused one too, leaves the path that demand 3 speaks of
abbrev pub Demand3Trims : Type 0
Demand3Trims =
    (train : TrainParams) (columns : Columns) (calls : List Call) (xs : List Float) → is_done (new_of train columns).answer.answer ≡ true →
    ((trimmed_by xs (ran_from_new train columns calls).path (ran_from_new train columns calls).columns).answer.path
    ≡ (ran_from_new train columns (calls ++ stands_for xs (ran_from_new train columns calls))).path)
    × ((trimmed_by xs (ran_from_new train columns calls).path (ran_from_new train columns calls).columns).columns
    ≡ (ran_from_new train columns (calls ++ stands_for xs (ran_from_new train columns calls))).columns)

-- so demand 3 holds after it, against the book of those calls
abbrev pub KeptByTrims : Type 0
KeptByTrims =
    (train : TrainParams) (columns : Columns) (calls : List Call) (xs : List Float) → CallsF64 calls → is_done (new_of train columns).answer.answer ≡ true →
    Kept train
    (path_of (trimmed_by xs (ran_from_new train columns calls).path (ran_from_new train columns calls).columns).answer.path (trimmed_by xs (ran_from_new train columns calls).path (ran_from_new train columns calls).columns).columns)
    (book_of train (ran_from_new train columns (calls ++ stands_for xs (ran_from_new train columns calls))).told)
