-- Demand 3: lists of calls on a path, and what holds of the path after every list. Definitions only.
use Rattle.std.specs.Prelude.{ℕ, ◌+◌, ◌<◌, ◌≡◌, true, false, List, [], ◌∷◌, map, T, length, get_or, take, Float}
use Rattle.std.specs.Float.Ieee as Ieee
use Rattle.std.specs.Float.{binary64, nan}
use Rattle.std.specs.Float.Ieee.{fits}
use Rattle.speed.specs.Points.{offset_at}
use Rattle.speed.specs.Posted.{Sorted}
use Rattle.lookup.specs.declared.path_res_coeff.PathResCoeff.{PathResCoeff}
use Rattle.lookup.specs.Coeff as coeff
use Rattle.link.specs.declared.train_params.TrainParams.{TrainParams}
use Rattle.link.specs.Table.{LinkTable}
use Rattle.path.specs.declared.path_tpc.PathTpc.{PathTpc}
use Rattle.path.specs.declared.link_point.LinkPoint.{LinkPoint}
use Rattle.path.specs.Records.{Columns, Path, offset_of, path_of}
use Rattle.path.specs.Answers.{is_done, Outcome}
use Rattle.path.specs.Sound.{path_finite, sound, total, count_of}
use Rattle.path_ends.specs.New.{new_of}
use Rattle.path_ends.specs.Finish.{finish_of}
use Rattle.path_clear.specs.Clear.{clear_of}
use Rattle.path_reindex.specs.Reindex.{reindex_of}
use Rattle.path_extend.specs.Extend.{extend_of}
use Rattle.book.specs.Book.{Call, Told, Book, first_end, book_of}
use Rattle.book.specs.Book.Call.{extend, clear, reindex, finish}
use Rattle.book.specs.Claims.{posted_at, PostedRight}

-- ---- the calls

-- what a call on a path and its columns leaves: each is the definition that the call's contract cites
unfoldable pub call_of : TrainParams → Call → PathTpc → Columns → Outcome
call_of train (extend t ns) p c = extend_of train t ns p c
call_of train (clear x) p c = (clear_of x p c).outcome
call_of train (reindex new) p c = reindex_of new p c
call_of train finish p c = finish_of p c

-- a path with its columns after calls, and what the book is told of them
pub record Ran : Type 0 where
  pub path : PathTpc
  pub columns : Columns
  pub told : List Told

-- R90: each call gets the path and its columns as the one before left them
unfoldable pub run : TrainParams → List Call → PathTpc → Columns → Ran
unfolding call_of
run train [] p c = record { path = p; columns = c; told = [] }
run train (x ∷ xs) p c =
    let o = call_of train x p c in
    let rest = run train xs o.answer.path o.columns in
    record { path = rest.path; columns = rest.columns; told = record { call = x; was_done = is_done o.answer.answer } ∷ rest.told }

-- ---- numbers of a table

-- every number is one of binary64, as the numbers of every column are
abbrev pub F64 : List Float → Type 0
F64 [] = Unit
F64 (x ∷ xs) = T (fits binary64 x) × F64 xs

pub record TableF64 (t : LinkTable) : Type 0 where
  pub lengths : F64 t.lengths
  pub elevs : F64 t.elevs
  pub headings : F64 t.headings

abbrev pub CallF64 : Call → Type 0
CallF64 (extend t ns) = TableF64 t
CallF64 (clear x) = Unit
CallF64 (reindex new) = Unit
CallF64 finish = Unit

abbrev pub CallsF64 : List Call → Type 0
CallsF64 [] = Unit
CallsF64 (x ∷ xs) = CallF64 x × CallsF64 xs

-- ---- demand 3

-- the index of link k's first record: so many do the links before it count
abbrev pub first_record : (LinkPoint → ℕ) → List LinkPoint → ℕ → ℕ
first_record count links k = total count (take k links)

-- R95: link k's offset is end k; its records, of which its link point counts `count`, are in the list and begin at that end
abbrev pub BeginAtEnds : (LinkPoint → ℕ) → List LinkPoint → List PathResCoeff → List Float → Type 0
BeginAtEnds count links rs ends =
    (k : ℕ) → k + 1 < length ends → (first_record count links k < length rs) × (coeff.offset_at rs (first_record count links k) ≡ get_or ends k nan)

-- what holds of a path against the book of its calls
pub record Kept (train : TrainParams) (path : Path) (b : Book) : Type 0 where
  -- there is an end: the path's beginning
  pub some_end : 0 < length b.ends
  -- R91: the link points stand at the book's ends, one for one
  pub links : map offset_of path.links ≡ b.ends
  -- R91: the speed points are to the bit the book's
  pub points : path.speeds ≡ b.points
  -- R92: the first stands at the path's beginning
  pub begins : offset_at path.speeds 0 ≡ first_end b.ends
  -- R92: and offsets never fall
  pub sorted : Sorted path.speeds
  -- R93 and R94, at every offset not before the path's beginning
  pub speeds : (x : Float) → T (Ieee.le (first_end b.ends) x) → PostedRight train b x (posted_at path.speeds x)
  -- R95: each link's grades and curves begin at its offset
  pub grades : BeginAtEnds (count_of false) path.links path.grades b.ends
  pub curves : BeginAtEnds (count_of true) path.links path.curves b.ends

-- a path made by `new`, after calls
abbrev pub ran_from_new : TrainParams → Columns → List Call → Ran
ran_from_new train columns calls = run train calls (new_of train columns).answer.path (new_of train columns).columns

-- Demand 3: after every list of calls on a path made by a `new` that is done, the path is as the book of the calls says.
abbrev pub Demand3 : Type 0
Demand3 =
    (train : TrainParams) (columns : Columns) (calls : List Call) → CallsF64 calls → is_done (new_of train columns).answer.answer ≡ true →
    Kept train (path_of (ran_from_new train columns calls).path (ran_from_new train columns calls).columns) (book_of train (ran_from_new train columns calls).told)

-- beside it: no call on such a path is refused by question 1 for the path's sake, or by question 2
abbrev pub StaysSound : Type 0
StaysSound =
    (train : TrainParams) (columns : Columns) (calls : List Call) → CallsF64 calls → is_done (new_of train columns).answer.answer ≡ true →
    (path_finite (ran_from_new train columns calls).path (ran_from_new train columns calls).columns ≡ true)
    × (sound (ran_from_new train columns calls).path (ran_from_new train columns calls).columns ≡ true)
