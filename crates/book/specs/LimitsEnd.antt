-- A limit ends at its end, R184 to R187: what holds of the posted speed beside demand 3, after the same lists of calls. Definitions only.
use Rattle.std.specs.Prelude.{◌≡◌, ◌⊎◌, true, T, Float}
use mathlib.Core.List.{List, [], ◌∷◌, Memᴰ, Permᴰ}
use Rattle.std.specs.Float.Ieee as Ieee
use Rattle.std.specs.Float.{binary64}
use Rattle.std.specs.Float.Ieee.{fits}
use Rattle.ieee.specs.Number.{real, size}
use Rattle.speed.specs.Points.{Point}
use Rattle.speed_laws.specs.Words.{MayLay}
use Rattle.link.specs.declared.train_params.TrainParams.{TrainParams}
use Rattle.link.specs.Train.{top_speed}
use Rattle.link.specs.Table.{Limit}
use Rattle.path.specs.Records.{Columns, path_of}
use Rattle.path.specs.Answers.{is_done}
use Rattle.path_ends.specs.New.{new_of}
use Rattle.path_speeds.specs.Limits.{lowers, lay_all}
use Rattle.book.specs.Book.{Call, Book, first_end, book_of}
use Rattle.book.specs.Claims.{posted_at, covers_at, smallest_at}
use Rattle.book.specs.Demand.{CallsF64, ran_from_new}

-- ---- the posted speed

-- R185: the size of u is that of a limit laid that covers x
abbrev pub HeldByLimit : Float → List Limit → Float → Float → Type 0
HeldByLimit top limits x u = (l : Limit) × Memᴰ l limits × T (lowers top l) × T (covers_at l x) × T (Ieee.eq (size u) (size l.value))

-- the speed posted at x, u, against the book
pub record PostedExactly (train : TrainParams) (b : Book) (x u : Float) : Type 0 where
  -- R184: as a number it is the smallest of what holds at x, limits of dropped links among it
  pub smallest : T (Ieee.eq u (smallest_at (top_speed train) b.limits x))
  -- R185: the top speed or a limit that covers x holds it
  pub held : T (Ieee.eq (size u) (size (top_speed train))) ⊎ HeldByLimit (top_speed train) b.limits x u

-- at every offset not before the path's beginning, after every list of calls on a path made by a `new` that is done
abbrev pub Exact : Type 0
Exact =
    (train : TrainParams) (columns : Columns) (calls : List Call) → CallsF64 calls → is_done (new_of train columns).answer.answer ≡ true →
    (x : Float) → T (Ieee.le (first_end (book_of train (ran_from_new train columns calls).told).ends) x) →
    PostedExactly train (book_of train (ran_from_new train columns calls).told) x
    (posted_at (path_of (ran_from_new train columns calls).path (ran_from_new train columns calls).columns).speeds x)

-- ---- the order of limits

-- each speed is a number of binary64
abbrev pub SpeedsF64 : List Limit → Type 0
SpeedsF64 [] = Unit
SpeedsF64 (l ∷ ls) = (T (fits binary64 l.value) × T (real l.value)) × SpeedsF64 ls

-- R186: in any order limits give the same smallest of what holds, to the bit
abbrev pub OrderFree : Type 0
OrderFree = (top : Float) → T (real top) → (ls ms : List Limit) → SpeedsF64 ls → Permᴰ ls ms → (x : Float) → smallest_at top ls x ≡ smallest_at top ms x

-- a limit that starts not before o, ends not before its start, and whose speed is a number
abbrev pub MayBeLaid : Float → Limit → Type 0
MayBeLaid o l = MayLay o l.start l.end l.value

-- R187: laid on the points in either order, two limits post the same speed, as a number, at every offset not before o
abbrev pub SameEitherWay : List Point → Float → Type 0
SameEitherWay points o =
    (k l : Limit) → MayBeLaid o k → MayBeLaid o l → (x : Float) → T (Ieee.le o x) →
    T (Ieee.eq (posted_at (lay_all points (k ∷ l ∷ [])) x) (posted_at (lay_all points (l ∷ k ∷ [])) x))

-- on every path of demand 3, from its beginning on
abbrev pub EitherOrder : Type 0
EitherOrder =
    (train : TrainParams) (columns : Columns) (calls : List Call) → CallsF64 calls → is_done (new_of train columns).answer.answer ≡ true →
    SameEitherWay (path_of (ran_from_new train columns calls).path (ran_from_new train columns calls).columns).speeds
    (first_end (book_of train (ran_from_new train columns calls).told).ends)
