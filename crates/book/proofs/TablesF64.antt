-- Tables read out of f64 columns: their numbers are those of binary64, so demand 3 speaks of every call that the code makes.
use Prim.Native.Nat.{ℕ, zero, suc}
use mathlib.Core.Path.{◌≡◌}
use mathlib.Core.Bool.{true}
use mathlib.Core.List.{List, [], ◌∷◌}
use lib.Dec.{T}
use lib.ListN.{get_or}
use lib.Ieee.{Float, binary64, nan, fits}
use Rattle.link.specs.declared.train_params.TrainParams.{TrainParams}
use Rattle.path.specs.Records.{Columns, path_of}
use Rattle.path.specs.Answers.{is_done}
use Rattle.path_ends.specs.New.{new_of}
use Rattle.book.specs.Book.{Call, book_of}
use Rattle.book.specs.Book.Call.{extend, clear, reindex, finish}
use Rattle.book.specs.Demand.{F64, CallF64, CallsF64, Kept, ran_from_new}
use Rattle.book.proofs.DemandThree.{demand-3}

-- what the checker gives of every f64 column that a function is lent (`shared-slice-known`): each entry is a number of binary64
abbrev pub Column64 : List Float → Type 0
Column64 xs = (i : ℕ) → T (fits binary64 (get_or xs i nan))

-- a call whose table was read out of such columns
abbrev pub Held : Call → Type 0
Held (extend t ns) = Column64 t.lengths × Column64 t.elevs × Column64 t.headings
Held (clear x) = Unit
Held (reindex new) = Unit
Held finish = Unit

abbrev pub HeldCalls : List Call → Type 0
HeldCalls [] = Unit
HeldCalls (x ∷ xs) = Held x × HeldCalls xs

pub column-f64 : (xs : List Float) → Column64 xs → F64 xs
column-f64 [] h = tt
column-f64 (x ∷ xs) h = (h zero, column-f64 xs (λ i. h (suc i)))

pub call-f64 : (call : Call) → Held call → CallF64 call
call-f64 (extend t ns) h = record { lengths = column-f64 t.lengths h.0; elevs = column-f64 t.elevs h.1; headings = column-f64 t.headings h.2 }
call-f64 (clear x) h = tt
call-f64 (reindex new) h = tt
call-f64 finish h = tt

pub calls-f64 : (calls : List Call) → HeldCalls calls → CallsF64 calls
calls-f64 [] h = tt
calls-f64 (x ∷ xs) h = (call-f64 x h.0, calls-f64 xs h.1)

-- demand 3 of calls whose tables were read out of f64 columns, which every table of the code is
pub demand-3-held :
    (train : TrainParams) (columns : Columns) (calls : List Call) → HeldCalls calls → is_done (new_of train columns).answer.answer ≡ true
    → Kept train (path_of (ran_from_new train columns calls).path (ran_from_new train columns calls).columns) (book_of train (ran_from_new train columns calls).told)
demand-3-held train columns calls h e = demand-3 train columns calls (calls-f64 calls h) e
