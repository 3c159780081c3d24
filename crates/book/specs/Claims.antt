-- What is claimed of a book: the part of demand 3 that is about books alone. Definitions only.
use Rattle.std.specs.Prelude.{◌<◌, ◌≡◌, ◌⊎◌, Bool, false, ◌&&◌, T, length, Float}
use mathlib.Core.List.{List, [], ◌∷◌, Memᴰ}
use Rattle.std.specs.Float.Ieee as Ieee
use Rattle.std.specs.Float.{binary64, nan}
use Rattle.std.specs.Float.Ieee.{fits}
use Rattle.std.specs.Float.Ieee.Scale.{finite}
use Rattle.ieee.specs.Number.{+0, sign, size}
use Rattle.ieee.specs.Speed.{min_speed}
use Rattle.speed.specs.Points.{Point, offset_at}
use Rattle.speed.specs.Posted.{posted, Sorted}
use Rattle.speed_laws.specs.Words.{covers, Every, Finite}
use Rattle.link.specs.declared.train_params.TrainParams.{TrainParams}
use Rattle.link.specs.Train.{top_speed}
use Rattle.link.specs.Table.{Limit}
use Rattle.path_speeds.specs.Limits.{lowers, cons_if}
use Rattle.book.specs.Book.{Book, first_end}

-- R18: the speed of the last point not after x
abbrev pub posted_at : List Point → Float → Float
posted_at points x = posted x points nan

-- R19: from its start up to, but not including, its end
abbrev pub covers_at : Limit → Float → Bool
covers_at l x = covers l.start l.end x

-- what holds at x beside the top speed: of the limits, those laid that cover it
abbrev pub holding_at : Float → List Limit → Float → List Limit
holding_at top [] x = []
holding_at top (l ∷ ls) x = cons_if (lowers top l && covers_at l x) l (holding_at top ls x)

-- the smallest of u and the speeds of these limits, by R17
abbrev pub smallest_of : Float → List Limit → Float
smallest_of u [] = u
smallest_of u (l ∷ ls) = smallest_of (min_speed u l.value) ls

-- R184: the smallest of what holds at x
abbrev pub smallest_at : Float → List Limit → Float → Float
smallest_at top limits x = smallest_of top (holding_at top limits x)

-- the speed posted at x, u, against the book
pub record PostedRight (train : TrainParams) (b : Book) (x u : Float) : Type 0 where
  -- R93: in size at most the top speed
  pub at-most-top : T (Ieee.le (size u) (top_speed train))
  -- R93: and at most each applying limit that covers the offset, limits of dropped links among them
  pub at-most-limits : (l : Limit) → Memᴰ l b.limits → T (covers_at l x) → T (Ieee.le (size u) (size l.value))
  -- R94: its size is that of the top speed, or of a limit laid that starts not after the offset
  pub attained :
      T (Ieee.eq (size u) (size (top_speed train)))
      ⊎ ((l : Limit) × Memᴰ l b.limits × T (lowers (top_speed train) l) × T (Ieee.le l.start x) × T (Ieee.eq (size u) (size l.value)))

-- a finite offset that fits binary64 and is not negative, its sign bit clear
pub record Offset (x : Float) : Type 0 where
  pub is_finite : T (finite x)
  pub is-f64 : T (fits binary64 x)
  pub not_negative : T (Ieee.le +0 x)
  pub no_sign : sign x ≡ false

abbrev pub Offsets : List Float → Type 0
Offsets [] = Unit
Offsets (e ∷ es) = Offset e × Offsets es

-- each is beyond the one before; o is the one before these
abbrev pub RisingFrom : Float → List Float → Type 0
RisingFrom o [] = Unit
RisingFrom o (e ∷ es) = T (Ieee.lt o e) × RisingFrom e es

abbrev pub Rising : List Float → Type 0
Rising [] = Unit
Rising (e ∷ es) = RisingFrom e es

pub record Claims (train : TrainParams) (b : Book) : Type 0 where
  -- there is an end, each is a finite offset, and each is beyond the one before
  pub some_end : 0 < length b.ends
  pub ends-good : Offsets b.ends
  pub ends-rise : Rising b.ends
  -- R92: the first point stands at the path's beginning, and offsets never fall
  pub starts : offset_at b.points 0 ≡ first_end b.ends
  pub in_order : Sorted b.points
  pub points-good : Every Offset Finite b.points
  -- each limit has a finite speed
  pub limits-good : (l : Limit) → Memᴰ l b.limits → T (finite l.value)
  -- R184, at every offset not before the path's beginning: from it R93 and R94 follow
  pub speeds : (x : Float) → T (Ieee.le (first_end b.ends) x) → T (Ieee.eq (posted_at b.points x) (smallest_at (top_speed train) b.limits x))
