-- What holds at an offset: the first limit that covers it, tail counted in, with the size posted there, or the top speed; and up to where. The lowest limit
-- that covers it. Definitions only.
use Rattle.std.specs.Prelude.{Bool, cond, ◌&&◌, List, Option, Some, None, find, fold, Float}
use Rattle.std.specs.Float.Ieee.{lt, eq}
use Rattle.ieee.specs.Number.{size}
use Rattle.ieee.specs.Speed.{smaller}
use Rattle.speed.specs.declared.laid.Laid.{Laid}
use Rattle.speed_laws.specs.Words.{covers}
use Rattle.view.specs.declared.holders.Held.{Held}
use Rattle.view.specs.declared.holders.Held.TheVariants.{Limit, Top}

-- a limit covers x, its tail counted in, with the size of v
unfoldable pub holds : Float → Float → Laid → Bool
holds x v l = covers l.start l.end x && eq (size l.value) (size v)

-- the limit found; where none is, the top speed if that is posted
abbrev pub held_as : Option Laid → Bool → Option Held
held_as (Some l) at_top = Some (Limit l)
held_as None at_top = cond at_top (Some Top) None

-- what holds v at x: the first of the limits that does, otherwise the top speed where v has its size
unfoldable pub held_by : List Laid → Float → Float → Float → Option Held
held_by limits x v top = held_as (find (holds x v) limits) (eq (size v) (size top))

-- the start of a limit with the size of v where it is behind x and before `to`, otherwise `to`
unfoldable pub sooner : Float → Float → Float → Laid → Float
sooner x v to l = cond (lt x l.start && eq (size l.value) (size v)) (smaller to l.start) to

-- the first start behind x, and before `to`, of one of the limits with the size of v; `to` where there is none
abbrev pub next_start : List Laid → Float → Float → Float → Float
next_start limits x to v = fold (sooner x v) to limits

-- where the part of a limit that x lies in ends, no later than `to`: its board up to b, then its tail up to t, behind which neither goes on
abbrev pub part_end : Float → Float → Float → Float → Float
part_end b t x to = cond (lt x b) (smaller (smaller b to) t) (smaller t to)

-- where a row that begins at x ends, no later than `to`: with the part of the limit that holds there, otherwise where the next limit starts
unfoldable pub piece_end : List Laid → Float → Float → Float → Option Held → Float
piece_end limits x to v (Some (Limit l)) = part_end l.board l.end x to
piece_end limits x to v (Some Top) = next_start limits x to v
piece_end limits x to v None = next_start limits x to v

-- a limit covers x, its tail counted in, with a size below that of v
unfoldable pub below : Float → Float → Laid → Bool
below x v l = covers l.start l.end x && lt (size l.value) (size v)

-- the speed of the limit found; v where none is
abbrev pub speed_or : Float → Option Laid → Float
speed_or v (Some l) = l.value
speed_or v None = v

-- a limit in the place of the one found, where it covers x with a smaller size
unfoldable pub lower : Float → Float → Option Laid → Laid → Option Laid
lower x v found l = cond (below x (speed_or v found) l) (Some l) found

-- of the limits the first with the smallest size among those that cover x with a size below that of v; none where none does
abbrev pub lowest : List Laid → Float → Float → Option Laid
lowest limits x v = fold (lower x v) None limits
