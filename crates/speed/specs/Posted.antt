-- The speed posted at an offset, and the order of points. Definitions only.
use Rattle.std.specs.Prelude.{cond, List, [], ◌∷◌, T, Float}
use Rattle.std.specs.Float.Ieee as Ieee
use Rattle.speed.specs.Points.{Point}

-- the speed at x once the point p is passed, u before it
abbrev pub passed : Float → Point → Float → Float
passed x p u = cond (Ieee.le p.offset x) p.speed u

-- the speed of the last point at or before x, and u where there is none; from the first offset on u does not matter
abbrev pub posted : Float → List Point → Float → Float
posted x [] u = u
posted x (p ∷ ps) u = posted x ps (passed x p u)

-- the offsets do not fall, and the first is not before o
abbrev pub SortedFrom : Float → List Point → Type 0
SortedFrom o [] = Unit
SortedFrom o (p ∷ ps) = T (Ieee.le o p.offset) × SortedFrom p.offset ps

abbrev pub Sorted : List Point → Type 0
Sorted [] = Unit
Sorted (p ∷ ps) = SortedFrom p.offset ps
