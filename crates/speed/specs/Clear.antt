-- What `clear` leaves of the speed points, once X is the path's kept beginning, R52. Definitions only.
use Rattle.std.specs.Prelude.{ℕ, ◌-◌, Bool, false, cond, List, [], ◌∷◌, drop, Float}
use Rattle.std.specs.Float.Ieee as Ieee
use Rattle.speed.specs.Points.{Point, point}
use Rattle.speed.specs.Insert.{first_from}

-- the first of the points is at X
abbrev pub is_at : Float → List Point → Bool
is_at X [] = false
is_at X (p ∷ ps) = Ieee.eq p.offset X

-- the first of the points moves to X
abbrev pub move_to : Float → List Point → List Point
move_to X [] = []
move_to X (p ∷ ps) = point X p.speed ∷ ps

-- R52: with a point at X the first at X stays, otherwise the last before X: the index of that point
-- Where every point lies after X, which no path has, the first stays.
unfoldable pub clear_from : List Point → Float → ℕ
unfolding first_from
clear_from ps X = cond (is_at X (drop (first_from X ps) ps)) (first_from X ps) (first_from X ps - 1)

-- The points from there on stay, and the first of them is then at X, to the bit.
unfoldable pub clear_points : List Point → Float → List Point
unfolding clear_from
clear_points ps X = move_to X (drop (clear_from ps X) ps)
