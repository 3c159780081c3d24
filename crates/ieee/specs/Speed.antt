-- The smaller of two speeds, R17: speed_limit.rs. Definitions only.
use Rattle.std.specs.Prelude.{not, ◌&&◌, cond, Float}
use Rattle.std.specs.Float.Ieee.{neg, lt}
use Rattle.ieee.specs.Number.{sign, size}

-- the smaller of two, the first where they are equal
unfoldable pub smaller : Float → Float → Float
smaller x y = cond (lt y x) y x

-- R17: with no sign bit set the smaller, otherwise minus the smaller size
unfoldable pub min_speed : Float → Float → Float
unfolding smaller
min_speed a b = cond (not (sign a) && not (sign b)) (smaller a b) (neg (smaller (size a) (size b)))
