-- Speed points, (offset, speed): R9. Definitions only.
use Rattle.std.specs.Prelude.{ℕ, ◌-◌, Bool, ◌&&◌, List, ltb, get_or, set, Float}
use Rattle.std.specs.Float.Ieee as Ieee
use Rattle.std.specs.Float.{nan}
use Rattle.speed.specs.declared.speed_point.SpeedLimitPoint.{SpeedLimitPoint}

pub record Point : Type 0 where
  pub offset : Float
  pub speed : Float

abbrev pub point : Float → Float → Point
point o v = record { offset = o; speed = v }

-- a point as the code passes it
abbrev pub point_of : SpeedLimitPoint → Point
point_of p = point p.offset.0 p.speed_limit.0

-- what stands past the end of a list of points
abbrev pub nowhere : Point
nowhere = point nan nan

abbrev pub offset_at : List Point → ℕ → Float
offset_at ps i = (get_or ps i nowhere).offset

abbrev pub speed_at : List Point → ℕ → Float
speed_at ps i = (get_or ps i nowhere).speed

abbrev pub set_speed : ℕ → Float → List Point → List Point
set_speed i v ps = set ps i (point (offset_at ps i) v)

abbrev pub set_offset : ℕ → Float → List Point → List Point
set_offset i o ps = set ps i (point o (speed_at ps i))

-- there is a point before i, and its speed equals w
abbrev pub repeats : ℕ → Float → List Point → Bool
repeats i w ps = ltb 0 i && Ieee.eq (speed_at ps (i - 1)) w
