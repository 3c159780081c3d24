-- What the remainder's function asks of its operands. Definitions only.
use Rattle.std.specs.Prelude.{Bool, not, ◌&&◌, Float}
use Rattle.std.specs.Float.Ieee.Scale.{finite}
use Rattle.std.specs.Float.Ieee.Positive.{positive}
use Rattle.ieee.specs.Number.{sign}

-- x is finite with a clear sign, y is finite and above 0
abbrev pub has_remainder : Float → Float → Bool
has_remainder x y = finite x && (not (sign x) && positive y)
