-- The words in which the laws of speed points are stated. Definitions only.
use Rattle.std.specs.Prelude.{Bool, ◌&&◌, cond, List, [], ◌∷◌, T, Float}
use Rattle.std.specs.Float.Ieee as Ieee
use Rattle.std.specs.Float.Ieee.Scale.{finite}
use Rattle.ieee.specs.Number.{real}
use Rattle.ieee.specs.Speed.{min_speed}
use Rattle.speed.specs.Points.{Point}

-- a limit from s up to but not including e covers x
abbrev pub covers : Float → Float → Float → Bool
covers s e x = Ieee.le s x && Ieee.lt x e

-- the speed u held to the limit's v at x: the smaller of the two where the limit covers x, and u elsewhere
abbrev pub held_to : Float → Float → Float → Float → Float → Float
held_to s e v x u = cond (covers s e x) (min_speed u v) u

-- a limit that may be laid on points that begin at o: it starts not before o, ends not before its start, and its speed is a number
pub record MayLay (o s e v : Float) : Type 0 where
  pub after : T (Ieee.le o s)
  pub forward : T (Ieee.le s e)
  pub number : T (real v)

-- each offset is of the kind O, each speed of the kind W
abbrev pub Every : (Float → Type 0) → (Float → Type 0) → List Point → Type 0
Every O W [] = Unit
Every O W (p ∷ ps) = O p.offset × W p.speed × Every O W ps

-- no NaN
abbrev pub Number : Float → Type 0
Number x = T (real x)

-- no NaN and no infinity
abbrev pub Finite : Float → Type 0
Finite x = T (finite x)
