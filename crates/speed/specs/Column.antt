-- A column of speed points: (offset, speed) of each point, one after the other, and +0 past the last. Definitions only.
use Rattle.std.specs.Prelude.{ℕ, ◌*◌, ◌≤◌, ◌≡◌, List, [], ◌∷◌, length, get_or, Float}
use Rattle.ieee.specs.Number.{+0}
use Rattle.column.specs.Entries.{filled}
use Rattle.column.specs.Records.{Layout, records, flat}
use Rattle.speed.specs.Points.{Point, point}

-- two entries to a point
abbrev pub pair : Layout Float Point
pair = record { width = 2; pack = λ p. p.offset ∷ p.speed ∷ []; unpack = λ l. point (get_or l 0 +0) (get_or l 1 +0) }

-- the first n points of a column
abbrev pub points : ℕ → List Float → List Point
points n c = records pair n c

-- the column c holds the points ps, and +0 past them
pub record Holds (c : List Float) (ps : List Point) : Type 0 where
  pub fits : 2 * length ps ≤ length c
  pub is : c ≡ filled +0 (length c) (flat pair ps)

-- what a function that changes the points leaves: the column c with the points ps, and their count r
pub record Leaves (c : List Float) (r : ℕ) (ps : List Point) : Type 0 where
  pub count : r ≡ length ps
  pub holds : Holds c ps
