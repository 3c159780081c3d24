-- The points of a lent column, and what a change of them makes of it. Definitions only.
use Rattle.std.specs.Prelude.{ℕ, ◌+◌, ◌*◌, ◌≤◌, ◌≡◌, List, length}
use Rattle.speed.specs.Points.{Point}
use Rattle.speed.specs.Column.{points}
use Rattle.speed.specs.declared.speed_column.SpeedColumn.{SpeedColumn}

abbrev pub points_of : SpeedColumn → List Point
points_of c = points c.count c.col.now

-- the column has room for k points more
abbrev pub HasRoom : ℕ → SpeedColumn → Type 0
HasRoom k c = 2 * (c.count + k) ≤ length c.col.now

-- c becomes d: the same column, as long as before, with the points ps
pub record Becomes (c d : SpeedColumn) (ps : List Point) : Type 0 where
  pub same : d.col.ghost_name ≡ c.col.ghost_name
  pub long : length d.col.now ≡ length c.col.now
  pub holds : points_of d ≡ ps
