-- A column of grades or curves that a path lends. Definitions only.
use Rattle.std.specs.Prelude.{◌*◌, ◌≤◌, ◌<◌, ◌≡◌, List, length, Float}
use Rattle.ieee.specs.Number.{+0}
use Rattle.column.specs.Entries.{filled}
use Rattle.column.specs.Records.{flat}
use Rattle.lookup.specs.declared.path_res_coeff.PathResCoeff.{PathResCoeff}
use Rattle.lookup.specs.Coeff.{triple}

-- the column c holds the records gs, one or more, and +0 past them
pub record Holds (c : List Float) (gs : List PathResCoeff) : Type 0 where
  pub some : 0 < length gs
  pub fits : 3 * length gs ≤ length c
  pub is : c ≡ filled +0 (length c) (flat triple gs)
