-- The records of a lent column, and what laying stretches makes of it. Definitions only.
use Rattle.std.specs.Prelude.{ℕ, ◌+◌, ◌*◌, ◌≤◌, ◌≡◌, List, length}
use Rattle.lookup.specs.declared.path_res_coeff.PathResCoeff.{PathResCoeff}
use Rattle.lookup.specs.Coeff.{coeffs}
use Rattle.path_stretches.specs.declared.coeff_column.CoeffColumn.{CoeffColumn}

abbrev pub coeffs_of : CoeffColumn → List PathResCoeff
coeffs_of c = coeffs c.count c.col.now

-- the column has room for k records more
abbrev pub HasRoom : ℕ → CoeffColumn → Type 0
HasRoom k c = 3 * (c.count + k) ≤ length c.col.now

-- c becomes d: the same column, as long as before, with the records gs
pub record Becomes (c d : CoeffColumn) (gs : List PathResCoeff) : Type 0 where
  pub same : d.col.ghost_name ≡ c.col.ghost_name
  pub long : length d.col.now ≡ length c.col.now
  pub holds : coeffs_of d ≡ gs
