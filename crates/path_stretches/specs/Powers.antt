-- Power limits, R47: base is added to both offsets. path_tpc.rs. Definitions only.
use Rattle.std.specs.Prelude.{ℕ, ◌≡◌, Bool, ◌&&◌, List, map, length, Float}
use Rattle.std.specs.Float.Ieee.Scale.{finite}
use Rattle.ieee.specs.Number.{+0, ◌⊕◌}
use Rattle.column.specs.Entries.{filled}
use Rattle.column.specs.Records.{flat, three}
use Rattle.link.specs.Table.{PowerLimit}
use Rattle.path.specs.Records.{three_of}

abbrev pub placed_power : Float → PowerLimit → PowerLimit
placed_power base p =
    record { limit = record { start = base ⊕ p.limit.start; end = base ⊕ p.limit.end; value = p.limit.value }; district = p.district }

-- question 8: both sums are finite
abbrev pub power_finite : Float → PowerLimit → Bool
power_finite base p = finite (base ⊕ p.limit.start) && finite (base ⊕ p.limit.end)

-- two columns hold the limits ls, and zeros past them
pub record HoldsPowers (ws : List Float) (ds : List ℕ) (ls : List PowerLimit) : Type 0 where
  pub powers : ws ≡ filled +0 (length ws) (flat three (map three_of ls))
  pub districts : ds ≡ filled 0 (length ds) (map (λ p. p.district) ls)
