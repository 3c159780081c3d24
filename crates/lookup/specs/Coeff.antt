-- Grade and curve records in a column, three entries to a record, R59 and R63: path_res_coeff.rs. Definitions only.
use Rattle.std.specs.Prelude.{ℕ, zero, suc, ◌*◌, Bool, true, ◌&&◌, ◌||◌, List, [], ◌∷◌, take, drop, get_or, Float}
use Rattle.std.specs.Float.Ieee as Ieee
use Rattle.std.specs.Float.Ieee.Scale.{finite}
use Rattle.ieee.specs.Number.{+0, +∞, ◌⊕◌, ◌⊖◌, ◌⊗◌, all_finite}
use Rattle.column.specs.Records.{Layout, records}
use Rattle.lookup.specs.declared.path_res_coeff.PathResCoeff.{PathResCoeff}

-- a record by its offset, coefficient and net value
abbrev pub res_coeff_record : Float → Float → Float → PathResCoeff
res_coeff_record offset coefficient net = record { offset = record { 0 = offset }; res_coeff = record { 0 = coefficient }; res_net = record { 0 = net } }

abbrev pub stands_at : PathResCoeff → Float
stands_at g = g.offset.0

abbrev pub coefficient_of : PathResCoeff → Float
coefficient_of g = g.res_coeff.0

abbrev pub net_of : PathResCoeff → Float
net_of g = g.res_net.0

-- offset, coefficient and net value, side by side
abbrev pub triple : Layout Float PathResCoeff
triple =
    record {
      width = 3;
      pack = λ g. stands_at g ∷ coefficient_of g ∷ net_of g ∷ [];
      unpack = λ l. res_coeff_record (get_or l 0 +0) (get_or l 1 +0) (get_or l 2 +0);
    }

-- the first n records of a column
abbrev pub coeffs : ℕ → List Float → List PathResCoeff
coeffs n c = records triple n c

-- what stands past the end of a list
abbrev pub no_coeff : PathResCoeff
no_coeff = res_coeff_record +0 +0 +0

abbrev pub coeff_at : List PathResCoeff → ℕ → PathResCoeff
coeff_at rs i = get_or rs i no_coeff

abbrev pub offset_at : List PathResCoeff → ℕ → Float
offset_at rs i = stands_at (coeff_at rs i)

-- R63, one rounding a step
unfoldable pub res_val : PathResCoeff → Float → Float
res_val g offset = net_of g ⊕ coefficient_of g ⊗ (offset ⊖ stands_at g)

-- an offset is finite, or +infinity where the list may close so
abbrev pub closes_well : Bool → Float → Bool
closes_well closes o = finite o || (closes && Ieee.eq o +∞)

-- question 1 of the last record's entries, as many as there are
unfoldable pub closing_finite : Bool → List Float → Bool
closing_finite closes [] = true
closing_finite closes (o ∷ l) = closes_well closes o && all_finite l

-- question 1 (R104) of n records, read up to the count or the column's end
unfoldable pub coeffs_finite : Bool → ℕ → List Float → Bool
unfolding closing_finite
coeffs_finite closes zero c = true
coeffs_finite closes (suc m) c = all_finite (take (3 * m) c) && closing_finite closes (take 3 (drop (3 * m) c))
