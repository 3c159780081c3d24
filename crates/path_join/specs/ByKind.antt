-- What the functions that `extend` calls and the proofs need: listed links joined one kind of record at a time, as the code goes, and columns that
-- hold them. No public contract of the planner cites it. Definitions only.
use Rattle.std.specs.Prelude.{ℕ, ◌≡◌, Bool, List, [], ◌∷◌, map, length, Float}
use Rattle.ieee.specs.Number.{+0}
use Rattle.column.specs.Entries.{filled}
use Rattle.column.specs.Records.{flat, four}
use Rattle.lookup.specs.declared.path_res_coeff.PathResCoeff.{PathResCoeff}
use Rattle.link.specs.declared.train_params.TrainParams.{TrainParams}
use Rattle.link.specs.Table.{PowerLimit}
use Rattle.path.specs.declared.link_point.LinkPoint.{LinkPoint}
use Rattle.path.specs.Records.{offset_of, four_of}
use Rattle.path_stretches.specs.Powers.{HoldsPowers}
use Rattle.path_join.specs.Listed.{Rises, grade_end}
use Rattle.path_join.specs.Joined.{join_point, join_records, join_powers}

unfoldable pub joined_points : List ℕ → List Float → List LinkPoint → List ℕ → List LinkPoint
unfolding join_point
joined_points links lengths ps [] = ps
joined_points links lengths ps (n ∷ ns) = joined_points links lengths (join_point links lengths ps n) ns

unfoldable pub joined_records : Bool → TrainParams → Rises → List Float → Float → List PathResCoeff → List ℕ → List PathResCoeff
unfolding join_records grade_end
joined_records curves train r headings base rs [] = rs
joined_records curves train r headings base rs (n ∷ ns) = joined_records curves train r headings (grade_end r base n) (join_records curves train r headings base rs n) ns

unfoldable pub joined_powers : Rises → List Float → List ℕ → Float → List PowerLimit → List ℕ → List PowerLimit
unfolding join_powers grade_end
joined_powers r pool districts base ls [] = ls
joined_powers r pool districts base ls (n ∷ ns) = joined_powers r pool districts (grade_end r base n) (join_powers r.links pool districts base ls n) ns

-- two columns hold the link points ps, and zeros past them
pub record HoldsPoints (os : List Float) (ns : List ℕ) (ps : List LinkPoint) : Type 0 where
  pub offsets : os ≡ filled +0 (length os) (map offset_of ps)
  pub numbers : ns ≡ filled 0 (length ns) (flat four (map four_of ps))

-- two columns hold the power limits ls, and zeros past them; their count is r
pub record PowersLaid (ws : List Float) (ds : List ℕ) (r : ℕ) (ls : List PowerLimit) : Type 0 where
  pub count : r ≡ length ls
  pub holds : HoldsPowers ws ds ls
