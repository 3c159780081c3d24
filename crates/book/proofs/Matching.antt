-- A path beside the book of its calls: what is kept from call to call.
use Prim.Native.Nat.{ℕ, ◌+◌, ◌<◌}
use mathlib.Core.Path.{◌≡◌}
use mathlib.Core.Bool.{true, false}
use mathlib.Core.List.{List, map}
use lib.ListN.{length, get_or}
use lib.Ieee.{Float, nan}
use Rattle.lookup.specs.declared.path_res_coeff.PathResCoeff.{PathResCoeff}
use Rattle.lookup.specs.Coeff as coeff
use Rattle.path.specs.declared.link_point.LinkPoint.{LinkPoint}
use Rattle.path.specs.Records.{Path, offset_of}
use Rattle.path.specs.Sound.{total, spare, count_of}
use Rattle.book.specs.Book.{Book, last_end}
use Rattle.book.specs.Demand.{first_record}

-- link points at the ends, and the book's speed points
pub record Matched (path : Path) (b : Book) : Type 0 where
  pub links : map offset_of path.links ≡ b.ends
  pub points : path.speeds ≡ b.points

-- records of which each link point counts its own, as the grades, or the curves: each link's begin at its end, the one that no link counts stands at the
-- last end, and there are `over` more than the links count
pub record Begun (count : LinkPoint → ℕ) (links : List LinkPoint) (rs : List PathResCoeff) (ends : List Float) (over : ℕ) : Type 0 where
  pub begin : (k : ℕ) → k + 1 < length ends → coeff.offset_at rs (first_record count links k) ≡ get_or ends k nan
  pub last : coeff.offset_at rs (total count links) ≡ last_end ends
  pub counted : length rs ≡ total count links + over

-- both kinds
pub record Grounded (path : Path) (b : Book) : Type 0 where
  pub grades : Begun (count_of false) path.links path.grades b.ends (spare path.finished)
  pub curves : Begun (count_of true) path.links path.curves b.ends (spare path.finished)
