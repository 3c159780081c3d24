-- Speed points laid anew: the first one in a column of zeros, and then the limits.
use Prim.Native.Nat.{ℕ, ◌≤◌}
use mathlib.Core.Path.{◌≡◌, refl, ap, ◌∙◌}
use mathlib.Core.List.{List, [], ◌∷◌}
use lib.ListN.{length}
use lib.Ieee.{Float}
use Rattle.ieee.specs.Number.{+0}
use Rattle.column.specs.Entries.{zero_from}
use Rattle.column.specs.Records.{put_record, two}
use Rattle.speed.specs.Points.{Point, point}
use Rattle.speed.specs.Column.{points, Holds, Leaves}
use Rattle.speed.proofs.PointColumn.{holds-points, holds-again, leaves_at, one-held}
use Rattle.link.specs.declared.train_params.TrainParams.{TrainParams}
use Rattle.link.specs.Train.{top_speed}
use Rattle.path.specs.declared.link_point.LinkPoint.{LinkPoint}
use Rattle.path.specs.Records.{offset_of}
use Rattle.path_speeds.specs.Limits.{SpeedSets, lay_links}
use Rattle.path_speeds.specs.Recalc.{laid_anew}

-- z is the column c zeroed, and d has its first point
module _ (begin top : Float) (c : List Float) (room : 2 ≤ length c) {z d : List Float} (zeroed : z ≡ zero_from +0 0 c) (put : d ≡ put_record two z 0 (record { 0 = begin; 1 = top })) where
  begun : Holds d (point begin top ∷ [])
  begun = rw (put, zeroed) (one-held c (record { 0 = begin; 1 = top }) room)

  pub begun-held : Holds d (points 1 d)
  begun-held = holds-again d (point begin top ∷ []) 1 begun refl

  pub begun-points : points 1 d ≡ point begin top ∷ []
  begun-points = holds-points d (point begin top ∷ []) 1 begun refl

pub laid-anew :
    (train : TrainParams) (long : Float) (q : SpeedSets) (present : List LinkPoint) (first : LinkPoint) {begin : Float} {ps : List Point} {d : List Float} {r : ℕ}
    → begin ≡ offset_of first
    → ps ≡ point begin (top_speed train) ∷ []
    → Leaves d r (lay_links train long q ps present)
    → Leaves d r (laid_anew train long q present first)
unfolding laid_anew
laid-anew train long q present first {d = d} {r = r} e f l =
    leaves_at d r _ _ l (ap (λ (ps : List Point). lay_links train long q ps present) (f ∙ ap (λ (o : Float). point o (top_speed train) ∷ []) e))
