-- Question 8 of `extend`, walked over the listed links without changing a path. Definitions only.
use Rattle.std.specs.Prelude.{ℕ, Bool, true, false, ◌&&◌, List, [], ◌∷◌, Float}
use Rattle.std.specs.Float.Ieee as Ieee
use Rattle.std.specs.Float.Ieee.Scale.{finite}
use Rattle.ieee.specs.Number.{◌⊕◌}
use Rattle.lookup.specs.Coeff.{stands_at, net_of}
use Rattle.link.specs.declared.train_params.TrainParams.{TrainParams}
use Rattle.link.specs.Lists.{every}
use Rattle.link.specs.Table.{LinkTable}
use Rattle.path.specs.Records.{Path, offset_of, end_point, last_coeff}
use Rattle.path_speeds.specs.Limits.{sets_of, finite_at}
use Rattle.path_stretches.specs.declared.stretch.Stretch.{Stretch}
use Rattle.path_stretches.specs.Stretches.{stretches, offset_after, net_after, is_finite}
use Rattle.path_stretches.specs.Powers.{power_finite}
use Rattle.path_join.specs.Listed.{length_at, elevs_at, headings_at, powers_at}
use Rattle.path_join.specs.declared.path_end.PathEnd.{PathEnd}

-- where the path stands when a link is joined: the last link point's offset, the last grade record's offset, and the last net values
abbrev pub path_end : Float → Float → Float → Float → PathEnd
path_end link grade net_of_grades net_of_curves =
    record { link = record { 0 = link }; grade = record { 0 = grade }; grade_net = record { 0 = net_of_grades }; curve_net = record { 0 = net_of_curves } }

unfoldable pub path_end_of : Path → PathEnd
path_end_of path =
    path_end (offset_of (end_point path.links)) (stands_at (last_coeff path.grades)) (net_of (last_coeff path.grades)) (net_of (last_coeff path.curves))

-- the stretches of link n
abbrev pub grades_at : TrainParams → LinkTable → PathEnd → ℕ → List Stretch
grades_at train t at n = stretches false train at.grade.0 at.grade_net.0 (length_at t.lengths n) (elevs_at t.links t.elevs n)

abbrev pub curves_at : TrainParams → LinkTable → PathEnd → ℕ → List Stretch
curves_at train t at n = stretches true train at.grade.0 at.curve_net.0 (length_at t.lengths n) (headings_at t.links t.headings n)

-- its end
abbrev pub end_at : LinkTable → PathEnd → ℕ → Float
end_at t at n = length_at t.lengths n ⊕ at.link.0

unfoldable pub path_end_after : TrainParams → LinkTable → PathEnd → ℕ → PathEnd
path_end_after train t at n =
    path_end (end_at t at n) (offset_after at.grade.0 (grades_at train t at n)) (net_after at.grade_net.0 (grades_at train t at n)) (net_after at.curve_net.0 (curves_at train t at n))

-- question 8 (R111), for a train of this length: every result is finite, and the link's end lies beyond its beginning
unfoldable pub sums_finite : TrainParams → Float → LinkTable → PathEnd → ℕ → Bool
sums_finite train length t at n =
    finite_at train length (sets_of t) at.link.0 n
    && ((finite (end_at t at n) && Ieee.lt at.link.0 (end_at t at n))
    && (every is_finite (grades_at train t at n) && (every is_finite (curves_at train t at n) && every (power_finite at.grade.0) (powers_at t.links t.powers t.districts n))))

unfoldable pub sums_from : TrainParams → Float → LinkTable → PathEnd → List ℕ → List Bool
unfolding sums_finite path_end_after
sums_from train length t at [] = []
sums_from train length t at (n ∷ ns) = sums_finite train length t at n ∷ sums_from train length t (path_end_after train t at n) ns
