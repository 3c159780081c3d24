-- Question 9 of `extend`: the records of the listed links fit into the columns. Definitions only.
use Rattle.std.specs.Prelude.{ℕ, ◌+◌, ◌*◌, Bool, ◌&&◌, List}
use Rattle.std.proofs.Math.ListN as list
use Rattle.link.specs.declared.train_params.TrainParams.{TrainParams}
use Rattle.link.specs.Table.{LinkTable}
use Rattle.path.specs.declared.path_tpc.PathTpc.{PathTpc}
use Rattle.path.specs.Records.{Columns, fits_links, fits_grades, fits_curves, fits_speeds, fits_powers}
use Rattle.path_speeds.specs.Limits.{sets_of, count_at}
use Rattle.path_join.specs.Listed.{grades_in, curves_in, powers_in, sum_of}

-- question 9 (R112): speed points need the present count and two for each limit laid
unfoldable pub records_fit : TrainParams → LinkTable → List ℕ → PathTpc → Columns → Bool
records_fit train t ns p c =
    fits_links (p.link_count + list.length ns) c
    && (fits_grades (p.grade_count + sum_of (grades_in t.links) ns) c
    && (fits_curves (p.curve_count + sum_of (curves_in t.links) ns) c
    && (fits_speeds (p.speed_count + 2 * sum_of (count_at train (sets_of t)) ns) c
    && fits_powers (p.power_count + sum_of (powers_in t.links) ns) c)))
