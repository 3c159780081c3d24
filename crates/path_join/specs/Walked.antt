-- What the functions of questions 8 and 9 answer on the way. No public contract cites it. Definitions only.
use Rattle.std.specs.Prelude.{ℕ, List, Float, Option, Some, None, cond}
use Rattle.link.specs.declared.train_params.TrainParams.{TrainParams}
use Rattle.link.specs.Table.{LinkTable}
use Rattle.path_join.specs.declared.path_end.PathEnd.{PathEnd}
use Rattle.path_join.specs.declared.fit.Counts.{Counts}
use Rattle.path_join.specs.Listed.{grades_in, curves_in, powers_in, sum_of}
use Rattle.path_join.specs.Sums.{path_end_after, sums_finite}

-- where the path stands after a link, if its sums are finite, for a train of this length
abbrev pub walked : TrainParams → Float → LinkTable → PathEnd → ℕ → Option PathEnd
walked train length t at n = cond (sums_finite train length t at n) (Some (path_end_after train t at n)) None

-- how many grades, curves and power limits the listed links have
unfoldable pub counts_of : List ℕ → List ℕ → Counts
counts_of links ns = record { grades = sum_of (grades_in links) ns; curves = sum_of (curves_in links) ns; powers = sum_of (powers_in links) ns }
