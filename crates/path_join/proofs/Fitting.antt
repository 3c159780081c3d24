-- Question 9: where the list is too long, and the five kinds of record.
use Prim.Native.Nat.{ℕ, ◌+◌, ◌*◌, ◌<◌}
use native.Mathlib.Omega.{arith}
use mathlib.Core.Path.{◌≡◌}
use mathlib.Core.Bool.{Bool, false}
use mathlib.Core.List.{List}
use lib.ListN.{length}
use borrow.Author.Tests.{lt-leb}
use Rattle.link.specs.declared.train_params.TrainParams.{TrainParams}
use Rattle.link.specs.Table.{LinkTable}
use Rattle.path.specs.declared.path_tpc.PathTpc.{PathTpc}
use Rattle.path.specs.Records.{Columns}
use Rattle.path.specs.Sound.{within_bounds}
use Rattle.path_speeds.specs.Limits.{sets_of, count_at}
use Rattle.path_join.specs.Listed.{sum_of}
use Rattle.path_join.specs.declared.fit.Counts.{Counts}
use Rattle.path_join.specs.Fit.{records_fit}
use Rattle.path_join.specs.Walked.{counts_of}

module _ (train : TrainParams) (t : LinkTable) (ns : List ℕ) (p : PathTpc) (c : Columns) where
  pub too_long : 1025 < length ns → records_fit train t ns p c ≡ false
  unfolding records_fit
  too_long h = rw (lt-leb (p.link_count + length ns) 1025 (omega arith))

  -- the counts of the path with the listed links; `sum` and `laid` are what the code counts
  pub all_fit :
      (finished : Bool)
      → {sum : Counts} {laid : ℕ} {fit : Bool}
      → sum ≡ counts_of t.links ns
      → laid ≡ sum_of (count_at train (sets_of t)) ns
      → fit ≡ within_bounds (record {
        link_count = p.link_count + length ns;
        grade_count = p.grade_count + sum.grades;
        curve_count = p.curve_count + sum.curves;
        speed_count = p.speed_count + 2 * laid;
        power_count = p.power_count + sum.powers;
        is_finished = finished;
      }) c
      → fit ≡ records_fit train t ns p c
  unfolding records_fit counts_of within_bounds
  all_fit finished e₁ e₂ e₃ = rw (e₃, e₁, e₂)
