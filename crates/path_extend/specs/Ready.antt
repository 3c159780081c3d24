-- What the functions below `extend` and the proofs need: the path's end read out of columns, and what joining needs known.
-- No public contract cites it. Definitions only.
use Rattle.std.specs.Prelude.{ℕ, ◌-◌, ◌≡◌, true, List, get_or, Float}
use Rattle.ieee.specs.Number.{+0}
use Rattle.column.specs.Records.{record_at}
use Rattle.lookup.specs.Coeff.{triple, stands_at, net_of}
use Rattle.link.specs.declared.train_params.TrainParams.{TrainParams}
use Rattle.link.specs.Lists.{every}
use Rattle.link.specs.Table.{LinkTable}
use Rattle.link.specs.Questions.{well_formed}
use Rattle.path.specs.declared.path_tpc.PathTpc.{PathTpc}
use Rattle.path.specs.declared.path_tpc.PathAnswer.{PathAnswer}
use Rattle.path.specs.Records.{Columns, path_of, columns_of}
use Rattle.answer.specs.Answers.{done}
use Rattle.path_speeds.specs.Limits.{sets_of, few_at}
use Rattle.path_join.specs.Joined.{starting_net}
use Rattle.path_join.specs.declared.path_end.PathEnd.{PathEnd}
use Rattle.path_join.specs.Sums.{path_end}
use Rattle.path_join.specs.Fit.{records_fit}

-- where the path stands when the first listed link is joined, read out of the columns
unfoldable pub start_path_end : PathTpc → List ℕ → List Float → List ℕ → List Float → List Float → List Float → PathEnd
start_path_end p links elevs ns offsets grades curves =
    let last = record_at triple grades (p.grade_count - 1) in
    path_end (get_or offsets (p.link_count - 1) +0) (stands_at last) (starting_net links elevs p.grade_count (net_of last) ns) (net_of (record_at triple curves (p.curve_count - 1)))

-- what joining the listed links needs known: the columns have zeros past the counts, the sets few conditions, the records fit, and each link is
-- well formed
pub record Ready (train : TrainParams) (t : LinkTable) (ns : List ℕ) (p : PathTpc) (c : Columns) : Type 0 where
  pub tidy : c ≡ columns_of c (path_of p c)
  pub few : every (few_at train (sets_of t)) ns ≡ true
  pub fit : records_fit train t ns p c ≡ true
  pub own : every (well_formed t) ns ≡ true

-- "done", with the path's record
abbrev pub done_with : PathTpc → PathAnswer
done_with p = record { answer = done; path = p }
