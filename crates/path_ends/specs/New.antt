-- `new`, R37: path_tpc.rs. Definitions only.
use Rattle.std.specs.Prelude.{false, [], ◌∷◌}
use Rattle.ieee.specs.Number.{+0}
use Rattle.speed.specs.Points.{point}
use Rattle.lookup.specs.Coeff.{no_coeff}
use Rattle.link.specs.declared.train_params.TrainParams.{TrainParams}
use Rattle.link.specs.Train.{top_speed}
use Rattle.path.specs.declared.path_tpc.PathTpc.{PathTpc}
use Rattle.answer.specs.declared.Answer.{Answer}
use Rattle.path.specs.Records.{Columns, Path, no_link_point}
use Rattle.path.specs.Answers.{ask, in_turn, Outcome, outcome}
use Rattle.path.specs.Sound.{train_finite, within_bounds}

-- R37: one link point, grade and curve, all zero, and the speed point (0, top speed)
unfoldable pub new_path : TrainParams → Path
new_path train =
    record {
      links = no_link_point ∷ [];
      grades = no_coeff ∷ [];
      curves = no_coeff ∷ [];
      speeds = point +0 (top_speed train) ∷ [];
      powers = [];
      finished = false;
    }

-- its record
abbrev pub start : PathTpc
start = record { link_count = 1; grade_count = 1; curve_count = 1; speed_count = 1; power_count = 0; is_finished = false }

-- questions 1 and 9
unfoldable pub new_answer : TrainParams → Columns → Answer
new_answer train c = in_turn (ask 1 (train_finite train) ∷ ask 9 (within_bounds start c) ∷ [])

-- a refused `new` has no path
abbrev pub no_path : PathTpc
no_path = record { link_count = 0; grade_count = 0; curve_count = 0; speed_count = 0; power_count = 0; is_finished = false }

unfoldable pub new_of : TrainParams → Columns → Outcome
unfolding new_answer new_path
new_of train c = outcome (new_answer train c) no_path c (new_path train)
