-- `extend`, R38 to R49: links are joined to a path's end. path_tpc.rs. Definitions only.
use Rattle.std.specs.Prelude.{ℕ, ◌-◌, cond, List, [], ◌∷◌, leb, Float, Option, Some, None}
use Rattle.std.proofs.Math.ListN as list
use Rattle.link.specs.declared.train_params.TrainParams.{TrainParams}
use Rattle.link.specs.Lists.{first_no}
use Rattle.link.specs.Train.{length_of}
use Rattle.link.specs.Table.{LinkTable}
use Rattle.link.specs.Questions.{question5}
use Rattle.path.specs.declared.path_tpc.PathTpc.{PathTpc}
use Rattle.answer.specs.declared.Answer.{Answer}
use Rattle.path.specs.declared.link_point.LinkPoint.{LinkPoint}
use Rattle.path.specs.Records.{Columns, number_of, link_point_at, path_of}
use Rattle.path.specs.Answers.{ask, ask_each, in_turn, links_answer, Outcome, outcome}
use Rattle.path.specs.Sound.{path_answer, train_finite, is_open}
use Rattle.path_join.specs.Joined.{join_all, started}
use Rattle.path_join.specs.Fit.{records_fit}
use Rattle.path_join.specs.Sums.{path_end_of, sums_from}

-- question 5: the first listed link follows the path's last one, where the path has a link
unfoldable pub followed : List ℕ → List LinkPoint → List ℕ → Option ℕ
followed links ps ns = question5 links (cond (leb 2 (list.length ps)) (Some (number_of (link_point_at ps (list.length ps - 2)))) None) ns

-- questions 8 and 9, for a train of this length
unfoldable pub sums_answer : TrainParams → Float → LinkTable → List ℕ → PathTpc → Columns → Answer
sums_answer train length t ns p c =
    in_turn (
    ask_each 8 (first_no (sums_from train length t (path_end_of (started t (path_of p c) ns)) ns))
    ∷ ask 9 (records_fit train t ns p c)
    ∷ [])

unfoldable pub extend_answer : TrainParams → LinkTable → List ℕ → PathTpc → Columns → Answer
unfolding followed sums_answer
extend_answer train t ns p c =
    in_turn (
    path_answer (train_finite train) p c
    ∷ ask 3 (is_open p)
    ∷ links_answer t train.train_type (followed t.links (path_of p c).links ns) ns
    ∷ sums_answer train (length_of train) t ns p c
    ∷ [])

unfoldable pub extend_of : TrainParams → LinkTable → List ℕ → PathTpc → Columns → Outcome
unfolding extend_answer
extend_of train t ns p c = outcome (extend_answer train t ns p c) p c (join_all train t (started t (path_of p c) ns) ns)
