-- `recalc_speeds`, R55 and R56: the limits of the links still present, laid anew. path_tpc.rs. Definitions only.
use Rattle.std.specs.Prelude.{ℕ, ◌+◌, ◌*◌, ◌/◌, Float, List, [], ◌∷◌, map, None}
use Rattle.std.proofs.Math.ListN as list
use Rattle.speed.specs.Points.{Point, point}
use Rattle.link.specs.declared.train_params.TrainParams.{TrainParams}
use Rattle.link.specs.Lists.{first_no}
use Rattle.link.specs.Train.{length_of, top_speed}
use Rattle.link.specs.Table.{LinkTable}
use Rattle.path.specs.declared.path_tpc.PathTpc.{PathTpc}
use Rattle.answer.specs.declared.Answer.{Answer}
use Rattle.path.specs.declared.link_point.LinkPoint.{LinkPoint}
use Rattle.path.specs.Records.{Columns, Path, is_within_all, offset_of, number_of, link_point_at, beginnings, path_of}
use Rattle.path.specs.Answers.{ask, ask_each, in_turn, links_answer, Outcome, outcome}
use Rattle.path.specs.Sound.{path_answer, train_finite, total}
use Rattle.path_speeds.specs.Limits.{SpeedSets, sets_of, finite_at, count_at, lay_links, point_finite, point_count}

-- from the first link point on at the top speed, and then the limits of the links that are present, for a train of this length
unfoldable pub laid_anew : TrainParams → Float → SpeedSets → List LinkPoint → LinkPoint → List Point
unfolding lay_links
laid_anew train length q present first = lay_links train length q (point (offset_of first) (top_speed train) ∷ []) present

abbrev pub recalced_speeds : TrainParams → Float → LinkTable → List LinkPoint → List Point
recalced_speeds train length t ls = laid_anew train length (sets_of t) (beginnings ls) (link_point_at ls 0)

unfoldable pub recalced_path : TrainParams → LinkTable → Path → Path
unfolding laid_anew
recalced_path train t path =
    record {
      links = path.links;
      grades = path.grades;
      curves = path.curves;
      speeds = recalced_speeds train (length_of train) t path.links;
      powers = path.powers;
      finished = path.finished;
    }

-- questions 8 and 9, for a train of this length: n is the length of the speed column
unfoldable pub limits_answer : TrainParams → Float → SpeedSets → List LinkPoint → ℕ → Answer
unfolding finite_at count_at
limits_answer train length q present n =
    in_turn (
    ask_each 8 (first_no (map (point_finite train length q) present))
    ∷ ask 9 (is_within_all (1 + 2 * total (point_count train q) present) 4096 (n / 2) (n / 2))
    ∷ [])

-- questions 1, 2, 4 and 6 to 9
unfoldable pub recalc_answer : TrainParams → LinkTable → PathTpc → Columns → Answer
unfolding limits_answer
recalc_answer train t p c =
    let present = beginnings (path_of p c).links in
    in_turn (
    path_answer (train_finite train) p c
    ∷ links_answer t train.train_type None (map number_of present)
    ∷ limits_answer train (length_of train) (sets_of t) present (list.length c.speeds)
    ∷ [])

unfoldable pub recalc_of : TrainParams → LinkTable → PathTpc → Columns → Outcome
unfolding recalc_answer recalced_path
recalc_of train t p c = outcome (recalc_answer train t p c) p c (recalced_path train t (path_of p c))
