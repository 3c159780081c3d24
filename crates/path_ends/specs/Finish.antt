-- `finish`, R54: path_tpc.rs. Definitions only.
use Rattle.std.specs.Prelude.{◌+◌, true, ◌&&◌, List, [], ◌∷◌, ◌++◌}
use Rattle.ieee.specs.Number.{+0, +∞}
use Rattle.lookup.specs.declared.path_res_coeff.PathResCoeff.{PathResCoeff}
use Rattle.lookup.specs.Coeff.{res_coeff_record, net_of}
use Rattle.path.specs.declared.path_tpc.PathTpc.{PathTpc}
use Rattle.answer.specs.declared.Answer.{Answer}
use Rattle.path.specs.Records.{Columns, Path, fits_grades, fits_curves, last_coeff, path_of}
use Rattle.path.specs.Answers.{ask, in_turn, Outcome, outcome}
use Rattle.path.specs.Sound.{path_answer, is_open}

-- the record at +infinity after the last one: its coefficient is 0, its net value the last one's
abbrev pub closing_after : PathResCoeff → PathResCoeff
closing_after last = res_coeff_record +∞ +0 (net_of last)

-- R54: a grade and a curve at +infinity
abbrev pub closing : List PathResCoeff → List PathResCoeff
closing gs = gs ++ closing_after (last_coeff gs) ∷ []

unfoldable pub finished_path : Path → Path
finished_path path =
    record {
      links = path.links;
      grades = closing path.grades;
      curves = closing path.curves;
      speeds = path.speeds;
      powers = path.powers;
      finished = true;
    }

-- its record, where p is the record before
abbrev pub closed_record : PathTpc → PathTpc
closed_record p =
    record {
      link_count = p.link_count;
      grade_count = p.grade_count + 1;
      curve_count = p.curve_count + 1;
      speed_count = p.speed_count;
      power_count = p.power_count;
      is_finished = true;
    }

unfoldable pub finish_answer : PathTpc → Columns → Answer
finish_answer p c =
    in_turn (
    path_answer true p c
    ∷ ask 3 (is_open p)
    ∷ ask 9 (fits_grades (p.grade_count + 1) c && fits_curves (p.curve_count + 1) c)
    ∷ [])

unfoldable pub finish_of : PathTpc → Columns → Outcome
unfolding finish_answer finished_path
finish_of p c = outcome (finish_answer p c) p c (finished_path (path_of p c))
