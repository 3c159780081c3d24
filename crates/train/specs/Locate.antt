-- `set_link_and_offset`, R74 and R75: train_state.rs. Definitions only.
use Rattle.std.specs.Prelude.{◌-◌, Bool, ◌&&◌, cond, List, [], ◌∷◌, length, Float, Result, Ok, Err}
use Rattle.std.specs.Float.Ieee as Ieee
use Rattle.std.specs.Float.Ieee.Scale.{finite}
use Rattle.ieee.specs.Number.{◌⊖◌}
use Rattle.lookup.specs.Search.{last_not_after}
use Rattle.path.specs.declared.path_tpc.PathTpc.{PathTpc}
use Rattle.answer.specs.declared.Answer.{Answer}
use Rattle.answer.specs.declared.Refusal.{Refusal}
use Rattle.path.specs.declared.link_point.LinkPoint.{LinkPoint}
use Rattle.path.specs.Records.{Columns, offset_of, number_of, link_point_at, path_of}
use Rattle.answer.specs.Answers.{done, refusal}
use Rattle.path.specs.Answers.{is_done, ask, in_turn}
use Rattle.path.specs.Sound.{path_answer}
use Rattle.train.specs.declared.train_state.TrainState.{TrainState}
use Rattle.train.specs.declared.locate.LinkFields.{LinkFields}
use Rattle.train.specs.declared.locate.Located.{Located}
use Rattle.train.specs.declared.set_link_and_offset.StateAnswer.{StateAnswer}
use Rattle.train.specs.Position.{front_of, back_of, state_finite}

-- R74: the last link point not after x
unfoldable pub point_behind : Float → List LinkPoint → LinkPoint
point_behind x ps = link_point_at ps (last_not_after (λ i. offset_of (link_point_at ps i)) x (length ps - 1))

-- how far the front is from the beginning of its link
abbrev pub offset_in_link_of : TrainState → List LinkPoint → Float
offset_in_link_of s ps = front_of s ⊖ offset_of (point_behind (front_of s) ps)

-- question 10 (R113): front and back not before the first link point
abbrev pub not_before_path : TrainState → List LinkPoint → Bool
not_before_path s ps = Ieee.le (offset_of (link_point_at ps 0)) (front_of s) && Ieee.le (offset_of (link_point_at ps 0)) (back_of s)

-- the three link fields as they came
abbrev pub located_as_before : TrainState → Answer → Located
located_as_before s a =
    record {
      answer = a;
      link_idx_front = s.link_idx_front;
      link_idx_back = s.link_idx_back;
      offset_in_link = s.offset_in_link;
    }

-- the three link fields of a position among these link points
unfoldable pub located_at : TrainState → List LinkPoint → Located
unfolding point_behind
located_at s ps =
    record {
      answer = done;
      link_idx_front = number_of (point_behind (front_of s) ps);
      link_idx_back = number_of (point_behind (back_of s) ps);
      offset_in_link = record { 0 = offset_in_link_of s ps };
    }

-- what a result says of the position s: the fields of a refused call are the record's own
abbrev pub located_told : TrainState → Result LinkFields Refusal → Located
located_told s (Ok l) = record { answer = done; link_idx_front = l.link_idx_front; link_idx_back = l.link_idx_back; offset_in_link = l.offset_in_link }
located_told s (Err e) = located_as_before s (refusal e)

-- questions 1, 2, 10 and 8
unfoldable pub locate_answer : TrainState → PathTpc → Columns → Answer
unfolding state_finite point_behind
locate_answer s p c =
    in_turn (
    path_answer (state_finite s) p c
    ∷ ask 10 (not_before_path s (path_of p c).links)
    ∷ ask 8 (finite (offset_in_link_of s (path_of p c).links))
    ∷ [])

-- the answer, with the three link fields to be written: those of a refused call are the record's own
unfoldable pub locate_of : TrainState → PathTpc → Columns → Located
unfolding locate_answer located_at
locate_of s p c = cond (is_done (locate_answer s p c)) (located_at s (path_of p c).links) (located_as_before s (locate_answer s p c))

-- the record with its three link fields written, and every other field as it was
abbrev pub placed : TrainState → Located → TrainState
placed s l =
    record {
      offset = s.offset;
      offset_back = s.offset_back;
      length = s.length;
      weight_static = s.weight_static;
      link_idx_front = l.link_idx_front;
      link_idx_back = l.link_idx_back;
      offset_in_link = l.offset_in_link;
    }

-- what C is told of a call on the position s: its new record, or s as it came with the refusal
abbrev pub state_told : TrainState → Result TrainState Refusal → StateAnswer
state_told s (Ok after) = record { answer = done; state = after }
state_told s (Err e) = record { answer = refusal e; state = s }
