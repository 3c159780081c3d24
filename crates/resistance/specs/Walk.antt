-- A walk of a `Strap`, R79 to R81: `calc_res` at count positions, each a step further than the one before, all or nothing. Definitions only.
use Rattle.std.specs.Prelude.{ℕ, zero, suc, Bool, ◌&&◌, cond, List, [], ◌∷◌, Float}
use Rattle.std.specs.Float.Ieee.Scale.{finite}
use Rattle.ieee.specs.Number.{◌⊕◌}
use Rattle.lookup.specs.declared.lin_search_hint.Dir.{Dir}
use Rattle.answer.specs.Answers.{done}
use Rattle.path.specs.Answers.{is_done, ask, in_turn}
use Rattle.train.specs.declared.train_state.TrainState.{TrainState}
use Rattle.train.specs.Position.{front_of, back_of, state_finite}
use Rattle.resistance.specs.declared.strap.Strap.{Strap}
use Rattle.resistance.specs.declared.strap.StrapRes.{StrapRes}
use Rattle.resistance.specs.Listed.{list_answer}
use Rattle.resistance.specs.Strap.{refused_res, calc_res_of}

-- front and back moved on alike
abbrev pub further : Float → TrainState → TrainState
further step s =
    record {
      offset = record { 0 = front_of s ⊕ step };
      offset_back = record { 0 = back_of s ⊕ step };
      length = s.length;
      weight_static = s.weight_static;
      link_idx_front = s.link_idx_front;
      link_idx_back = s.link_idx_back;
      offset_in_link = s.offset_in_link;
    }

-- question 8 of the two sums of a step
abbrev pub step_finite : Float → TrainState → Bool
step_finite step s = finite (front_of s ⊕ step) && finite (back_of s ⊕ step)

-- what `calc_res` answers at the position s and, where it is done, at m more, each a step further; t is the strap that the positions before left
unfoldable pub walk_from : Dir → Float → ℕ → Strap → TrainState → ℕ → List Float → StrapRes
walk_from dir step zero t s n c = calc_res_of dir t s n c
walk_from dir step (suc m) t s n c =
    let r = calc_res_of dir t s n c in
    let a = in_turn (r.answer ∷ ask 8 (step_finite step s) ∷ []) in
    cond (is_done a) (walk_from dir step m r.strap (further step s) n c) (refused_res a t)

-- a walk over count positions: none leaves the strap as it came, with force 0
unfoldable pub positions : Dir → Float → ℕ → Strap → TrainState → ℕ → List Float → StrapRes
positions dir step zero t s n c = refused_res done t
positions dir step (suc m) t s n c = walk_from dir step m t s n c

-- the public call: questions 1 (list, position and step) and 2, then position by position; a refusal hands the strap back as it came
unfoldable pub walk_of : Dir → Float → ℕ → Strap → TrainState → ℕ → List Float → StrapRes
walk_of dir step count t s n c =
    let a = list_answer (state_finite s && finite step) n c in
    let r = positions dir step count t s n c in
    cond (is_done a) (cond (is_done r.answer) r (refused_res r.answer t)) (refused_res a t)
