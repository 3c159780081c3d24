-- `new`: refused, and done.
use Prim.Native.Nat.{ℕ}
use mathlib.Core.Path.{◌≡◌, sym, ap, ◌∙◌}
use mathlib.Core.Bool.{Bool, true, false}
use mathlib.Core.List.{List, [], ◌∷◌}
use lib.Ieee.{Float}
use Rattle.ieee.specs.Number.{+0}
use Rattle.column.specs.Entries.{zero_from}
use Rattle.column.specs.Records.{put_record, flat, two}
use Rattle.column.proofs.Filling.{zeros-filled}
use Rattle.speed.proofs.PointColumn.{one-point}
use Rattle.link.specs.declared.train_params.TrainParams.{TrainParams}
use Rattle.link.specs.Train.{top_speed}
use Rattle.path.specs.declared.path_tpc.PathTpc.{PathTpc}
use Rattle.answer.specs.declared.Answer.{Answer}
use Rattle.path.specs.Records.{Columns, columns, columns_of, record_of}
use Rattle.answer.specs.Answers.{done}
use Rattle.path.specs.Answers.{ask, left}
use Rattle.path.specs.Sound.{train_finite, within_bounds}
use Rattle.path.proofs.InTurn.{first-no, first-yes, last_one, outcome-done}
use Rattle.path.proofs.Clauses.{room}
use Rattle.path_ends.specs.New.{new_path, start, new_answer, no_path, new_of}

module _ (train : TrainParams) (c : Columns) where
  module _ (t : train_finite train ≡ true) where
    room-asked : new_answer train c ≡ ask 9 (within_bounds start c)
    unfolding new_answer
    room-asked = first-yes 0 (ask 9 (within_bounds start c) ∷ []) t ∙ last_one 8 (within_bounds start c)

    made : within_bounds start c ≡ true → new_of train c ≡ left (record { answer = done; path = start }) (columns_of c (new_path train))
    unfolding new_of record_of new_path
    made e = outcome-done (new_answer train c) no_path c (new_path train) (ap (λ (a : Answer). a.number) (room-asked ∙ ap (ask 9) e))

  -- the columns as the code leaves them
  zeroed :
      within_bounds start c ≡ true
      → columns (zero_from +0 0 c.offsets) (zero_from 0 0 c.numbers) (zero_from +0 0 c.grades) (zero_from +0 0 c.curves)
      (put_record two (zero_from +0 0 c.speeds) 0 (record { 0 = +0; 1 = top_speed train })) (zero_from +0 0 c.powers) (zero_from 0 0 c.districts)
      ≡ columns_of c (new_path train)
  unfolding columns_of new_path flat
  zeroed e =
      let w = room start c e in
      cc (
        zeros-filled +0 1 c.offsets w.offsets,
        zeros-filled 0 4 c.numbers w.numbers,
        zeros-filled +0 3 c.grades w.grades,
        zeros-filled +0 3 c.curves w.curves,
        one-point c.speeds (record { 0 = +0; 1 = top_speed train }) w.speeds,
        zeros-filled +0 0 c.powers w.powers,
        zeros-filled 0 0 c.districts w.districts,
      )

  -- ---- as the code has it: t and u are the answers of the two questions
  module _ {t : Bool} (one : t ≡ train_finite train) where
    pub asked-1 : t ≡ false → ask 1 t ≡ new_answer train c
    unfolding new_answer
    asked-1 h = ap (ask 1) h ∙ sym (first-no 0 (ask 9 (within_bounds start c) ∷ []) (sym one ∙ h))

    module _ {u : Bool} {p : PathTpc} (yes : t ≡ true) (record_is : p ≡ start) (nine : u ≡ within_bounds p c) where
      within-start : u ≡ within_bounds start c
      within-start = nine ∙ ap (λ (q : PathTpc). within_bounds q c) record_is

      pub asked-9 : ask 9 u ≡ new_answer train c
      asked-9 = ap (ask 9) within-start ∙ sym (room-asked (sym one ∙ yes))

      pub made_by :
          {os gs ks ss ws ps : List Float} {ns ds : List ℕ}
          → u ≡ true
          → os ≡ zero_from +0 0 c.offsets
          → ns ≡ zero_from 0 0 c.numbers
          → gs ≡ zero_from +0 0 c.grades
          → ks ≡ zero_from +0 0 c.curves
          → ss ≡ zero_from +0 0 c.speeds
          → ps ≡ put_record two ss 0 (record { 0 = +0; 1 = top_speed train })
          → ws ≡ zero_from +0 0 c.powers
          → ds ≡ zero_from 0 0 c.districts
          → left (record { answer = done; path = p }) (columns os ns gs ks ps ws ds) ≡ new_of train c
      made_by v e₁ e₂ e₃ e₄ e₅ e₆ e₇ e₈ =
          let w = sym within-start ∙ v in
          cc (made (sym one ∙ yes) w, zeroed w, record_is, e₁, e₂, e₃, e₄, e₅, e₆, e₇, e₈)
