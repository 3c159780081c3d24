-- `finish`: refused, and done.
use Prim.Native.Nat.{ℕ, suc, ◌+◌, ◌-◌, ◌*◌, ◌≤◌, ◌<◌}
use native.Mathlib.Omega.{arith}
use mathlib.Core.Path.{◌≡◌, refl, sym, ap, ap₂, ◌∙◌}
use mathlib.Core.Bool.{Bool, true, false, ◌&&◌}
use mathlib.Core.List.{List, [], ◌∷◌}
use lib.ListN.{length, length-append}
use lib.Ieee.{Float}
use Rattle.ieee.specs.Number.{+0}
use Rattle.column.specs.Entries.{filled}
use Rattle.column.specs.Records.{put_record, record_at, flat}
use Rattle.column.proofs.Bridge.{length-records, push-filled, read-filled}
use Rattle.lookup.specs.declared.path_res_coeff.PathResCoeff.{PathResCoeff}
use Rattle.lookup.specs.Coeff.{triple, no_coeff, coeffs}
use Rattle.lookup.proofs.Coeffs.{triple-lawful}
use Rattle.link.proofs.Known.{and_both}
use Rattle.path.specs.declared.path_tpc.PathTpc.{PathTpc}
use Rattle.answer.specs.declared.Answer.{Answer}
use Rattle.path.specs.Records.{Columns, columns, fits_grades, fits_curves, last_coeff, path_of, columns_of, record_of}
use Rattle.answer.specs.Answers.{done}
use Rattle.path.specs.Answers.{ask, left}
use Rattle.path.specs.Sound.{sound, path_answer, is_open}
use Rattle.path.proofs.ReadBack.{counted}
use Rattle.path.proofs.InTurn.{turn-no, turn-yes, turn-done, first-no, first-yes, first_done, last_one, judged-done, outcome-done}
use Rattle.path.proofs.Clauses.{within_all, times, sound-within, some-records, bounds}
use Rattle.path_ends.specs.Finish.{closing, closing_after, closed_record, finished_path, finish_answer, finish_of}

-- ---- one record more in a column that holds records
closed-column :
    (n : ℕ) (gs : List PathResCoeff)
    → 0 < length gs
    → 3 * suc (length gs) ≤ n
    → put_record triple (filled +0 n (flat triple gs)) (length gs) (closing_after (record_at triple (filled +0 n (flat triple gs)) (length gs - 1))) ≡ filled +0 n (flat triple (closing gs))
closed-column n gs some room =
    ap (λ (g : PathResCoeff). put_record triple (filled +0 n (flat triple gs)) (length gs) (closing_after g)) (read-filled triple triple-lawful +0 n gs (length gs - 1) no_coeff (omega arith))
    ∙ push-filled triple triple-lawful +0 n gs (closing_after (last_coeff gs)) room

length-closing : (gs : List PathResCoeff) → length (closing gs) ≡ length gs + 1
length-closing gs = length-append gs (closing_after (last_coeff gs) ∷ [])

closed_at :
    (n m : ℕ) (l : List Float) (gs : List PathResCoeff)
    → length gs ≡ m
    → l ≡ filled +0 n (flat triple gs)
    → 0 < m
    → 3 * (m + 1) ≤ n
    → put_record triple l m (closing_after (record_at triple l (m - 1))) ≡ filled +0 n (flat triple (closing gs))
closed_at n m l gs e h some room =
    ap₂ (λ (k : ℕ) (x : List Float). put_record triple x k (closing_after (record_at triple x (k - 1)))) (sym e) h ∙ closed-column n gs (omega arith) (omega arith)

-- columns with other grades and curves
abbrev with_records : List Float → List Float → Columns → Columns
with_records gs ks l = columns l.offsets l.numbers gs ks l.speeds l.powers l.districts

-- ---- the questions
module _ (p : PathTpc) (c : Columns) where
  abbrev pub fits : Bool
  fits = fits_grades (p.grade_count + 1) c && fits_curves (p.curve_count + 1) c

  -- those after question 2 and after question 3
  abbrev after3 : List Answer
  after3 = ask 9 fits ∷ []

  abbrev after2 : List Answer
  after2 = ask 3 (is_open p) ∷ after3

  -- r is the code's answer to questions 1 and 2
  module _ {r : Answer} (e : r ≡ path_answer true p c) where
    pub finish-first : (r.number ≡ 0 → ⊥) → finish_answer p c ≡ r
    unfolding finish_answer
    finish-first h = turn-no (path_answer true p c) after2 e h

    module _ (t : r.number ≡ 0) where
      pub finish-3 : is_open p ≡ false → finish_answer p c ≡ ask 3 false
      unfolding finish_answer
      finish-3 h = turn-yes (path_answer true p c) after2 e t ∙ first-no 2 after3 h

      pub finish-9 : is_open p ≡ true → finish_answer p c ≡ ask 9 fits
      unfolding finish_answer
      finish-9 h = turn-yes (path_answer true p c) after2 e t ∙ first-yes 2 after3 h ∙ last_one 8 fits

      pub few-records : (p.grade_count ≤ 16384) × (p.curve_count ≤ 16384)
      few-records =
          let b = bounds p c (sound-within p c (judged-done true p c e t).2).1 in
          (b.1, b.2)

  -- what a call that is not refused knows
  pub finish-done : done ≡ finish_answer p c → (sound p c ≡ true) × (fits ≡ true)
  unfolding finish_answer
  finish-done e =
      let first = turn-done (path_answer true p c) after2 (ap (λ (a : Answer). a.number) (sym e)) in
      let third = first_done 2 after3 (is_open p) first.1 in
      ((judged-done true p c refl first.0).2, (first_done 8 [] fits third.1).0)

  -- ---- what is left
  counts : record_of (finished_path (path_of p c)) ≡ closed_record p
  unfolding record_of finished_path
  counts = cc (counted p c, length-closing (path_of p c).grades, length-closing (path_of p c).curves)

  pub closed :
      {q : PathTpc} {os gs ks ss ws gs' ks' : List Float} {ns ds : List ℕ}
      → done ≡ finish_answer p c
      → columns os ns gs ks ss ws ds ≡ columns_of c (path_of p c)
      → gs' ≡ put_record triple gs p.grade_count (closing_after (record_at triple gs (p.grade_count - 1)))
      → ks' ≡ put_record triple ks p.curve_count (closing_after (record_at triple ks (p.curve_count - 1)))
      → q ≡ closed_record p
      → left (record { answer = done; path = q }) (columns os ns gs' ks' ss ws ds) ≡ finish_of p c
  unfolding finish_of columns_of finished_path path_of
  closed h e g k r =
      let known = finish-done h in
      let some = some-records p c (sound-within p c known.0).0 in
      let fit = and_both (fits_grades (p.grade_count + 1) c) (fits_curves (p.curve_count + 1) c) known.1 in
      let room-g = (within_all _ _ _ _ fit.0).1 in
      let room-k = (within_all _ _ _ _ fit.1).1 in
      let g' = closed_at (length c.grades) p.grade_count _ (coeffs p.grade_count c.grades) (length-records triple triple-lawful p.grade_count c.grades) (ap (λ (l : Columns). l.grades) e) some.0 (times 3 _ _ room-g) in
      let k' = closed_at (length c.curves) p.curve_count _ (coeffs p.curve_count c.curves) (length-records triple triple-lawful p.curve_count c.curves) (ap (λ (l : Columns). l.curves) e) some.1 (times 3 _ _ room-k) in
      let cols = ap (with_records _ _) e ∙ ap₂ (λ (a b : List Float). with_records a b (columns_of c (path_of p c))) (g ∙ g') (k ∙ k') in
      ap₂ (λ (q : PathTpc) (l : Columns). left (record { answer = done; path = q }) l) (r ∙ sym counts) cols ∙ sym (outcome-done (finish_answer p c) p c (finished_path (path_of p c)) (ap (λ (a : Answer). a.number) (sym h)))
