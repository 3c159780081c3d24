-- `reindex`: refused, and done.
use Rattle.std.specs.Prelude.{Option}
use Prim.Native.Nat.{ℕ, ◌-◌, ◌*◌, ◌≤◌, ◌<◌}
use mathlib.Core.Path.{◌≡◌, refl, sym, ap, ap₂, ◌∙◌}
use mathlib.Core.Bool.{Bool, true, false, not, ◌&&◌}
use mathlib.Core.List.{List, [], ◌∷◌, map}
use lib.Dec.{eqb, ltb}
use Rattle.std.proofs.Common.{ltb-false}
use Rattle.std.proofs.lemmas.List.{get_or_past}
use lib.ListN.{length, get_or, length-map}
use lib.Ieee.{Float}
use Rattle.ieee.specs.Number.{+0}
use Rattle.column.specs.declared.Four.{Four}
use Rattle.column.specs.Entries.{filled}
use Rattle.column.specs.Records.{records, four}
use Rattle.column.proofs.Bridge.{four-lawful, held-length, held-records, held-again}
use Rattle.link.specs.Lists.{first_no}
use Rattle.link.specs.Questions.{numbers}
use Rattle.path.specs.declared.path_tpc.PathTpc.{PathTpc}
use Rattle.answer.specs.declared.Answer.{Answer}
use Rattle.path.specs.declared.link_point.LinkPoint.{LinkPoint}
use Rattle.path.specs.Records.{Columns, columns, offset_of, four_of, number_of, link_points, beginnings, path_of, columns_of, record_of}
use Rattle.answer.specs.Answers.{done}
use Rattle.path.specs.Answers.{ask_each, left}
use Rattle.path.specs.Sound.{sound, one_of_each, within_bounds, path_answer}
use Rattle.path.proofs.ReadBack.{counted, link-fours}
use Rattle.path.proofs.InTurn.{turn-no, turn-yes, turn-done, last-each, judged-done, outcome-done}
use Rattle.path.proofs.Clauses.{sound-within, some-link, room}
use Rattle.path_reindex.specs.Reindex.{new_number, renumbers, renumbered_from, renumbered, reindexed_path, reindex_answer, reindex_of}
use Rattle.path_reindex.specs.Fours.{renumbered_fours, fours_column}
use Rattle.path.proofs.Numbers.{present-numbers}
use Rattle.path_reindex.proofs.Fours.{renumbered-fours}

-- ---- question 4 of one number
-- past the list the number is 0
pub has-number : (new : List ℕ) (n : ℕ) → renumbers new n ≡ not (eqb (get_or new n 0) 0)
unfolding renumbers
has-number new n = go (ltb n (length new)) refl
  where
    go : (b : Bool) → ltb n (length new) ≡ b → (b && not (eqb (get_or new n 0) 0)) ≡ not (eqb (get_or new n 0) 0)
    go true e = refl
    go false e = rw (get_or_past new n 0 (ltb-false n (length new) e))

-- ---- as many points, at their offsets
same-offsets-from : (last : ℕ) (new : List ℕ) (p : LinkPoint) (ps : List LinkPoint) → map offset_of (renumbered_from last new p ps) ≡ offset_of p ∷ map offset_of ps
unfolding renumbered_from
same-offsets-from last new p [] = refl
same-offsets-from last new p (q ∷ qs) = ap (λ (os : List Float). offset_of p ∷ os) (same-offsets-from (new_number new (number_of p)) new q qs)

pub same-offsets : (new : List ℕ) (ps : List LinkPoint) → map offset_of (renumbered new ps) ≡ map offset_of ps
unfolding renumbered
same-offsets new [] = refl
same-offsets new (p ∷ ps) = same-offsets-from (number_of p) new p ps

pub length-renumbered : (new : List ℕ) (ps : List LinkPoint) → length (renumbered new ps) ≡ length ps
length-renumbered new ps = sym (length-map (renumbered new ps) offset_of) ∙ ap length (same-offsets new ps) ∙ length-map ps offset_of

-- ---- the column of numbers
-- once it holds n points and zeros past them, it does so by its own records
module _ (n : ℕ) (ns : List ℕ) (fit : 4 * n ≤ length ns) where
  abbrev tidy : List ℕ
  tidy = fours_column (length ns) (records four n ns)

  pub holds : {l : List ℕ} → l ≡ tidy → l ≡ fours_column (length l) (records four n l)
  holds e = held-again four four-lawful 0 n ns fit e

  -- and then renumbered, it holds the points renumbered
  pub holds-new :
      (new : List ℕ) (os : List Float) {l m : List ℕ}
      → l ≡ tidy
      → m ≡ fours_column (length l) (renumbered_fours new (records four n l))
      → m ≡ fours_column (length ns) (map four_of (renumbered new (link_points n os ns)))
  holds-new new os e g =
      g
      ∙ ap₂ (λ (k : ℕ) (rs : List Four). fours_column k (renumbered_fours new rs)) (held-length four four-lawful 0 n ns fit e) (held-records four four-lawful 0 n ns fit e ∙ sym (link-fours n os ns))
      ∙ ap (fours_column (length ns)) (sym (renumbered-fours new (link_points n os ns)))

-- columns with other numbers
abbrev with_numbers : List ℕ → Columns → Columns
with_numbers ns l = columns l.offsets ns l.grades l.curves l.speeds l.powers l.districts

-- ---- the questions
module _ (new : List ℕ) (p : PathTpc) (c : Columns) where
  -- the numbers of the path's links
  abbrev link_numbers : List ℕ
  link_numbers = map number_of (beginnings (path_of p c).links)

  abbrev fourth : List Answer
  fourth = ask_each 4 (first_no (map (renumbers new) link_numbers)) ∷ []

  -- r is the code's answer to questions 1 and 2
  module _ {r : Answer} (e : r ≡ path_answer true p c) where
    pub reindex-first : (r.number ≡ 0 → ⊥) → reindex_answer new p c ≡ r
    unfolding reindex_answer
    reindex-first h = turn-no (path_answer true p c) fourth e h

    module _ (t : r.number ≡ 0) where
      pub some-points : 0 < p.link_count
      some-points = some-link p c (sound-within p c (judged-done true p c e t).2).0

      -- j is the code's answer to question 4
      pub reindex-4 : {j : Option ℕ} → j ≡ first_no (map (renumbers new) (numbers true c.numbers (p.link_count - 1))) → reindex_answer new p c ≡ ask_each 4 j
      unfolding reindex_answer
      reindex-4 g =
          turn-yes (path_answer true p c) fourth e t
          ∙ last-each 3 (first_no (map (renumbers new) link_numbers))
          ∙ ap (ask_each 4) (ap (λ (ns : List ℕ). first_no (map (renumbers new) ns)) (present-numbers p c) ∙ sym g)

  -- what a call that is not refused knows
  reindex-done : done ≡ reindex_answer new p c → sound p c ≡ true
  unfolding reindex_answer
  reindex-done e = (judged-done true p c refl (turn-done (path_answer true p c) fourth (ap (λ (a : Answer). a.number) (sym e))).0).2

  counts : record_of (reindexed_path new (path_of p c)) ≡ p
  unfolding record_of reindexed_path
  counts = cc (counted p c, length-renumbered new (path_of p c).links)

  -- ---- what is left where the call is done
  module _ (e : done ≡ reindex_answer new p c) where
    sizes : (one_of_each p ≡ true) × (within_bounds p c ≡ true)
    sizes = sound-within p c (reindex-done e)

    pub within : within_bounds p c ≡ true
    within = sizes.1

    -- the columns after `zero_rest`
    module _ {os gs ks ss ws : List Float} {ns ds : List ℕ} (zeroed : columns os ns gs ks ss ws ds ≡ columns_of c (path_of p c)) where
      tidied : ns ≡ tidy p.link_count c.numbers (room p c within).numbers
      unfolding columns_of path_of
      tidied = ap (λ (l : Columns). l.numbers) zeroed ∙ ap (fours_column (length c.numbers)) (link-fours p.link_count c.offsets c.numbers)

      pub ready : (0 < p.link_count) × (ns ≡ fours_column (length ns) (records four p.link_count ns))
      ready = (some-link p c sizes.0, holds p.link_count c.numbers (room p c within).numbers tidied)

      pub reindexed :
          {ns' : List ℕ}
          → ns' ≡ fours_column (length ns) (renumbered_fours new (records four p.link_count ns))
          → left (record { answer = done; path = p }) (columns os ns' gs ks ss ws ds) ≡ reindex_of new p c
      unfolding reindex_of columns_of reindexed_path path_of
      reindexed g =
          let after = columns_of c (path_of p c) in
          let offsets = ap (filled +0 (length c.offsets)) (sym (same-offsets new (path_of p c).links)) in
          let numbers = holds-new p.link_count c.numbers (room p c within).numbers new c.offsets tidied g in
          let cols = ap (with_numbers _) zeroed ∙ ap₂ (λ (o : List Float) (n : List ℕ). columns o n after.grades after.curves after.speeds after.powers after.districts) offsets numbers in
          ap₂ (λ (q : PathTpc) (l : Columns). left (record { answer = done; path = q }) l) (sym counts) cols
          ∙ sym (outcome-done (reindex_answer new p c) p c (reindexed_path new (path_of p c)) (ap (λ (a : Answer). a.number) (sym e)))
