-- Question 8 carried from link to link: what one link answers, and the first that fails of those from position k on.
use Prim.Native.Nat.{ℕ, ◌+◌, ◌≤◌, ◌<◌}
use native.Mathlib.Numerals.{add-one}
use mathlib.Core.Path.{◌≡◌, refl, sym, ap, ap₂, ◌∙◌}
use mathlib.Core.Bool.{Bool, true, false, ◌&&◌}
use mathlib.Core.List.{List}
use lib.ListN.{length, get_or, drop, drop_of_length-le}
use lib.Ieee as Ieee
use lib.Ieee.{Float}
use lib.Ieee.Scale.{finite}
use Rattle.ieee.specs.Number.{◌⊕◌}
use Rattle.link.specs.declared.train_params.TrainParams.{TrainParams}
use Rattle.link.specs.declared.network.LinkNumbers.{LinkNumbers}
use Rattle.link.specs.Lists.{every, up_from, first_no_from}
use Rattle.link.specs.Table.{LinkTable, sample_at, power_at, numbers_of}
use Rattle.path_speeds.specs.Limits.{sets_of, finite_at}
use Rattle.path_stretches.specs.declared.stretch.Stretch.{Stretch}
use Rattle.path_stretches.specs.declared.stretch.StretchEnd.{StretchEnd}
use Rattle.path_stretches.proofs.StretchSteps.{ended, cond_none, ended-told, not-ended}
use Rattle.std.specs.Prelude.{Option, Some, None}
use Rattle.std.proofs.lemmas.Option.{cond_some}
use mathlib.Core.Bool.{and-false, cond}
use Rattle.path_stretches.specs.Stretches.{stretches, is_finite}
use Rattle.path_stretches.specs.Powers.{power_finite}
use Rattle.path_join.specs.Listed.{length_at, powers_at}
use Rattle.path_join.specs.declared.path_end.PathEnd.{PathEnd}
use Rattle.path_join.specs.Sums.{path_end, grades_at, curves_at, path_end_after, sums_finite, sums_from}
use Rattle.path_join.specs.Walked.{walked}
use Rattle.path_join.proofs.Left.{left-next}

never : (a b : Bool) → (a && (b && false)) ≡ false
never true b = and-false b
never false b = refl

module _ (train : TrainParams) (own : Float) (t : LinkTable) (at : PathEnd) where
  -- one link, as the code walks it: l are its numbers
  module _ (n : ℕ) {l : LinkNumbers} {long : Float} (e : l ≡ numbers_of t.links n) (f : long ≡ length_at t.lengths n) where
    abbrev grades_read : List Stretch
    grades_read = stretches false train at.grade.0 at.grade_net.0 long (up_from (sample_at t.elevs) l.elevs_first l.elevs_count)

    abbrev curves_read : List Stretch
    curves_read = stretches true train at.grade.0 at.curve_net.0 long (up_from (sample_at t.headings) l.headings_first l.headings_count)

    grades-same : grades_read ≡ grades_at train t at n
    grades-same = rw (e, f)

    curves-same : curves_read ≡ curves_at train t at n
    curves-same = rw (e, f)

    -- its grades, or its curves, are not all finite
    pub no-grades : {slopes : Option StretchEnd} → slopes ≡ ended at.grade.0 at.grade_net.0 grades_read → slopes ≡ None → None ≡ walked train own t at n
    unfolding sums_finite
    no-grades g h =
        let no = not-ended at.grade.0 at.grade_net.0 (grades_at train t at n) (ap (ended at.grade.0 at.grade_net.0) (sym grades-same) ∙ sym g ∙ h) in
        let sums : sums_finite train own t at n ≡ false = rw no (never _ _) in
        sym (ap (λ (x : Bool). cond x (Some (path_end_after train t at n)) None) sums)

    pub no-curves : {bends : Option StretchEnd} → bends ≡ ended at.grade.0 at.curve_net.0 curves_read → bends ≡ None → None ≡ walked train own t at n
    unfolding sums_finite
    no-curves g h =
        let no = not-ended at.grade.0 at.curve_net.0 (curves_at train t at n) (ap (ended at.grade.0 at.curve_net.0) (sym curves-same) ∙ sym g ∙ h) in
        let both : (every is_finite (grades_at train t at n) && (every is_finite (curves_at train t at n) && every (power_finite at.grade.0) (powers_at t.links t.powers t.districts n))) ≡ false = rw no (and-false _) in
        let sums : sums_finite train own t at n ≡ false = rw both (never _ _) in
        sym (ap (λ (x : Bool). cond x (Some (path_end_after train t at n)) None) sums)

    -- both are: the rest decides
    pub walked-link :
        {laid far drawn : Bool} {slopes bends : Option StretchEnd} {s b : StretchEnd} (rest : Bool)
        → laid ≡ finite_at train own (sets_of t) at.link.0 n
        → slopes ≡ ended at.grade.0 at.grade_net.0 grades_read
        → slopes ≡ Some s
        → bends ≡ ended at.grade.0 at.curve_net.0 curves_read
        → bends ≡ Some b
        → drawn ≡ every (power_finite at.grade.0) (up_from (power_at t.powers t.districts) l.powers_first l.powers_count)
        → far ≡ finite (long ⊕ at.link.0)
        → (laid && ((far && Ieee.lt at.link.0 (long ⊕ at.link.0)) && drawn)) ≡ rest
        → cond rest (Some (path_end (long ⊕ at.link.0) s.offset.0 s.net.0 b.net.0)) None ≡ walked train own t at n
    unfolding sums_finite path_end_after
    walked-link {s = s} {b = b} rest e₃ e₄ f₄ e₅ f₅ e₆ e₇ r =
        let g = ended-told at.grade.0 at.grade_net.0 (grades_at train t at n) (ap (ended at.grade.0 at.grade_net.0) (sym grades-same) ∙ sym e₄ ∙ f₄) in
        let c = ended-told at.grade.0 at.curve_net.0 (curves_at train t at n) (ap (ended at.grade.0 at.curve_net.0) (sym curves-same) ∙ sym e₅ ∙ f₅) in
        let ends : path_end (long ⊕ at.link.0) s.offset.0 s.net.0 b.net.0 ≡ path_end_after train t at n = rw (← g.1, ← c.1, f) in
        let sums : rest ≡ sums_finite train own t at n = sym r ∙ rw (e₃, e₇, e₆, e, f, g.0, c.0) in
        ap₂ (λ (x : Bool) (y : PathEnd). cond x (Some y) None) sums ends

  -- ---- the first that fails of the links from position k on; w is what link k answers
  module _ (ns : List ℕ) (k : ℕ) where
    module _ (h : k < length ns) {w : Option PathEnd} (e : w ≡ walked train own t at (get_or ns k 0)) where
      pub sums-pass : {after : PathEnd} → w ≡ Some after → first_no_from k (sums_from train own t at (drop k ns)) ≡ first_no_from (k + 1) (sums_from train own t after (drop (k + 1) ns))
      unfolding first_no_from sums_from
      sums-pass f =
          let p = cond_some (sums_finite train own t at (get_or ns k 0)) _ _ (sym e ∙ f) in
          rw (left-next ns k h, p.0, p.1, add-one k)

      pub sums-fail : w ≡ None → first_no_from k (sums_from train own t at (drop k ns)) ≡ Some k
      unfolding first_no_from sums_from
      sums-fail f = rw (left-next ns k h, cond_none (sums_finite train own t at (get_or ns k 0)) _ (sym e ∙ f))

    pub sums-end : length ns ≤ k → first_no_from k (sums_from train own t at (drop k ns)) ≡ None
    unfolding first_no_from sums_from
    sums-end h = rw (drop_of_length-le ns h)
