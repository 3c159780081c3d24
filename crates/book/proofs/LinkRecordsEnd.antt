-- Where the records of a link end that question 6 has passed: at the link's end, to the bit, and how many they are.
use Prim.Native.Nat.{ℕ, zero, suc, ◌*◌}
use mathlib.Core.Path.{◌≡◌, sym, ap, ◌∙◌}
use mathlib.Core.Bool.{Bool, true, false, not, false≢true}
use mathlib.Core.List.{List, [], ◌∷◌}
use lib.Dec.{T, not_T}
use lib.ListN.{length, get_or, drop}
use lib.Ieee as Ieee
use lib.Ieee.{Float, binary64, fits}
use Rattle.ieee.specs.Number.{+0, is_zero, ◌⊕◌}
use Rattle.ieee.proofs.Order.{of-true, eq-sym, lt-not-eq}
use Rattle.ieee.proofs.Same.{eq→same, eq-zero, zero-fits}
use Rattle.ieee.proofs.Sum.{add_comm}
use Rattle.column.specs.Records.{record_at}
use Rattle.link.specs.declared.train_params.TrainParams.{TrainParams}
use Rattle.link.specs.Lists.{every, up_from}
use Rattle.link.specs.Table.{LinkTable, Sample, sample_at, numbers_of, link_at}
use Rattle.link.specs.Questions.{rise_to, spans, sample_finite, samples_formed, well_formed}
use Rattle.link.proofs.Known.{and_both, formed}
use Rattle.link.proofs.Loops.{length-range}
use Rattle.path_stretches.specs.Stretches.{stretches, record_count, offset_after}
use Rattle.path_join.specs.Listed.{rises_of, length_at, samples_at, records_in, last_offset, end_from, grade_end}
use Rattle.book.specs.Demand.{F64, TableF64}
use Rattle.path_stretches.proofs.Ended.{length-stretches}
use Rattle.path_extend.proofs.StretchesEnd.{stretches-end}

-- ---- numbers of binary64

number_fits : (c : List Float) (k : ℕ) → F64 c → T (fits binary64 (get_or c k +0))
number_fits [] k h = zero-fits binary64 false
number_fits (x ∷ c) zero h = h.0
number_fits (x ∷ c) (suc k) h = number_fits c k h.1

rest-fits : (k : ℕ) (c : List Float) → F64 c → F64 (drop k c)
rest-fits zero c h = h
rest-fits (suc k) [] h = tt
rest-fits (suc k) (x ∷ c) h = rest-fits k c h.1

sample-fits : (c : List Float) → F64 c → (i : ℕ) → T (fits binary64 (sample_at c i).offset)
unfolding record_at
sample-fits c h i = number_fits (drop (2 * i) c) 0 (rest-fits (2 * i) c h)

-- the offsets of samples
abbrev AllFit : List Sample → Type 0
AllFit [] = Unit
AllFit (s ∷ ss) = T (fits binary64 s.offset) × AllFit ss

range-fits : (at : ℕ → Sample) → ((i : ℕ) → T (fits binary64 (at i).offset)) → (start n : ℕ) → AllFit (up_from at start n)
unfolding up_from
range-fits at h start zero = tt
range-fits at h start (suc n) = (h start, range-fits at h (suc start) n)

-- ---- the last sample stands at the length

module _ (long : Float) (fit : T (fits binary64 long)) (above : T (Ieee.lt +0 long)) where
  not-zero : T (not (is_zero long))
  not-zero = not_T (is_zero long) λ z. lt-not-eq +0 long above (eq-sym long +0 (rw (eq-zero long false) z))

  last-is : (o : Float) (ss : List Sample) → T (fits binary64 o) → AllFit ss → rise_to long o ss ≡ true → last_offset o ss ≡ long
  unfolding rise_to
  last-is o [] f fs e = sym (eq→same binary64 long o fit f (eq-sym o long (of-true e)) not-zero)
  last-is o (s ∷ ss) f fs e = last-is s.offset ss fs.0 fs.1 (and_both (Ieee.lt o s.offset) _ e).1

  spans-end : (base : Float) (ss : List Sample) → AllFit ss → spans long ss ≡ true → end_from base long ss ≡ long ⊕ base
  unfolding spans rise_to
  spans-end base [] fs e = add_comm binary64 base long
  spans-end base (s ∷ []) fs e = absurd (false≢true e)
  spans-end base (s ∷ r ∷ ss) fs e =
      let rise = (and_both (Ieee.eq s.offset +0) _ e).1 in
      ap (λ (o : Float). base ⊕ o) (last-is r.offset ss fs.1.0 fs.1.1 (and_both (Ieee.lt s.offset r.offset) _ rise).1)
      ∙ add_comm binary64 base long

  formed-end : (base : Float) (ss : List Sample) → AllFit ss → samples_formed long ss ≡ true → end_from base long ss ≡ long ⊕ base
  unfolding samples_formed
  formed-end base ss fs e = spans-end base ss fs (and_both (every sample_finite ss) _ e).1

-- ---- a link

-- how many records it has
pub records-many : (curves : Bool) (train : TrainParams) (t : LinkTable) (base net : Float) (n : ℕ)
    → length (stretches curves train base net (length_at t.lengths n) (samples_at curves (rises_of t) t.headings n)) ≡ records_in curves t.links n
records-many true train t base net n =
    let a = numbers_of t.links n in
    length-stretches true train base net (length_at t.lengths n) (samples_at true (rises_of t) t.headings n)
    ∙ ap record_count (length-range (sample_at t.headings) a.headings_first a.headings_count)
records-many false train t base net n =
    let a = numbers_of t.links n in
    length-stretches false train base net (length_at t.lengths n) (samples_at false (rises_of t) t.headings n)
    ∙ ap record_count (length-range (sample_at t.elevs) a.elevs_first a.elevs_count)

module _ (t : LinkTable) (n : ℕ) (whole : TableF64 t) (passed : well_formed t n ≡ true) where
  samples-end : (curves : Bool) (base : Float) → end_from base (length_at t.lengths n) (samples_at curves (rises_of t) t.headings n) ≡ length_at t.lengths n ⊕ base
  unfolding link_at
  samples-end true base =
      let a = numbers_of t.links n in
      let known = formed t n passed in
      formed-end (length_at t.lengths n) (number_fits t.lengths n whole.lengths) (of-true known.above) base (samples_at true (rises_of t) t.headings n)
      (range-fits (sample_at t.headings) (sample-fits t.headings whole.headings) a.headings_first a.headings_count) known.headings
  samples-end false base =
      let a = numbers_of t.links n in
      let known = formed t n passed in
      formed-end (length_at t.lengths n) (number_fits t.lengths n whole.lengths) (of-true known.above) base (samples_at false (rises_of t) t.headings n)
      (range-fits (sample_at t.elevs) (sample-fits t.elevs whole.elevs) a.elevs_first a.elevs_count) known.elevs

  -- its records end where the link does
  pub records-end : (curves : Bool) (train : TrainParams) (base net : Float)
      → offset_after base (stretches curves train base net (length_at t.lengths n) (samples_at curves (rises_of t) t.headings n)) ≡ length_at t.lengths n ⊕ base
  records-end curves train base net =
      stretches-end curves train base net (length_at t.lengths n) (samples_at curves (rises_of t) t.headings n) ∙ samples-end curves base

  pub grade-end : (base : Float) → grade_end (rises_of t) base n ≡ length_at t.lengths n ⊕ base
  unfolding grade_end
  grade-end base = samples-end false base
