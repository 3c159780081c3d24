-- Question 6 of limits, samples and sets, test by test as the code asks it, how many train types there are, and question 7.
use Rattle.std.proofs.Common.{◌≡◌, ℕ, suc, ◌+◌, ◌-◌, ◌*◌, ◌<◌, ◌≤◌, Bool, true, false, ◌&&◌, List, length, get_or, sym, refl, ap, ◌∙◌, ap₂, add-one, arith, lit<, Option, Some, None}
use mathlib.Core.Bool.{and-false}
use lib.Ieee as Ieee
use lib.Ieee.{Float}
use lib.Ieee.Scale.{finite}
use Rattle.ieee.specs.Number.{+0}
use Rattle.column.specs.Records.{record_at, two}
use Rattle.column.proofs.Filling.{get_d-within}
use Rattle.column.proofs.ByEntry.{two-entries, three-entries}
use Rattle.link.specs.declared.train_params.TrainType.{TrainType}
use Rattle.link.specs.declared.train_params.TrainType.TheVariants.{None as NoType, Freight, Passenger, Intermodal, HighSpeedPassenger, TiltTrain, Commuter}
use Rattle.link.specs.declared.speed_set.SpeedSet.{SpeedSet}
use Rattle.link.specs.Lists.{every, up_from}
use Rattle.link.specs.Train.{type_number}
use Rattle.link.specs.Table.{Sample, Limit, limit_at, set_at, set_for, SetTold, set_told}
use Rattle.link.specs.Questions.{rise_to, spans, sample_finite, samples_formed, limit_formed, has_set}
use Rattle.link.proofs.Loops.{range-more, range_none}

-- ---- records that lie in their columns, read entry by entry; d is what a read past the end would give
pub sample-read : (c : List Float) (i : ℕ) (d : Float) → 2 * i + 1 < length c → record { 0 = get_or c (2 * i) d; 1 = get_or c (2 * i + 1) d } ≡ record_at two c i
sample-read c i d h = rw (get_d-within c (2 * i) d +0 (omega arith), get_d-within c (2 * i + 1) d +0 h) (sym (two-entries c i))

pub limit-read : (c : List Float) (i : ℕ) (d : Float) → 3 * i + 2 < length c → record { start = get_or c (3 * i) d; end = get_or c (3 * i + 1) d; value = get_or c (3 * i + 2) d } ≡ limit_at c i
limit-read c i d h =
    rw (get_d-within c (3 * i) d +0 (omega arith), get_d-within c (3 * i + 1) d +0 (omega arith), get_d-within c (3 * i + 2) d +0 h, three-entries c i)

-- ---- limits: the three numbers, and then the order
numbers-first : (a b c d : Bool) → ((a && (b && c)) && d) ≡ (a && (b && (c && d)))
numbers-first true true c d = refl
numbers-first true false c d = refl
numbers-first false b c d = refl

pub limit-asks : (l : Limit) → ((finite l.start && (finite l.end && finite l.value)) && (Ieee.le +0 l.start && Ieee.le l.start l.end)) ≡ limit_formed l
unfolding limit_formed
limit-asks l = numbers-first (finite l.start) (finite l.end) (finite l.value) (Ieee.le +0 l.start && Ieee.le l.start l.end)

-- ---- samples, with an answer so far: one more, and none left
-- an answer, what is asked of a sample (f) and of those after it (g), and that the offset rises to it (r) and after it (s)
in-turn : (a f g r s : Bool) → (a && ((f && g) && (r && s))) ≡ ((a && (r && f)) && (g && s))
in-turn true true true r s = in-front r s
  where
    in-front : (r s : Bool) → (r && s) ≡ ((r && true) && s)
    in-front true s = refl
    in-front false s = refl
in-turn true true false true s = refl
in-turn true true false false s = refl
in-turn true false g true s = refl
in-turn true false g false s = refl
in-turn false f g r s = refl

abbrev pub rising_from : (ℕ → Sample) → Float → ℕ → ℕ → Float → Bool
rising_from at length i end o = every sample_finite (up_from at i (end - i)) && rise_to length o (up_from at i (end - i))

module _ (at : ℕ → Sample) (length o : Float) (i end : ℕ) (so_far : Bool) where
  pub rising-more : i < end → (so_far && rising_from at length i end o) ≡ ((so_far && (Ieee.lt o (at i).offset && (finite (at i).offset && finite (at i).value))) && rising_from at length (i + 1) end (at i).offset)
  unfolding every sample_finite rise_to
  rising-more h = rw (range-more at i end h) (in-turn so_far (finite (at i).offset && finite (at i).value) _ (Ieee.lt o (at i).offset) _)

  pub rising_none : end ≤ i → (so_far && rising_from at length i end o) ≡ (so_far && Ieee.eq o length)
  unfolding every rise_to
  rising_none h = rw (range_none at i end h)

-- ---- samples: none; one only; two or more
module _ (at : ℕ → Sample) (length : Float) (first count : ℕ) where
  pub samples-none : count ≡ 0 → samples_formed length (up_from at first count) ≡ true
  unfolding samples_formed up_from
  samples-none e = rw e

  pub samples-one : count ≡ 1 → samples_formed length (up_from at first count) ≡ false
  unfolding samples_formed every spans up_from
  samples-one e = ap (λ (n : ℕ). samples_formed length (up_from at first n)) e ∙ and-false (sample_finite (at first) && true)

  pub samples-more : 1 < count → samples_formed length (up_from at first count) ≡ ((Ieee.eq (at first).offset +0 && (finite (at first).offset && finite (at first).value)) && rising_from at length (first + 1) (first + count) (at first).offset)
  unfolding samples_formed every sample_finite spans up_from
  samples-more h =
      let e : count ≡ suc (suc (count - 2)) = omega arith in
      let less : first + count - (first + 1) ≡ suc (count - 2) = omega arith in
      let rest : up_from at (first + 1) (first + count - (first + 1)) ≡ up_from at (suc first) (suc (count - 2)) = ap₂ (up_from at) (add-one first) less in
      let o = (at first).offset in
      ap (λ (n : ℕ). samples_formed length (up_from at first n)) e
      ∙ in-turn true (finite o && finite (at first).value) _ (Ieee.eq o +0) _
      ∙ ap (λ (l : List Sample). (Ieee.eq o +0 && (finite o && finite (at first).value)) && (every sample_finite l && rise_to length o l)) (sym rest)

-- ---- there are seven types
pub type-below : (t : TrainType) → type_number t < 7
unfolding type_number
type-below NoType = lit< tt
type-below Freight = lit< tt
type-below Passenger = lit< tt
type-below Intermodal = lit< tt
type-below HighSpeedPassenger = lit< tt
type-below TiltTrain = lit< tt
type-below Commuter = lit< tt

-- ---- a set looked up
-- number and set tell two answers apart
same_set : (a b : Option SpeedSet) → set_told a ≡ set_told b → a ≡ b
same_set (Some s) (Some r) e = ap (λ (t : SetTold). Some t.set) e
same_set (Some s) None e = absurd (omega (arith, ap (λ (t : SetTold). t.number) e))
same_set None (Some s) e = absurd (omega (arith, ap (λ (t : SetTold). t.number) e))
same_set None None e = refl

pub set_is : (set : ℕ → SpeedSet) (type : TrainType) {r f : Option SpeedSet} → set_told r ≡ set_told (set_for set type) → r ≡ f → set_for set type ≡ f
set_is set type {r} e g = sym (same_set r (set_for set type) e) ∙ g

-- question 7 of link k, which is n, by the answer of the look-up
module _ (sets : List ℕ) (type : TrainType) {n k : ℕ} {r : Option SpeedSet} (e : set_told r ≡ set_told (set_for (set_at sets n) type)) (own : n ≡ k) where
  pub set-none : r ≡ None → has_set sets type k ≡ false
  unfolding has_set
  set-none f = rw (← own, ← e, f)

  pub set-some : {s : SpeedSet} → r ≡ Some s → has_set sets type k ≡ true
  unfolding has_set
  set-some f = rw (← own, ← e, f)
