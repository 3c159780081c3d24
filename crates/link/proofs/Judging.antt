-- Questions 5 and 6 to a link in the order in which the code asks, and link numbers one by one.
use Rattle.std.proofs.Common.{◌≡◌, ℕ, zero, suc, ◌+◌, ◌-◌, ◌<◌, ◌≤◌, Bool, true, false, not, ◌&&◌, ◌||◌, eqb, List, length, get_or, sym, refl, ap, ◌∙◌, add-one, Option, Some, None}
use borrow.Author.Tests.{not-true, not-false}
use lib.Ieee as Ieee
use lib.Ieee.{Float}
use lib.Ieee.Scale.{finite}
use Rattle.ieee.specs.Number.{+0}
use Rattle.link.specs.declared.network.LinkNumbers.{LinkNumbers}
use Rattle.link.specs.Lists.{every, up_from, first_no_from}
use Rattle.link.specs.Table.{LinkTable, sample_at, limit_at, power_at, set_at, numbers_of, link_at}
use Rattle.link.specs.Questions.{apart, follows_last, contiguous, samples_formed, limit_formed, power_formed, set_formed, in_pools, well_formed, number_at, number_in, numbers_in}
use Rattle.link.specs.declared.questions.Numbers.{Numbers}
use Rattle.link.specs.declared.questions.Numbers.TheVariants.{Listed, OfPoints}
use Rattle.ieee.proofs.Same.{zero-literal}
use Rattle.link.proofs.Loops.{length-range, range-more, range_none}

-- what an answer was, by the test of its opposite
pub said-no : {answer asked : Bool} → answer ≡ asked → not answer ≡ true → asked ≡ false
said-no {answer} e t = sym e ∙ not-true answer t

pub said-yes : {answer asked : Bool} → answer ≡ asked → not answer ≡ false → asked ≡ true
said-yes {answer} e t = sym e ∙ not-false answer t

-- the same where the question was put to a, which is b
module _ {A : Type 0} (ok : A → Bool) (a b : A) where
  pub said-no-of : {answer : Bool} → answer ≡ ok a → a ≡ b → not answer ≡ true → ok b ≡ false
  said-no-of e q t = ap ok (sym q) ∙ said-no e t

  pub said-yes-of : {answer : Bool} → answer ≡ ok a → a ≡ b → not answer ≡ false → ok b ≡ true
  said-yes-of e q t = ap ok (sym q) ∙ said-yes e t

-- ---- question 5
-- an alternative, as the code tests it
pub apart-test : (idx alt : ℕ) → apart idx alt ≡ not (eqb idx alt && not (eqb alt 0))
apart-test idx alt = pick (eqb idx alt) (eqb alt 0)
  where
    pick : (same none : Bool) → (not same || none) ≡ not (same && not none)
    pick true true = refl
    pick true false = refl
    pick false none = refl

-- a link l at position k of the list, behind the link `last`
module _ (links : List ℕ) (at : ℕ → ℕ) (last : Option ℕ) (k end : ℕ) where
  module _ (h : k < end) (l : LinkNumbers) (own : l ≡ numbers_of links (at k)) where
    pub follow-pass : follows_last last l ≡ true → first_no_from k (contiguous links last (up_from at k (end - k))) ≡ first_no_from (k + 1) (contiguous links (Some l.idx_curr) (up_from at (k + 1) (end - (k + 1))))
    unfolding first_no_from contiguous
    follow-pass t = rw (range-more at k end h, ← own, t, add-one k)

    pub follow-fail : follows_last last l ≡ false → first_no_from k (contiguous links last (up_from at k (end - k))) ≡ Some k
    unfolding first_no_from contiguous
    follow-fail t = rw (range-more at k end h, ← own, t)

  pub follow-end : end ≤ k → first_no_from k (contiguous links last (up_from at k (end - k))) ≡ None
  unfolding first_no_from contiguous
  follow-end h = rw (range_none at k end h)

-- ---- question 6
-- a power limit is judged as a limit: its district does not matter
pub powers-limits : (powers : List Float) (districts : List ℕ) (first count : ℕ) → every power_formed (up_from (power_at powers districts) first count) ≡ every limit_formed (up_from (limit_at powers) first count)
unfolding every up_from
powers-limits powers districts first zero = refl
powers-limits powers districts first (suc n) = ap (λ (b : Bool). limit_formed (limit_at powers first) && b) (powers-limits powers districts (suc first) n)

-- question 6 of a link, in the order in which the code asks
pub well_formed_asks : (t : LinkTable) (n : ℕ) →
    well_formed t n
    ≡ (eqb (numbers_of t.links n).idx_curr n
    && (in_pools t.elevs t.headings t.powers t.districts (numbers_of t.links n)
    && (finite (get_or t.lengths n +0)
    && (Ieee.lt +0 (get_or t.lengths n +0)
    && (samples_formed (get_or t.lengths n +0) (up_from (sample_at t.elevs) (numbers_of t.links n).elevs_first (numbers_of t.links n).elevs_count)
    && (samples_formed (get_or t.lengths n +0) (up_from (sample_at t.headings) (numbers_of t.links n).headings_first (numbers_of t.links n).headings_count)
    && (every limit_formed (up_from (limit_at t.powers) (numbers_of t.links n).powers_first (numbers_of t.links n).powers_count)
    && every (set_formed t.codes t.values t.limits) (up_from (set_at t.sets n) 0 8))))))))
unfolding well_formed link_at
well_formed_asks t n = rw (powers-limits t.powers t.districts (numbers_of t.links n).powers_first (numbers_of t.links n).powers_count)

-- what the literal 0.0 is, under a name that an attribute can cite
pub ruleset literal_zero = (zero-literal)

-- ---- link numbers
-- number by number, n of them
pub in-order : (ns : Numbers) (n : ℕ) → n ≡ length (numbers_in ns) → up_from (number_in ns) 0 n ≡ numbers_in ns
in-order (Listed list count) n e = ap (up_from (number_at false list.now) 0) (e ∙ length-range (number_at false list.now) 0 count)
in-order (OfPoints list count) n e = ap (up_from (number_at true list.now) 0) (e ∙ length-range (number_at true list.now) 0 count)
