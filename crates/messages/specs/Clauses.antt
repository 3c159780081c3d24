-- Which clause of question 6 (R109) a link fails, and which of question 5 (R108), as numbers. Definitions only.
use Rattle.std.specs.Prelude.{ℕ, zero, suc, ◌+◌, cond, ◌&&◌, List, ◌==◌, Float, Option, Some, None}
use Rattle.std.specs.Float.Ieee as Ieee
use Rattle.std.specs.Float.Ieee.Scale.{finite}
use Rattle.ieee.specs.Number.{+0}
use Rattle.link.specs.declared.network.LinkNumbers.{LinkNumbers}
use Rattle.link.specs.Lists.{every}
use Rattle.link.specs.Table.{LinkTable, link_at, set_at}
use Rattle.link.specs.Questions.{apart, in_pools, samples_formed, power_formed, set_formed}
use Rattle.messages.specs.declared.clauses.Clause.{Clause}
use Rattle.messages.specs.declared.clauses.Clause.TheVariants.{Number, Pools, Length, Heights, Headings, Powers, Set}
use Rattle.messages.specs.declared.clauses.Apart.{Apart}
use Rattle.messages.specs.declared.clauses.Apart.TheVariants.{OneBefore, OneNext, Elsewhere}

-- 8 and the first of k set places of link n from p on that is not well formed; 0 where all are
unfoldable pub set_clause : List ℕ → List ℕ → List Float → List Float → ℕ → ℕ → ℕ → ℕ
set_clause sets codes values limits n p zero = 0
set_clause sets codes values limits n p (suc k) =
    cond (set_formed codes values limits (set_at sets n p)) (set_clause sets codes values limits n (suc p) k) (8 + p)

-- the first clause that link n fails, in R109's order: 1 its own number, 2 the ranges in the pools, 3 its length, 4 its elevations, 5 its headings, 6 its power
-- limits, 8 and more a set place; 0 where it fails none
unfoldable pub clause_of : LinkTable → ℕ → ℕ
unfolding set_clause link_at in_pools samples_formed every
clause_of t n =
    let link = link_at t n in
    cond (link.numbers.idx_curr == n)
    (cond (in_pools t.elevs t.headings t.powers t.districts link.numbers)
    (cond (finite link.length && Ieee.lt +0 link.length)
    (cond (samples_formed link.length link.elevs)
    (cond (samples_formed link.length link.headings) (cond (every power_formed link.powers) (set_clause t.sets t.codes t.values t.limits n 0 8) 6) 5) 4) 3) 2) 1

-- why a link does not follow prev: 1 its two links before are one, 2 its two next links are one, 3 neither link before is prev
unfoldable pub apart_clause : LinkNumbers → ℕ
apart_clause link =
    cond (apart link.idx_prev link.idx_prev_alt) (cond (apart link.idx_next link.idx_next_alt) 3 2) 1

-- the number of a clause of question 6
abbrev pub clause_number : Clause → ℕ
clause_number Number = 1
clause_number Pools = 2
clause_number Length = 3
clause_number Heights = 4
clause_number Headings = 5
clause_number Powers = 6
clause_number (Set p) = 8 + p

-- the number of the clause that fails; 0 for none
abbrev pub failed : Option Clause → ℕ
failed None = 0
failed (Some clause) = clause_number clause

-- the number of a reason why a link does not follow
abbrev pub apart_number : Apart → ℕ
apart_number OneBefore = 1
apart_number OneNext = 2
apart_number Elsewhere = 3
