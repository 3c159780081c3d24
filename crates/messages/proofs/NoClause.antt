-- A link fails no clause where question 6 passes it, and only there.
use Rattle.std.proofs.Common.{◌≡◌, ℕ, zero, suc, ◌+◌, ◌<◌, Bool, true, false, cond, ◌&&◌, eqb, List, sym, refl, ◌∙◌, arith}
use mathlib.Core.Bool.{false≢true}
use lib.Ieee as Ieee
use lib.Ieee.{Float}
use lib.Ieee.Scale.{finite}
use Rattle.ieee.specs.Number.{+0}
use Rattle.link.specs.Lists.{every, up_from}
use Rattle.link.specs.Table.{LinkTable, link_at, set_at}
use Rattle.link.specs.Questions.{in_pools, samples_formed, power_formed, set_formed, well_formed}
use Rattle.messages.specs.Clauses.{set_clause, clause_of}

-- an answer and the number of the clause that fails, 0 for none
record Agree (passes : Bool) (clause : ℕ) : Type 0 where
  pub none : clause ≡ 0 → passes ≡ true
  pub asked : passes ≡ true → clause ≡ 0

-- one question more, of clause k
next : (a b : Bool) (r k : ℕ) → 0 < k → Agree b r → Agree (a && b) (cond a r k)
next true b r k h w = w
next false b r k h w = record { none = λ e. absurd (omega (arith, h, e)); asked = λ e. absurd (false≢true e) }

-- two questions more, of one clause
next-two : (a c b : Bool) (r k : ℕ) → 0 < k → Agree b r → Agree (a && (c && b)) (cond (a && c) r k)
next-two true c b r k h w = next c b r k h w
next-two false c b r k h w = next false b r k h w

-- k set places from p on
places : (sets codes : List ℕ) (values limits : List Float) (n p k : ℕ) → Agree (every (set_formed codes values limits) (up_from (set_at sets n) p k)) (set_clause sets codes values limits n p k)
unfolding every up_from set_clause
places sets codes values limits n p zero = record { none = λ e. refl; asked = λ e. refl }
places sets codes values limits n p (suc k) =
    next (set_formed codes values limits (set_at sets n p)) _ _ (8 + p) (omega arith) (places sets codes values limits n (suc p) k)

module _ (t : LinkTable) (n : ℕ) where
  agree : Agree (well_formed t n) (clause_of t n)
  unfolding well_formed clause_of link_at
  agree =
      let l = link_at t n in
      next (eqb l.numbers.idx_curr n) _ _ 1 (omega arith)
      (next (in_pools t.elevs t.headings t.powers t.districts l.numbers) _ _ 2 (omega arith)
      (next-two (finite l.length) (Ieee.lt +0 l.length) _ _ 3 (omega arith)
      (next (samples_formed l.length l.elevs) _ _ 4 (omega arith)
      (next (samples_formed l.length l.headings) _ _ 5 (omega arith)
      (next (every power_formed l.powers) _ _ 6 (omega arith) (places t.sets t.codes t.values t.limits n 0 8))))))

  pub clause-of-none : clause_of t n ≡ 0 → well_formed t n ≡ true
  clause-of-none e = agree.none e

  pub none-clause-of : well_formed t n ≡ true → clause_of t n ≡ 0
  none-clause-of e = agree.asked e

  -- a link that question 6 refuses fails a clause
  pub refused-clause : well_formed t n ≡ false → clause_of t n ≡ 0 → ⊥
  refused-clause e z = false≢true (sym e ∙ clause-of-none z)
