-- The clauses of question 6, asked in their order: the number of the first that fails, from each question on.
use Rattle.std.proofs.Common.{◌≡◌, ℕ, Bool, cond, ◌&&◌, eqb, get_or}
use lib.Ieee as Ieee
use lib.Ieee.{Float}
use lib.Ieee.Scale.{finite}
use Rattle.ieee.specs.Number.{+0}
use Rattle.link.specs.declared.network.LinkNumbers.{LinkNumbers}
use Rattle.link.specs.Lists.{every, up_from}
use Rattle.link.specs.Table.{LinkTable, sample_at, limit_at, numbers_of, link_at}
use Rattle.link.specs.Questions.{samples_formed, limit_formed, in_pools}
use Rattle.link.proofs.Judging.{powers-limits}
use Rattle.messages.specs.Clauses.{set_clause, clause_of}

-- the two questions about a length x, by the answers to them
pub length-asked : {answer : Bool} {z : Float} (x : Float) → answer ≡ finite x → z ≡ +0 → (answer && Ieee.lt z x) ≡ (finite x && Ieee.lt +0 x)
length-asked x e q = rw (e, q)

-- the first clause that link n fails, its numbers being l and its length x
module _ (x : Float) (t : LinkTable) (n : ℕ) (l : LinkNumbers) where
  abbrev pub clause_from_sets : ℕ
  clause_from_sets = set_clause t.sets t.codes t.values t.limits n 0 8

  abbrev pub clause_from_powers : ℕ
  clause_from_powers = cond (every limit_formed (up_from (limit_at t.powers) l.powers_first l.powers_count)) clause_from_sets 6

  abbrev pub clause_from_headings : ℕ
  clause_from_headings = cond (samples_formed x (up_from (sample_at t.headings) l.headings_first l.headings_count)) clause_from_powers 5

  abbrev pub clause_from_elevs : ℕ
  clause_from_elevs = cond (samples_formed x (up_from (sample_at t.elevs) l.elevs_first l.elevs_count)) clause_from_headings 4

  abbrev pub clause_from_length : ℕ
  clause_from_length = cond (finite x && Ieee.lt +0 x) clause_from_elevs 3

  abbrev pub clause_from_pools : ℕ
  clause_from_pools = cond (in_pools t.elevs t.headings t.powers t.districts l) clause_from_length 2

  pub clauses-asked : l ≡ numbers_of t.links n → x ≡ get_or t.lengths n +0 → clause_of t n ≡ cond (eqb l.idx_curr n) clause_from_pools 1
  unfolding clause_of link_at
  clauses-asked own long = rw (own, long, powers-limits t.powers t.districts (numbers_of t.links n).powers_first (numbers_of t.links n).powers_count)
