-- The set places of a link, one more a turn.
use Rattle.std.proofs.Common.{◌≡◌, ℕ, suc, ◌+◌, ◌-◌, ◌<◌, ◌≤◌, true, false, cond, List, ap, ◌∙◌, add-one, arith}
use lib.Ieee.{Float}
use Rattle.link.specs.Table.{set_at}
use Rattle.link.specs.Questions.{set_formed}
use Rattle.messages.specs.Clauses.{set_clause}

module _ (sets codes : List ℕ) (values limits : List Float) (n p : ℕ) where
  place-asked : p < 8 → set_clause sets codes values limits n p (8 - p) ≡ cond (set_formed codes values limits (set_at sets n p)) (set_clause sets codes values limits n (p + 1) (8 - (p + 1))) (8 + p)
  unfolding set_clause
  place-asked h =
      let e : 8 - p ≡ suc (8 - (p + 1)) = omega arith in
      ap (set_clause sets codes values limits n p) e ∙ rw (add-one p)

  pub place-fails : p < 8 → set_formed codes values limits (set_at sets n p) ≡ false → set_clause sets codes values limits n p (8 - p) ≡ 8 + p
  place-fails h t = place-asked h ∙ rw t

  pub place-passes : p < 8 → set_formed codes values limits (set_at sets n p) ≡ true → set_clause sets codes values limits n p (8 - p) ≡ set_clause sets codes values limits n (p + 1) (8 - (p + 1))
  place-passes h t = place-asked h ∙ rw t

  pub places-end : 8 ≤ p → set_clause sets codes values limits n p (8 - p) ≡ 0
  unfolding set_clause
  places-end h = let e : 8 - p ≡ 0 = omega arith in rw e
