-- `clause_of`: clause by clause, with what is left to ask after each yes.
use Rattle.std.proofs.Common.{sym, refl, ◌∙◌, arith, eq-eqb, ne_eqb}
use Rattle.ieee.proofs.Same.{zero-literal}
use Rattle.link.specs.Table.{table}
use Rattle.link.proofs.Known.{pools-known}
use Rattle.messages.proofs.ClauseSteps.{length-asked, clauses-asked}
use Rattle.messages.proofs.clauses.clause_of.Goals as goal

pub returns-then-l-n : goal.returns-then-l-n
returns-then-l-n c =
    let l = c.link_numbers-l in
    sym (clauses-asked _ (table c.args.network.now) c.args.n l.result l.ensures refl ∙ rw (ne_eqb l.result.idx_curr c.args.n c.if-l-n.true))

pub returns-then-not-in_pools : goal.returns-then-not-in_pools
returns-then-not-in_pools c =
    let l = c.link_numbers-l in
    sym (clauses-asked _ (table c.args.network.now) c.args.n l.result l.ensures refl
    ∙ rw (eq-eqb l.result.idx_curr c.args.n c.if-l-n.false, sym c.in_pools.ensures ∙ c.if-not-in_pools.true))

pub returns-then-not-is_finite-length : goal.returns-then-not-is_finite-length
returns-then-not-is_finite-length c =
    let l = c.link_numbers-l in
    let x = c.get-length in
    sym (clauses-asked x.result (table c.args.network.now) c.args.n l.result l.ensures x.ensures
    ∙ rw (
      eq-eqb l.result.idx_curr c.args.n c.if-l-n.false,
      sym c.in_pools.ensures ∙ c.if-not-in_pools.false,
      sym (length-asked x.result c.is_finite.ensures zero-literal) ∙ c.if-not-is_finite-length.true,
    ))

pub returns-then-not-samples_formed : goal.returns-then-not-samples_formed
returns-then-not-samples_formed c =
    let l = c.link_numbers-l in
    let x = c.get-length in
    sym (clauses-asked x.result (table c.args.network.now) c.args.n l.result l.ensures x.ensures
    ∙ rw (
      eq-eqb l.result.idx_curr c.args.n c.if-l-n.false,
      sym c.in_pools.ensures ∙ c.if-not-in_pools.false,
      sym (length-asked x.result c.is_finite.ensures zero-literal) ∙ c.if-not-is_finite-length.false,
      sym c.samples_formed.ensures ∙ c.if-not-samples_formed.true,
    ))

pub returns-then-not-samples_formed-2 : goal.returns-then-not-samples_formed-2
returns-then-not-samples_formed-2 c =
    let l = c.link_numbers-l in
    let x = c.get-length in
    sym (clauses-asked x.result (table c.args.network.now) c.args.n l.result l.ensures x.ensures
    ∙ rw (
      eq-eqb l.result.idx_curr c.args.n c.if-l-n.false,
      sym c.in_pools.ensures ∙ c.if-not-in_pools.false,
      sym (length-asked x.result c.is_finite.ensures zero-literal) ∙ c.if-not-is_finite-length.false,
      sym c.samples_formed.ensures ∙ c.if-not-samples_formed.false,
      sym c.samples_formed-2.ensures ∙ c.if-not-samples_formed-2.true,
    ))

pub returns-then-not-limits_formed : goal.returns-then-not-limits_formed
returns-then-not-limits_formed c =
    let l = c.link_numbers-l in
    let x = c.get-length in
    sym (clauses-asked x.result (table c.args.network.now) c.args.n l.result l.ensures x.ensures
    ∙ rw (
      eq-eqb l.result.idx_curr c.args.n c.if-l-n.false,
      sym c.in_pools.ensures ∙ c.if-not-in_pools.false,
      sym (length-asked x.result c.is_finite.ensures zero-literal) ∙ c.if-not-is_finite-length.false,
      sym c.samples_formed.ensures ∙ c.if-not-samples_formed.false,
      sym c.samples_formed-2.ensures ∙ c.if-not-samples_formed-2.false,
      sym c.limits_formed.ensures ∙ c.if-not-limits_formed.true,
    ))

pub samples_formed-requires : goal.samples_formed-requires
samples_formed-requires c = let pooled = pools-known _ _ _ _ _ (sym c.in_pools.ensures ∙ c.if-not-in_pools.false) in record { count_bound = omega arith; count_bound_2 = pooled.0 }

pub samples_formed-requires-2 : goal.samples_formed-requires-2
samples_formed-requires-2 c = let pooled = pools-known _ _ _ _ _ (sym c.in_pools.ensures ∙ c.if-not-in_pools.false) in record { count_bound = omega arith; count_bound_2 = pooled.1 }

pub limits_formed-requires : goal.limits_formed-requires
limits_formed-requires c = let pooled = pools-known _ _ _ _ _ (sym c.in_pools.ensures ∙ c.if-not-in_pools.false) in record { count_bound = omega arith; count_in_bounds = pooled.2 }

pub returns : goal.returns
returns c =
    let l = c.link_numbers-l in
    let x = c.get-length in
    c.set_clause.ensures ∙ sym (clauses-asked x.result (table c.args.network.now) c.args.n l.result l.ensures x.ensures
    ∙ rw (
      eq-eqb l.result.idx_curr c.args.n c.if-l-n.false,
      sym c.in_pools.ensures ∙ c.if-not-in_pools.false,
      sym (length-asked x.result c.is_finite.ensures zero-literal) ∙ c.if-not-is_finite-length.false,
      sym c.samples_formed.ensures ∙ c.if-not-samples_formed.false,
      sym c.samples_formed-2.ensures ∙ c.if-not-samples_formed-2.false,
      sym c.limits_formed.ensures ∙ c.if-not-limits_formed.false,
    ))
