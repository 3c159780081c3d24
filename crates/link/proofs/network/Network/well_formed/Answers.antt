-- `well_formed`: the ranges that are judged lie in their pools.
use Rattle.std.proofs.Common.{sym, ◌∙◌, arith}
use Rattle.link.proofs.Known.{pools-known}
use Rattle.link.proofs.network.Network.well_formed.Goals as goal

pub samples_formed-requires : goal.samples_formed-requires
samples_formed-requires c = let pooled = pools-known _ _ _ _ _ (sym c.in_pools.ensures ∙ c.if-not-in_pools.false) in record { count_bound = omega arith; count_bound_2 = pooled.0 }

pub samples_formed-requires-2 : goal.samples_formed-requires-2
samples_formed-requires-2 c = let pooled = pools-known _ _ _ _ _ (sym c.in_pools.ensures ∙ c.if-not-in_pools.false) in record { count_bound = omega arith; count_bound_2 = pooled.1 }

pub limits_formed-requires : goal.limits_formed-requires
limits_formed-requires c = let pooled = pools-known _ _ _ _ _ (sym c.in_pools.ensures ∙ c.if-not-in_pools.false) in record { count_bound = omega arith; count_in_bounds = pooled.2 }
