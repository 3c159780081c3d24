-- `set_clause`: one place a turn; what is left to ask gives the answer of the whole.
use Rattle.std.proofs.Common.{◌≡◌, ◌-◌}
use Rattle.messages.specs.Clauses.{set_clause}
use Rattle.messages.proofs.clauses.set_clause.Given as goal

abbrev pub invariant-loop-p : goal.invariant-loop-p
invariant-loop-p l =
    set_clause l.network.sets.now l.network.codes.now l.network.values.now l.network.limits.now l.n l.p (8 - l.p)
    ≡ set_clause l.network.sets.now l.network.codes.now l.network.values.now l.network.limits.now l.n 0 8
