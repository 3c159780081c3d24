-- `set_clause`: one place a turn; what is left to ask gives the answer of the whole.
use Rattle.std.proofs.Common.{sym, ◌∙◌}
use Rattle.messages.proofs.SetPlaces.{place-fails, place-passes, places-end}
use Rattle.messages.proofs.clauses.set_clause.Goals as goal

pub returns-then-not-place_formed : goal.returns-then-not-place_formed
returns-then-not-place_formed c =
    let t = c.args.network.now in
    let o = c.loop-p in
    sym (place-fails t.sets.now t.codes.now t.values.now t.limits.now c.args.n o.p c.loop-p-test.true (sym c.place_formed.ensures ∙ c.if-not-place_formed.true)) ∙ o.invariant

pub loop-p-preserved : goal.loop-p-preserved
loop-p-preserved c =
    let t = c.args.network.now in
    let o = c.loop-p in
    sym (place-passes t.sets.now t.codes.now t.values.now t.limits.now c.args.n o.p c.loop-p-test.true (sym c.place_formed.ensures ∙ c.if-not-place_formed.false)) ∙ o.invariant

pub returns : goal.returns
returns c =
    let t = c.args.network.now in
    let o = c.loop-p in
    sym (places-end t.sets.now t.codes.now t.values.now t.limits.now c.args.n o.p c.loop-p-test.false) ∙ o.invariant
