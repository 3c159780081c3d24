-- `walk_link`: the answers of the link's limits, grades, curves and power limits, joined.
use mathlib.Core.Bool.{true, false}
use mathlib.Core.Path.{ap, ◌∙◌}
use Rattle.link.specs.Table.{table}
use Rattle.path_stretches.specs.Stretches.{end_of}
use Rattle.path_join.proofs.Carried.{no-grades, no-curves, walked-link}
use Rattle.path_join.proofs.path_end.walk_link.Goals as goal

pub link_finite-laid-requires : goal.link_finite-laid-requires
link_finite-laid-requires c = record { i_bound = c.requires.i_bound; i_value = c.requires.i_value }

pub returns-in_err-slopes : goal.returns-in_err-slopes
returns-in_err-slopes c =
    let a = c.args in
    let t = table a.network.now in
    c.from_residual.ensures ∙ no-grades a.train a.own.0 t a.at a.i c.link_numbers-l.ensures c.get.ensures (c.end.ensures ∙ ap end_of c.walk_stretches-slopes.ensures) c.in_err-slopes.was

pub returns-in_err-bends : goal.returns-in_err-bends
returns-in_err-bends c =
    let a = c.args in
    let t = table a.network.now in
    c.from_residual-in_err-bends.ensures ∙ no-curves a.train a.own.0 t a.at a.i c.link_numbers-l.ensures c.get.ensures (c.end-2.ensures ∙ ap end_of c.walk_stretches-bends.ensures) c.in_err-bends.was

pub returns-then-not-laid-further : goal.returns-then-not-laid-further
returns-then-not-laid-further c =
    let a = c.args in
    let t = table a.network.now in
    walked-link a.train a.own.0 t a.at a.i c.link_numbers-l.ensures c.get.ensures false c.link_finite-laid.ensures (c.end.ensures ∙ ap end_of c.walk_stretches-slopes.ensures) c.in_ok-slopes.was (c.end-2.ensures ∙ ap end_of c.walk_stretches-bends.ensures) c.in_ok-bends.was c.powers_finite-drawn.ensures c.is_finite.ensures c.if-not-laid-further.true

pub returns : goal.returns
returns c =
    let a = c.args in
    let t = table a.network.now in
    walked-link a.train a.own.0 t a.at a.i c.link_numbers-l.ensures c.get.ensures true c.link_finite-laid.ensures (c.end.ensures ∙ ap end_of c.walk_stretches-slopes.ensures) c.in_ok-slopes.was (c.end-2.ensures ∙ ap end_of c.walk_stretches-bends.ensures) c.in_ok-bends.was c.powers_finite-drawn.ensures c.is_finite.ensures c.if-not-laid-further.false
