-- `sums_question`: from link k on the first no is that of all.
use Rattle.link.proofs.Known.{every_in}
use native.Mathlib.Omega.{arith}
use mathlib.Core.Path.{sym, ◌∙◌}
use Rattle.link.specs.Table.{table}
use Rattle.path_speeds.specs.Limits.{sets_of, few_at}
use Rattle.path_join.proofs.Carried.{sums-pass, sums-fail, sums-end}
use Rattle.path_join.proofs.path_end.sums_question.Goals as goal

pub walk_link-requires : goal.walk_link-requires
walk_link-requires c =
    let a = c.args in
    let t = table a.network.now in
    let k = c.loop-k.k in record { i_bound = omega (arith, c.type_inv.list k); i_value = every_in (few_at a.train (sets_of t)) a.list.now k 0 c.loop-k-test.true c.requires }

pub returns-in_default : goal.returns-in_default
returns-in_default c =
    let a = c.args in
    let t = table a.network.now in
    let k = c.loop-k.k in
    sym (sums-fail a.train a.own.0 t c.loop-k.here a.list.now k c.loop-k-test.true c.walk_link.ensures c.in_default.is) ∙ c.loop-k.invariant

pub loop-k-preserved : goal.loop-k-preserved
loop-k-preserved c =
    let a = c.args in
    let t = table a.network.now in
    let k = c.loop-k.k in
    sym (sums-pass a.train a.own.0 t c.loop-k.here a.list.now k c.loop-k-test.true c.walk_link.ensures c.in-Some.is) ∙ c.loop-k.invariant

pub returns : goal.returns
returns c =
    let a = c.args in
    let t = table a.network.now in
    let k = c.loop-k.k in
    sym (sums-end a.train a.own.0 t c.loop-k.here a.list.now k c.loop-k-test.false) ∙ c.loop-k.invariant
