-- `applying_set`: the set for the train, and then its conditions.
use native.Mathlib.Omega.{arith}
use mathlib.Core.Path.{◌∙◌, sym}
use mathlib.Core.Bool.{true, false}
use Rattle.link.specs.Table.{set_at}
use Rattle.link.proofs.Formed.{set_is}
use Rattle.path_speeds.proofs.Applying.{none-applies, few-conditions, if-applies}
use Rattle.path_speeds.proofs.limits.applying_set.Goals as goal

pub returns-in_default : goal.returns-in_default
returns-in_default c =
    let a = c.args in
    none-applies a.train a.network.now.sets.now a.network.now.codes.now a.network.now.values.now a.i (set_is (set_at a.network.now.sets.now a.i) a.train.train_type c.set_for.ensures c.in_default.is)

pub speed_set_applies-requires : goal.speed_set_applies-requires
speed_set_applies-requires c =
    let a = c.args in
    let s = c.in-Some.s in
    let few = few-conditions a.train a.network.now.sets.now a.network.now.codes.now a.network.now.values.now a.i s (set_is (set_at a.network.now.sets.now a.i) a.train.train_type c.set_for.ensures c.in-Some.is) c.requires.train_type_value in record { left_bound = omega arith; left_bound_2 = few }

pub returns-then-speed_set_applies : goal.returns-then-speed_set_applies
returns-then-speed_set_applies c =
    let a = c.args in
    if-applies a.train a.network.now.sets.now a.network.now.codes.now a.network.now.values.now a.i c.in-Some.s (set_is (set_at a.network.now.sets.now a.i) a.train.train_type c.set_for.ensures c.in-Some.is) true (sym c.speed_set_applies.ensures ∙ c.if-speed_set_applies.true)

pub returns : goal.returns
returns c =
    let a = c.args in
    if-applies a.train a.network.now.sets.now a.network.now.codes.now a.network.now.values.now a.i c.in-Some.s (set_is (set_at a.network.now.sets.now a.i) a.train.train_type c.set_for.ensures c.in-Some.is) false (sym c.speed_set_applies.ensures ∙ c.if-speed_set_applies.false)
