-- `rest`: y is taken off not at all, once, or by way of its double.
use native.Mathlib.Omega.{arith}
use Rattle.ieee.proofs.Order.{of-true}
use Rattle.path_stretches.proofs.RemainderSteps.{nothing-taken, taken-off, twice-asked, twice-nearer, rest-small, rest-large}
use Rattle.path_stretches.proofs.remainder.+rest.Goals as goal

pub returns-then-x-y : goal.returns-then-x-y
returns-then-x-y t c = nothing-taken c.args.x c.args.y (of-true c.well_formed.0.1) (of-true c.well_formed.1.0.1) c.requires c.if-x-y.true

pub returns-then-left-y : goal.returns-then-left-y
returns-then-left-y t c = taken-off c.args.x c.args.y (of-true c.well_formed.0.1) (of-true c.well_formed.1.0.1) c.requires c.if-x-y.false c.if-left-y.true

pub rest-over-requires : goal.rest-over-requires
rest-over-requires t c =
    let a = c.args in
    let nearer = twice-nearer a.x a.y (of-true c.well_formed.0.1) (of-true c.well_formed.1.0.1) c.requires c.if-x-y.false c.if-left-y.false in
    let asked = twice-asked a.x a.y (of-true c.well_formed.0.1) (of-true c.well_formed.1.0.1) c.requires c.if-x-y.false c.if-left-y.false in
    (omega (arith, nearer, c.decreases), asked)

pub returns-then-over-y : goal.returns-then-over-y
returns-then-over-y t c =
    rest-small c.args.x c.args.y (of-true c.well_formed.0.1) (of-true c.well_formed.1.0.1) c.requires c.if-x-y.false c.if-left-y.false c.rest-over.result c.rest-over.ensures c.if-over-y.true

pub returns : goal.returns
returns t c =
    rest-large c.args.x c.args.y (of-true c.well_formed.0.1) (of-true c.well_formed.1.0.1) c.requires c.if-x-y.false c.if-left-y.false c.rest-over.result c.rest-over.ensures c.if-over-y.false
