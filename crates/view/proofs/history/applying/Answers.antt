-- `applying`: the set for the train, how many conditions it has, and then whether they hold.
use Rattle.std.proofs.Common.{◌∙◌, arith}
use Rattle.view.proofs.Lays.{taken_none, taken-many, few-taken, taken-few}
use Rattle.view.proofs.history.applying.Goals as goal

pub returns-in_err-s : goal.returns-in_err-s
returns-in_err-s c =
    let n = c.args.network.now in
    c.from_residual.ensures ∙ taken_none c.args.train n.sets.now n.codes.now n.values.now c.args.i c.set_for.ensures c.in_err-s.was

pub returns-then-s-gt64 : goal.returns-then-s-gt64
returns-then-s-gt64 c =
    let n = c.args.network.now in
    taken-many c.args.train n.sets.now n.codes.now n.values.now c.args.i c.set_for.ensures c.in_ok-s.s c.in_ok-s.was c.if-s-gt64.true

pub applying_set-requires : goal.applying_set-requires
applying_set-requires c =
    let n = c.args.network.now in
    record {
      i_bound = omega arith;
      train_type_value = few-taken c.args.train n.sets.now n.codes.now n.values.now c.args.i c.set_for.ensures c.in_ok-s.s c.in_ok-s.was c.if-s-gt64.false;
    }

pub returns : goal.returns
returns c =
    let n = c.args.network.now in
    c.applying_set.ensures ∙ taken-few c.args.train n.sets.now n.codes.now n.values.now c.args.i c.set_for.ensures c.in_ok-s.s c.in_ok-s.was c.if-s-gt64.false
