-- `renumber`: before each turn i records have their new numbers.
use mathlib.Core.Path.{◌≡◌, refl, ◌∙◌}
use Prim.Native.Nat.{◌-◌}
use native.Mathlib.Omega.{arith}
use lib.ListN.{length}
use Rattle.column.specs.Records.{records, four}
use Rattle.path_reindex.specs.Fours.{renumbered_fours}
use Rattle.path_reindex.proofs.Fours.{partly_none, partly_more, partly-end}
use Rattle.path_reindex.proofs.reindex.renumber.Goals as goal

pub loop-i-init : goal.loop-i-init
loop-i-init c =
    let a = c.args in
    (refl, omega arith, partly_none a.new.now a.n a.numbers.now c.requires.n_nonzero c.requires.numbers_value c.record_at-last.ensures)

pub loop-i-preserved : goal.loop-i-preserved
loop-i-preserved c =
    let a = c.args in
    let ns = a.numbers.now in
    (c.put_number.auto.numbers ∙ c.loop-i.invariant.0, omega arith, partly_more a.new.now (length ns) a.n (renumbered_fours a.new.now (records four a.n ns)) c.loop-i.invariant.2 (omega (arith, c.requires.n_nonzero, c.loop-i-test.true)) c.record_at.ensures c.get-last.ensures c.put_number.ensures)

pub shape_of-numbers : goal.shape_of-numbers
shape_of-numbers c = c.put_number-2.auto.numbers ∙ c.loop-i.invariant.0

pub returns : goal.returns
returns c =
    let a = c.args in
    let ns = a.numbers.now in
    let e : c.loop-i.i ≡ a.n - 1 = omega (arith, c.loop-i.invariant.1, c.loop-i-test.false) in
    partly-end a.new.now (length ns) a.n (renumbered_fours a.new.now (records four a.n ns)) c.loop-i.invariant.2 (omega (arith, c.requires.n_nonzero)) (rw e c.put_number-2.ensures)
