-- `join_listed`: with the records of the links that are left the records so far are those of all.
use mathlib.Core.Path.{refl}
use Rattle.path_join.proofs.Left.{left-next, left-none}
use Rattle.path_join.proofs.OnRecords.{records-room, records-next, records-done}
use Rattle.path_join.proofs.join.join_listed.Goals as goal

pub loop-i-init : goal.loop-i-init
loop-i-init c = record { becomes = record { same = refl; long = refl; holds = refl }; room = c.requires.room; is = refl }

pub join_record-requires-clause-room : goal.join_record-requires-clause-room
join_record-requires-clause-room c = let o = c.loop-i in records-room o.invariant (left-next c.args.list.now o.i-index c.loop-i-test.true)

pub loop-i-preserved : goal.loop-i-preserved
loop-i-preserved c =
    let o = c.loop-i in
    records-next o.invariant (left-next c.args.list.now o.i-index c.loop-i-test.true) c.join_record.ensures c.grade_end-base.ensures

pub returns : goal.returns
returns c = records-done c.loop-i.invariant (left-none c.args.list.now c.loop-i.i-index c.loop-i-test.false)
