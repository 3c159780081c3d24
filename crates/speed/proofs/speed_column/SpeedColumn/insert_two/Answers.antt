-- `insert_two`: a gap of four entries, and two points in it.
use mathlib.Core.Path.{refl, ◌∙◌}
use Rattle.column.specs.declared.Two.{Two}
use Rattle.speed.specs.Points.{point_of}
use Rattle.speed.proofs.PointColumn.{two-inserted, next-two}
use Rattle.speed.proofs.speed_column.SpeedColumn.insert_two.Goals as goal

pub invariant_of-self : goal.invariant_of-self
invariant_of-self c =
    let s = c.args.self.now in
    let p = c.args.p in
    let q = c.args.q in
    let r : Two = record { 0 = p.offset.0; 1 = p.speed_limit.0 } in
    let t : Two = record { 0 = q.offset.0; 1 = q.speed_limit.0 } in
    record {
      holds = (next-two s.col.now _ s.count c.args.i (point_of p) (point_of q)
          (rw (c.put_record-2.ensures, c.put_record.ensures, c.open_gap.ensures) (two-inserted s.col.now s.count s.holds c.args.i r t c.requires.i_le_count c.requires.room))).1;
    }

pub returns-clause-becomes : goal.returns-clause-becomes
returns-clause-becomes c =
    let s = c.args.self.now in
    let p = c.args.p in
    let q = c.args.q in
    let r : Two = record { 0 = p.offset.0; 1 = p.speed_limit.0 } in
    let t : Two = record { 0 = q.offset.0; 1 = q.speed_limit.0 } in
    record {
      same = refl;
      long = c.put_record-2.auto.col ∙ c.put_record.auto.col ∙ c.open_gap.auto.col;
      holds = (next-two s.col.now _ s.count c.args.i (point_of p) (point_of q)
          (rw (c.put_record-2.ensures, c.put_record.ensures, c.open_gap.ensures) (two-inserted s.col.now s.count s.holds c.args.i r t c.requires.i_le_count c.requires.room))).0;
    }
