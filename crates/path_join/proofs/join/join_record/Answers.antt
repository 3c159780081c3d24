-- `join_record`: the stretches of the headings or elevations that the link names.
use native.Mathlib.Omega.{arith}
use mathlib.Core.Path.{◌≡◌}
use Rattle.path_stretches.specs.Becomes.{coeffs_of}
use Rattle.path_join.specs.Listed.{rises}
use Rattle.path_join.proofs.OnRecords.{samples_of, lines-room, lines-joined}
use Rattle.path_join.proofs.join.join_record.Goals as goal
use Rattle.path_join.proofs.join.join_record.Goals.{in-Grades, in-Curves}

pub lay_stretches-requires : goal.lay_stretches-requires
lay_stretches-requires c =
    let a = c.args in
    let p = c.match-lines.first in
    let e : (p.0.now, p.1, p.2) ≡ samples_of a.lines c.link_numbers-l.result a.network.now.elevs.now a.network.now.headings.now = elim c.match-lines.branch [ in-Grades w ↦ rw (w.in-Grades.is, w.first-is) | in-Curves w ↦ rw (w.in-Curves.is, w.first-is) ] in
    record {
      count_bound = elim c.match-lines.branch [ in-Grades w ↦ rw w.first-is (omega arith) | in-Curves w ↦ rw w.first-is (omega arith) ];
      room = omega (arith, c.requires.room, lines-room a.network.now.links.now a.network.now.elevs.now a.network.now.headings.now a.i a.lines c.link_numbers-l.ensures e);
    }

pub returns : goal.returns
returns c =
    let a = c.args in
    let p = c.match-lines.first in
    let e : (p.0.now, p.1, p.2) ≡ samples_of a.lines c.link_numbers-l.result a.network.now.elevs.now a.network.now.headings.now = elim c.match-lines.branch [ in-Grades w ↦ rw (w.in-Grades.is, w.first-is) | in-Curves w ↦ rw (w.in-Curves.is, w.first-is) ] in
    lines-joined a.train (rises a.network.now.links.now a.network.now.lengths.now a.network.now.elevs.now) a.network.now.headings.now a.base.0 (coeffs_of a.records.now) a.i a.lines c.link_numbers-l.ensures c.get.ensures e c.lay_stretches.ensures
