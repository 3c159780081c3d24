-- `join_listed`: with the records of the links that are left the records so far are those of all.
use lib.ListN.{drop}
use Rattle.path_stretches.specs.Becomes.{coeffs_of}
use Rattle.path_join.specs.Listed.{rises}
use Rattle.path.specs.Sound.{is_curves}
use Rattle.path_join.specs.ByKind.{joined_records}
use Rattle.path_join.proofs.OnRecords.{RecordsLeft}
use Rattle.path_join.proofs.join.join_listed.Given as goal

abbrev pub invariant-loop-i : goal.invariant-loop-i
invariant-loop-i l =
    let r = rises l.network.links.now l.network.lengths.now l.network.elevs.now in
    RecordsLeft (is_curves l.lines) l.train r l.network.headings.now l.initial.records (joined_records (is_curves l.lines) l.train r l.network.headings.now l.initial.base.0 (coeffs_of l.initial.records) l.list) (drop l.i-index l.list) l.records l.base.0
