-- `rise_to`: from sample i on, with the answer so far, the answer is that from the first on.
use Rattle.std.proofs.Common.{◌≡◌, ◌≤◌, ◌&&◌}
use Rattle.link.specs.Table.{sample_at}
use Rattle.link.proofs.Formed.{rising_from}
use Rattle.link.proofs.elev.rise_to.Given as goal

abbrev pub invariant-loop-i : goal.invariant-loop-i
invariant-loop-i l = (l.i ≤ l.end) × ((l.ok && rising_from (sample_at l.col) l.length l.i l.end l.last) ≡ rising_from (sample_at l.col) l.length l.first l.end l.o)
