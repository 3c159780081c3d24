-- `renumber`: before each turn i records have their new numbers.
use mathlib.Core.Path.{◌≡◌}
use Prim.Native.Nat.{◌≤◌}
use lib.ListN.{length}
use Rattle.column.specs.Records.{records, four}
use Rattle.path_reindex.specs.Fours.{renumbered_fours}
use Rattle.path_reindex.proofs.Fours.{Partly}
use Rattle.path_reindex.proofs.reindex.renumber.Given as goal

abbrev pub invariant-loop-i : goal.invariant-loop-i
invariant-loop-i l = (length l.numbers ≡ length l.initial.numbers) × (l.i ≤ l.end) × Partly l.new (length l.initial.numbers) l.n (renumbered_fours l.new (records four l.n l.initial.numbers)) l.numbers l.i l.last
