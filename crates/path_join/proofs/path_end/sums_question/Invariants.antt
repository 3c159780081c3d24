-- `sums_question`: from link k on the first no is that of all.
use mathlib.Core.Path.{◌≡◌}
use lib.ListN.{drop}
use Rattle.link.specs.Lists.{first_no, first_no_from}
use Rattle.link.specs.Table.{table}
use Rattle.path_join.specs.Sums.{sums_from}
use Rattle.path_join.proofs.path_end.sums_question.Given as goal

abbrev pub invariant-loop-k : goal.invariant-loop-k
invariant-loop-k l = first_no_from l.k (sums_from l.train l.own.0 (table l.network) l.here (drop l.k l.list)) ≡ first_no (sums_from l.train l.own.0 (table l.network) l.initial.here l.list)
