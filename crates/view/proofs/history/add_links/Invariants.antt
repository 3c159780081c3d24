-- `add_links`: what is left to add from link point k on gives what was to be added at first.
use Rattle.link.specs.Table.{table}
use Rattle.path_speeds.specs.Limits.{sets_of}
use Rattle.view.specs.History.{with_more, lay_from_to}
use Rattle.view.proofs.Laid.{Adding}
use Rattle.view.proofs.history.add_links.Given as goal

abbrev pub invariant-loop-k : goal.invariant-loop-k
invariant-loop-k l =
    Adding l.initial.all (with_more l.initial.all l.n (lay_from_to l.train (sets_of (table l.network)) l.path.offsets.now l.path.numbers.now l.from l.to)) (lay_from_to l.train (sets_of (table l.network)) l.path.offsets.now l.path.numbers.now l.k l.to) l.all l.m
