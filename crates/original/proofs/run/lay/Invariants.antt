-- `lay`: what is left to lay gives what was to be laid at first.
use lib.ListN.{length, drop}
use Rattle.speed.specs.Column.{points}
use Rattle.original.specs.Original.{follow_all}
use Rattle.original.proofs.Followed.{Laying}
use Rattle.original.proofs.run.lay.Given as goal

abbrev pub invariant-loop-l : goal.invariant-loop-l
invariant-loop-l l = Laying l.initial.col (follow_all (length l.initial.col) l.limits (points l.initial.m l.initial.col)) (drop l.l-index l.limits) l.col l.m
