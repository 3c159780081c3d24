-- `add_limits`: what is left to add from limit i on gives what was to be added at first.
use Rattle.link.specs.Train.{top_speed}
use Rattle.view.specs.History.{with_more}
use Rattle.view.proofs.Laid.{Adding}
use Rattle.view.proofs.Lays.{limits_left}
use Rattle.view.proofs.history.add_limits.Given as goal

abbrev pub invariant-loop-i : goal.invariant-loop-i
invariant-loop-i l =
    Adding l.initial.all (with_more l.initial.all l.n (limits_left (top_speed l.train) l.base.0 l.tail.0 l.number l.limits l.end l.first)) (limits_left (top_speed l.train) l.base.0 l.tail.0 l.number l.limits l.end l.i) l.all l.m
