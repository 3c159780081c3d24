-- `lay_limits`: what is left to lay from limit i on gives what was to be laid at first.
use Rattle.speed.specs.Becomes.{points_of}
use Rattle.path_speeds.specs.Limits.{lay_all}
use Rattle.path_speeds.proofs.Lowered.{to_lay}
use Rattle.path_speeds.proofs.LayingLoop.{LimitsLeft}
use Rattle.path_speeds.proofs.limits.lay_limits.Given as goal

abbrev pub invariant-loop-i : goal.invariant-loop-i
invariant-loop-i l = LimitsLeft l.initial.speeds (lay_all (points_of l.initial.speeds) (to_lay l.top.0 l.base.0 l.tail.0 l.limits l.end l.first)) (to_lay l.top.0 l.base.0 l.tail.0 l.limits l.end l.i) l.speeds
