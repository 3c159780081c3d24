-- `rest`: y comes nearer to x at each call.
use Prim.Native.Nat.{◌-◌}
use lib.Ieee.{binary64}
use Rattle.ieee.proofs.OrderKey.{key}
use Rattle.path_stretches.proofs.remainder.+rest.Given as goal

abbrev pub decreases-rest : goal.decreases-rest
decreases-rest l = key binary64 l.x - key binary64 l.y
