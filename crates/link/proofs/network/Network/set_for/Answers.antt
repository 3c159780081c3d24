-- `set_for`: the place of a type is one of the eight.
use Rattle.std.proofs.Common.{arith}
use Rattle.link.proofs.Formed.{type-below}
use Rattle.link.proofs.network.Network.set_for.Goals as goal

pub overflow_add-type_number : goal.overflow_add-type_number
overflow_add-type_number c = omega (arith, c.type_number.ensures, type-below c.args.t)

pub set_at-typed-requires : goal.set_at-typed-requires
set_at-typed-requires c = record { i_bound = c.requires; p_bound = omega (arith, c.type_number.ensures, type-below c.args.t) }
