-- `one_degree_per_100ft`: computed from what `deg` and `ft` give.
use Rattle.si.proofs.Computed.{one-degree}
use Rattle.si.proofs.one_degree_per_100ft.Goals as goal

pub returns : goal.returns
returns c = rw (c.deg.ensures, c.ft.ensures) one-degree
