-- `start_net`: the last record of the column, with another net value.
use Rattle.path_join.proofs.Starting.{net-stored}
use Rattle.path_join.proofs.join.start_net.Goals as goal

pub returns : goal.returns
returns c =
    let a = c.args in
    net-stored a.network.now.links.now a.network.now.elevs.now a.list.now a.grades.now a.m c.requires.m_nonzero c.requires.grades_value c.coeff_at-g.ensures c.starting_net-net.ensures c.put_coeff.ensures
