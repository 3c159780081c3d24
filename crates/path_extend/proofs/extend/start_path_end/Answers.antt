-- `start_path_end`: the last records of the path.
use mathlib.Core.Path.{ap, ◌∙◌}
use Rattle.lookup.specs.declared.path_res_coeff.PathResCoeff.{PathResCoeff}
use Rattle.lookup.specs.Coeff.{stands_at, net_of}
use Rattle.path_join.specs.Joined.{starting_net}
use Rattle.path_extend.specs.Ready.{start_path_end}
use Rattle.path_extend.proofs.PathEnds.{same-path-end}
use Rattle.path_extend.proofs.extend.start_path_end.Goals as goal

pub overflow_sub-p-3 : goal.overflow_sub-p-3
overflow_sub-p-3 c = c.requires.link_count_nonzero

pub returns : goal.returns
unfolding start_path_end
returns c =
    let a = c.args in
    let grade = c.coeff_at-grade.ensures in
    same-path-end
    c.get.ensures
    (ap stands_at grade)
    (c.starting_net-net.ensures ∙ ap (λ (x : PathResCoeff). starting_net a.network.now.links.now a.network.now.elevs.now a.p.grade_count (net_of x) a.list.now) grade)
    (ap net_of c.coeff_at-curve.ensures)
