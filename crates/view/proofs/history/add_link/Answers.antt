-- `add_link`: the set that is taken, and then its limits.
use Rattle.std.proofs.Common.{ℕ, take, sym, ap, ◌∙◌, Some}
use Rattle.link.specs.Table.{table}
use Rattle.path_speeds.specs.Limits.{sets_of}
use Rattle.view.specs.History.{with_more}
use Rattle.view.proofs.Laid.{take_min}
use Rattle.view.proofs.Lays.{lays-by, lays-none}
use Rattle.view.proofs.history.add_link.Goals as goal

pub returns-in_default-clause-laid : goal.returns-in_default-clause-laid
returns-in_default-clause-laid c =
    let a = c.args in
    let all = a.all.now in
    ap (λ (k : ℕ). take k all) c.min.ensures
    ∙ take_min all a.n
    ∙ ap (with_more all a.n) (lays-none a.train (sets_of (table a.network.now)) a.p c.applying.result c.applying.ensures c.in_default.is)

pub returns-clause-laid : goal.returns-clause-laid
returns-clause-laid c =
    let a = c.args in
    c.add_limits.ensures.laid
    ∙ ap (with_more a.all.now a.n) (lays-by a.train (sets_of (table a.network.now)) a.p (Some c.in-Some.s) (sym c.in-Some.is ∙ c.applying.ensures))
