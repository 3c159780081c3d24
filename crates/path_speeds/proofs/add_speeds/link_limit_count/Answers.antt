-- `link_limit_count`: by the set that applies.
use Rattle.std.specs.Prelude.{Some, None}
use mathlib.Core.Path.{sym, ◌∙◌}
use Rattle.link.specs.Train.{top_speed}
use Rattle.link.specs.Table.{table}
use Rattle.path_speeds.specs.Limits.{sets_of}
use Rattle.path_speeds.proofs.Applying.{few-at, count_by, count_none}
use Rattle.path_speeds.proofs.add_speeds.link_limit_count.Goals as goal

pub applying_set-requires : goal.applying_set-requires
applying_set-requires c =
    let a = c.args in
    let q = sets_of (table a.network.now) in record { i_bound = c.requires.i_bound; train_type_value = few-at a.train q a.i c.requires.i_value }

pub returns-in_default-clause-count : goal.returns-in_default-clause-count
returns-in_default-clause-count c =
    let a = c.args in
    let q = sets_of (table a.network.now) in
    sym (count_by a.train q a.i None (sym c.in_default.is ∙ c.applying_set.ensures) ∙ count_none (top_speed a.train) q.limits)

pub returns-clause-count : goal.returns-clause-count
returns-clause-count c =
    let a = c.args in
    let q = sets_of (table a.network.now) in
    c.limits_count.ensures.count ∙ sym (count_by a.train q a.i (Some c.in-Some.s) (sym c.in-Some.is ∙ c.applying_set.ensures))
