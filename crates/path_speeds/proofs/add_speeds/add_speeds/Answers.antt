-- `add_speeds`: by the set that applies.
use Rattle.std.specs.Prelude.{Some, None}
use native.Mathlib.Omega.{arith}
use mathlib.Core.Path.{sym, ap, ◌∙◌}
use Rattle.speed.specs.Becomes.{points_of}
use Rattle.speed.proofs.PointColumn.{unchanged, becomes-as}
use Rattle.link.specs.Train.{top_speed}
use Rattle.link.specs.Table.{table}
use Rattle.path_speeds.specs.Limits.{sets_of, lay_all, laying_at}
use Rattle.path_speeds.proofs.Applying.{few-at, laying-by, count_by, laying-none}
use Rattle.path_speeds.proofs.Lowered.{laid_none}
use Rattle.path_speeds.proofs.add_speeds.add_speeds.Goals as goal

pub applying_set-requires : goal.applying_set-requires
applying_set-requires c =
    let a = c.args in
    let q = sets_of (table a.network.now) in record { i_bound = c.requires.i_bound; train_type_value = few-at a.train q a.i c.requires.i_value }

pub returns-in_default : goal.returns-in_default
returns-in_default c =
    let a = c.args in
    let q = sets_of (table a.network.now) in
    let ps = points_of a.speeds.now in
    let ls = laying_at a.train a.length.0 q a.base.0 a.i in
    unchanged a.speeds.now (lay_all ps ls)
    (sym (laid_none ps ls (laying-by a.train q a.i None (sym c.in_default.is ∙ c.applying_set.ensures) a.base.0 a.length.0 ∙ laying-none (top_speed a.train) a.base.0 a.length.0 q.limits)))

pub lay_limits-requires : goal.lay_limits-requires
lay_limits-requires c =
    let a = c.args in
    let q = sets_of (table a.network.now) in
    record { some = c.requires.some; room = omega (arith, c.requires.room, count_by a.train q a.i (Some c.in-Some.s) (sym c.in-Some.is ∙ c.applying_set.ensures)) }

pub returns : goal.returns
returns c =
    let a = c.args in
    let q = sets_of (table a.network.now) in
    let ps = points_of a.speeds.now in
    becomes-as (lay_all ps (laying_at a.train a.length.0 q a.base.0 a.i)) c.lay_limits.ensures
    (ap (lay_all ps) (sym (laying-by a.train q a.i (Some c.in-Some.s) (sym c.in-Some.is ∙ c.applying_set.ensures) a.base.0 a.length.0)))
