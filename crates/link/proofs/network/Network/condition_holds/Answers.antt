-- `condition_holds`: the three entries, the kind, and then the comparison.
use Rattle.std.proofs.Common.{ℕ, ◌∙◌, ap₂}
use lib.Ieee.{Float}
use Rattle.link.specs.Condition.{param_of, param_told, param_holds, holds}
use Rattle.link.specs.Table.{condition_at}
use Rattle.link.proofs.Conditions.{same-param}
use Rattle.link.proofs.network.Network.condition_holds.Goals as goal

pub returns : goal.returns
unfolding holds
returns c =
    let a = c.args in
    let x = condition_at a.self.now.codes.now a.self.now.values.now a.i in
    c.param_holds.ensures
    ∙ ap₂ (param_holds a.train) c.get-code.ensures
    (same-param c.speed_param.result (param_of x.kind x.value) (c.speed_param.ensures ∙ ap₂ (λ (k : ℕ) (v : Float). param_told (param_of k v)) c.get-kind.ensures c.get-v.ensures))
