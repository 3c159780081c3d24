-- `located_among`: the front's link point, question 8, and the back's link point.
use mathlib.Core.Path.{◌∙◌}
use Rattle.path.specs.Records.{link_points}
use Rattle.path.proofs.Told.{told-err, once, said-no, said-yes}
use Rattle.train.proofs.Fields.{handed-located, among-refused, among-done}
use Rattle.train.proofs.locate.located_among.Goals as goal

pub returns-in_err-ask : goal.returns-in_err-ask
returns-in_err-ask c =
    let a = c.args in
    let ps = link_points a.n a.cols.now.offsets.now a.cols.now.numbers.now in
    handed-located a.s _ _ c.from_residual.ensures.1
    ∙ among-refused a.s ps c.point_behind-front.ensures c.is_finite.ensures (said-no _ _ c.ask.ensures c.in_err-ask.was) (told-err (once _ _ c.ask.ensures) c.in_err-ask.was)

pub returns : goal.returns
returns c =
    let a = c.args in
    let ps = link_points a.n a.cols.now.offsets.now a.cols.now.numbers.now in
    among-done a.s ps c.point_behind-front.ensures c.is_finite.ensures (said-yes _ _ c.ask.ensures c.in_ok-ask.was) c.point_behind-back.ensures
