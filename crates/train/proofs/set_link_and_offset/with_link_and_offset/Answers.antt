-- `with_link_and_offset`: a refused call hands back the position that came.
use mathlib.Core.Path.{sym, ◌∙◌}
use Rattle.path.specs.Records.{lent}
use Rattle.train.proofs.Fields.{refused-state, refused-placed}
use Rattle.train.proofs.set_link_and_offset.with_link_and_offset.Goals as goal

pub returns-in_err-set_link_and_offset-clause-state : goal.returns-in_err-set_link_and_offset-clause-state
returns-in_err-set_link_and_offset-clause-state c =
    let a = c.args in
    refused-state a.state _ _ c.from_residual.ensures.1 ∙ sym (refused-placed a.state a.path (lent a.cols.now) _ c.in_err-set_link_and_offset.ensures.answer)
