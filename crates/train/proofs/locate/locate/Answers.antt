-- `locate`: the questions in their order.
use mathlib.Core.Path.{refl, ◌∙◌}
use Rattle.path.specs.Records.{lent}
use Rattle.path.proofs.Told.{told-err, told-ok, numbered, once, said-no, said-yes}
use Rattle.train.proofs.Fields.{handed-located, locate-first, links-there, locate-10, locate-8}
use Rattle.train.proofs.locate.locate.Goals as goal

pub returns-in_err-path_answer : goal.returns-in_err-path_answer
returns-in_err-path_answer c =
    let a = c.args in
    handed-located a.state _ _ c.from_residual.ensures.1
    ∙ locate-first a.state a.path (lent a.cols.now) c.state_finite.ensures (told-err c.path_answer.ensures c.in_err-path_answer.was) (numbered _)

pub not_before_path-requires : goal.not_before_path-requires
not_before_path-requires c =
    let a = c.args in
    links-there a.state a.path (lent a.cols.now) c.state_finite.ensures (told-ok c.path_answer.ensures c.in_ok-path_answer.was) refl

pub returns-in_err-ask : goal.returns-in_err-ask
returns-in_err-ask c =
    let a = c.args in
    handed-located a.state _ _ c.from_residual-in_err-ask.ensures.1
    ∙ locate-10 a.state a.path (lent a.cols.now) c.state_finite.ensures (told-ok c.path_answer.ensures c.in_ok-path_answer.was) refl c.not_before_path.ensures (said-no _ _ c.ask.ensures c.in_err-ask.was) (told-err (once _ _ c.ask.ensures) c.in_err-ask.was)

pub located_among-requires : goal.located_among-requires
located_among-requires c =
    let a = c.args in
    links-there a.state a.path (lent a.cols.now) c.state_finite.ensures (told-ok c.path_answer.ensures c.in_ok-path_answer.was) refl

pub returns : goal.returns
returns c =
    let a = c.args in
    locate-8 a.state a.path (lent a.cols.now) c.state_finite.ensures (told-ok c.path_answer.ensures c.in_ok-path_answer.was) refl c.not_before_path.ensures (said-yes _ _ c.ask.ensures c.in_ok-ask.was) c.located_among.ensures
