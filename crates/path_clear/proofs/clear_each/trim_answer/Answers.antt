-- `trim_answer`: the questions in their order.
use mathlib.Core.Path.{sym, ap, ◌∙◌}
use Prim.Native.Nat.{ℕ}
use lib.Dec.{leb}
use lib.ListN.{drop}
use Rattle.path.specs.Records.{link_points}
use Rattle.path.specs.Answers.{ask}
use Rattle.path.proofs.Told.{handed-on, told-err, once, said-no, said-yes}
use Rattle.path_clear.proofs.Gone.{trim-1, trim-10, trim-12, length_rest, rest-range}
use Rattle.path_clear.proofs.clear_each.trim_answer.Goals as goal

pub returns-in_err-ask : goal.returns-in_err-ask
returns-in_err-ask c =
    let a = c.args in
    let rest = drop a.from (link_points a.n a.cols.now.offsets.now a.cols.now.numbers.now) in
    let no = said-no _ _ c.ask.ensures c.in_err-ask.was in
    handed-on _ _ c.from_residual.ensures.1 ∙ told-err (once _ _ c.ask.ensures) c.in_err-ask.was ∙ ap (ask 1) no ∙ sym (trim-1 a.x rest (sym c.is_finite.ensures ∙ no))

pub returns-in_err-ask-2 : goal.returns-in_err-ask-2
returns-in_err-ask-2 c =
    let a = c.args in
    let rest = drop a.from (link_points a.n a.cols.now.offsets.now a.cols.now.numbers.now) in
    let within = rest-range a.x a.cols.now.offsets.now a.cols.now.numbers.now a.n a.from c.requires c.get-first.ensures c.get-last.ensures in
    let no = said-no _ _ c.ask-2.ensures c.in_err-ask-2.was in
    handed-on _ _ c.from_residual-in_err-ask-2.ensures.1
    ∙ told-err (once _ _ c.ask-2.ensures) c.in_err-ask-2.was
    ∙ ap (ask 10) no
    ∙ sym (trim-10 a.x rest (sym c.is_finite.ensures ∙ said-yes _ _ c.ask.ensures c.in_ok-ask.was) (sym within ∙ no))

pub returns : goal.returns
returns c =
    let a = c.args in
    let rest = drop a.from (link_points a.n a.cols.now.offsets.now a.cols.now.numbers.now) in
    let within = rest-range a.x a.cols.now.offsets.now a.cols.now.numbers.now a.n a.from c.requires c.get-first.ensures c.get-last.ensures in
    once _ _ c.ask-3.ensures
    ∙ ap (λ (k : ℕ). ask 12 (leb 2 k)) (sym (length_rest a.x a.cols.now.offsets.now a.cols.now.numbers.now a.n a.from c.requires))
    ∙ sym (trim-12 a.x rest (sym c.is_finite.ensures ∙ said-yes _ _ c.ask.ensures c.in_ok-ask.was) (sym within ∙ said-yes _ _ c.ask-2.ensures c.in_ok-ask-2.was))
