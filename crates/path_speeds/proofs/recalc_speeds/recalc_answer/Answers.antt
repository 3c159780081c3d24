-- `recalc_answer`: the questions in their order.
use native.Mathlib.Omega.{arith}
use mathlib.Core.Path.{refl, sym, ap, ◌∙◌}
use mathlib.Core.Bool.{Bool}
use Rattle.link.specs.Table.{table}
use Rattle.path.specs.Records.{lent}
use Rattle.path.specs.Sound.{path_answer}
use Rattle.path.proofs.Told.{handed-on, told-err, told-ok, numbered}
use Rattle.path_speeds.proofs.Recalced.{recalc-first, link-bounds, recalc-links, range-few, recalc-limits}
use Rattle.path_speeds.proofs.recalc_speeds.recalc_answer.Goals as goal

pub returns-in_err-path_answer : goal.returns-in_err-path_answer
returns-in_err-path_answer c =
    let a = c.args in
    let l = lent a.cols.now in
    let t = table a.network.now in
    handed-on _ _ c.from_residual.ensures.1 ∙ sym (recalc-first a.train t a.p l (told-err (c.path_answer.ensures ∙ ap (λ (b : Bool). path_answer b a.p l) c.train_finite.ensures) c.in_err-path_answer.was) (numbered _))

pub overflow_sub-count : goal.overflow_sub-count
overflow_sub-count c =
    let a = c.args in
    let l = lent a.cols.now in
    let t = table a.network.now in
    (link-bounds a.train t a.p l (told-ok (c.path_answer.ensures ∙ ap (λ (b : Bool). path_answer b a.p l) c.train_finite.ensures) c.in_ok-path_answer.was) refl).0

pub returns-in_err-links_answer : goal.returns-in_err-links_answer
returns-in_err-links_answer c =
    let a = c.args in
    let l = lent a.cols.now in
    let t = table a.network.now in
    handed-on _ _ c.from_residual-in_err-links_answer.ensures.1 ∙ sym (recalc-links a.train t a.p l (told-ok (c.path_answer.ensures ∙ ap (λ (b : Bool). path_answer b a.p l) c.train_finite.ensures) c.in_ok-path_answer.was) refl (told-err c.links_answer.ensures c.in_err-links_answer.was) (numbered _))

pub limits_answer-requires : goal.limits_answer-requires
limits_answer-requires c =
    let a = c.args in
    let l = lent a.cols.now in
    let t = table a.network.now in
    let first = told-ok (c.path_answer.ensures ∙ ap (λ (b : Bool). path_answer b a.p l) c.train_finite.ensures) c.in_ok-path_answer.was in record { count_bound = omega (arith, (link-bounds a.train t a.p l first refl).1); count_value = range-few a.train t a.p l first refl (told-ok c.links_answer.ensures c.in_ok-links_answer.was) refl }

pub returns : goal.returns
returns c =
    let a = c.args in
    let l = lent a.cols.now in
    let t = table a.network.now in
    c.limits_answer.ensures ∙ sym (recalc-limits a.train t a.p l (told-ok (c.path_answer.ensures ∙ ap (λ (b : Bool). path_answer b a.p l) c.train_finite.ensures) c.in_ok-path_answer.was) refl (told-ok c.links_answer.ensures c.in_ok-links_answer.was) refl)
