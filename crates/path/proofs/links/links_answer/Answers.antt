-- `links_answer`: questions 4 to 7 in their order.
use mathlib.Core.Path.{refl, ap, ◌∙◌}
use Rattle.link.specs.Table.{table}
use Rattle.link.specs.Questions.{numbers_in}
use Rattle.path.specs.Answers.{ask_each}
use Rattle.path.proofs.InTurn.{links-4, links-5, links-6, links-7}
use Rattle.path.proofs.Told.{handed-on, told-err, told-ok, numbered, each}
use Rattle.path.proofs.links.links_answer.Goals as goal

pub returns-in_err-ask_each : goal.returns-in_err-ask_each
returns-in_err-ask_each c =
    let a = c.args in
    let t = table a.network.now in
    let ns = numbers_in a.numbers.now in
    handed-on _ _ c.from_residual.ensures.1 ∙ links-4 t a.kind a.fifth ns (told-err (each _ _ c.ask_each.ensures) c.in_err-ask_each.was ∙ ap (ask_each 4) c.question4.ensures) (numbered _)

pub returns-in_err-ask_each-2 : goal.returns-in_err-ask_each-2
returns-in_err-ask_each-2 c =
    let a = c.args in
    let t = table a.network.now in
    let ns = numbers_in a.numbers.now in
    handed-on _ _ c.from_residual-in_err-ask_each-2.ensures.1 ∙ links-5 t a.kind a.fifth ns (told-ok (each _ _ c.ask_each.ensures) c.in_ok-ask_each.was ∙ ap (ask_each 4) c.question4.ensures) refl (told-err (each _ _ c.ask_each-2.ensures) c.in_err-ask_each-2.was) (numbered _)

pub returns-in_err-ask_each-3 : goal.returns-in_err-ask_each-3
returns-in_err-ask_each-3 c =
    let a = c.args in
    let t = table a.network.now in
    let ns = numbers_in a.numbers.now in
    handed-on _ _ c.from_residual-in_err-ask_each-3.ensures.1 ∙ links-6 t a.kind a.fifth ns (told-ok (each _ _ c.ask_each.ensures) c.in_ok-ask_each.was ∙ ap (ask_each 4) c.question4.ensures) refl (told-ok (each _ _ c.ask_each-2.ensures) c.in_ok-ask_each-2.was) refl (told-err (each _ _ c.ask_each-3.ensures) c.in_err-ask_each-3.was ∙ ap (ask_each 6) c.question6-formed.ensures) (numbered _)

pub returns : goal.returns
returns c =
    let a = c.args in
    let t = table a.network.now in
    let ns = numbers_in a.numbers.now in
    links-7 t a.kind a.fifth ns (told-ok (each _ _ c.ask_each.ensures) c.in_ok-ask_each.was ∙ ap (ask_each 4) c.question4.ensures) refl (told-ok (each _ _ c.ask_each-2.ensures) c.in_ok-ask_each-2.was) refl (told-ok (each _ _ c.ask_each-3.ensures) c.in_ok-ask_each-3.was ∙ ap (ask_each 6) c.question6-formed.ensures) refl (each _ _ c.ask_each-4.ensures ∙ ap (ask_each 7) c.question7.ensures)
