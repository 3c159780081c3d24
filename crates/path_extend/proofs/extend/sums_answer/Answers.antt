-- `sums_answer`: question 8 and then question 9.
use mathlib.Core.Path.{refl, sym, ap, ◌∙◌}
use Rattle.link.specs.Table.{table}
use Rattle.path.specs.Records.{lent}
use Rattle.link.specs.Lists.{first_no}
use Rattle.path.specs.Answers.{ask, ask_each}
use Rattle.path.proofs.Clauses.{sound-within, some-link, some-records}
use Rattle.path_join.specs.declared.path_end.PathEnd.{PathEnd}
use Rattle.path_join.specs.Sums.{sums_from}
use Rattle.path.proofs.Told.{handed-on, told-err, told-ok, numbered, once, each}
use Rattle.path_extend.proofs.Asked.{path-end-start, sums-8, sums-9}
use Rattle.path_extend.proofs.extend.sums_answer.Goals as goal

pub start_path_end-start-requires : goal.start_path_end-start-requires
start_path_end-start-requires c =
    let a = c.args in
    let l = lent a.cols.now in
    let t = table a.network.now in
    let ns = a.list.now in
    let w = (sound-within a.p l c.requires.sound).0 in
    let r = some-records a.p l w in record { link_count_nonzero = some-link a.p l w; grade_count_nonzero = r.0; curve_count_nonzero = r.1 }

pub returns-in_err-ask_each : goal.returns-in_err-ask_each
returns-in_err-ask_each c =
    let a = c.args in
    let l = lent a.cols.now in
    let t = table a.network.now in
    let ns = a.list.now in
    handed-on _ _ c.from_residual.ensures.1 ∙ sym (sums-8 a.train a.own.0 t ns a.p l (told-err (each _ _ c.ask_each.ensures) c.in_err-ask_each.was ∙ ap (ask_each 8) (c.sums_question-sums.ensures ∙ ap (λ (f : PathEnd). first_no (sums_from a.train a.own.0 t f ns)) (c.start_path_end-start.ensures ∙ path-end-start a.train t ns a.p l c.requires.sound))) (numbered _))

pub records_fit-fit-requires : goal.records_fit-fit-requires
records_fit-fit-requires c =
    let a = c.args in
    let l = lent a.cols.now in
    let t = table a.network.now in
    let ns = a.list.now in record { within_bounds = (sound-within a.p l c.requires.sound).1; list_value = c.requires.list_value }

pub returns : goal.returns
returns c =
    let a = c.args in
    let l = lent a.cols.now in
    let t = table a.network.now in
    let ns = a.list.now in
    once _ _ c.ask.ensures ∙ ap (ask 9) c.records_fit-fit.ensures ∙ sym (sums-9 a.train a.own.0 t ns a.p l (told-ok (each _ _ c.ask_each.ensures) c.in_ok-ask_each.was ∙ ap (ask_each 8) (c.sums_question-sums.ensures ∙ ap (λ (f : PathEnd). first_no (sums_from a.train a.own.0 t f ns)) (c.start_path_end-start.ensures ∙ path-end-start a.train t ns a.p l c.requires.sound))) refl)
