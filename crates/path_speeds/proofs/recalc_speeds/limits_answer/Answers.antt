-- `limits_answer`: question 8, and then question 9.
use Prim.Native.Nat.{ℕ, ◌+◌, ◌*◌, ◌/◌}
use native.Mathlib.Omega.{arith}
use mathlib.Core.Path.{refl, sym, ap, ◌∙◌}
use lib.ListN.{length}
use Rattle.link.specs.Lists.{up_from}
use Rattle.path.specs.Records.{point_at, is_within_all}
use Rattle.path.specs.Answers.{ask, ask_each}
use Rattle.link.specs.Table.{table}
use Rattle.path_speeds.specs.Limits.{sets_of}
use Rattle.path.proofs.Told.{handed-on, told-err, told-ok, numbered, once, each}
use Rattle.path_speeds.proofs.Recalced.{limits-8, limits-9}
use Rattle.path_speeds.proofs.recalc_speeds.limits_answer.Goals as goal

pub returns-in_err-ask_each : goal.returns-in_err-ask_each
returns-in_err-ask_each c =
    let a = c.args in
    let q = sets_of (table a.network.now) in
    let present = up_from (point_at a.cols.now.offsets.now a.cols.now.numbers.now) 0 a.count in
    handed-on _ _ c.from_residual.ensures.1 ∙ sym (limits-8 a.train a.own.0 q present (length a.cols.now.speeds.now) (told-err (each _ _ c.ask_each.ensures) c.in_err-ask_each.was ∙ ap (ask_each 8) c.points_finite-sums.ensures) (numbered _))

pub overflow_mul-laid : goal.overflow_mul-laid
overflow_mul-laid c =
    let a = c.args in
    let q = sets_of (table a.network.now) in
    record { fits = omega (arith, c.requires.count_bound, c.points_count-laid.ensures.upper_bound) }

pub overflow_add-laid : goal.overflow_add-laid
overflow_add-laid c =
    let a = c.args in
    let q = sets_of (table a.network.now) in
    record { fits = omega (arith, c.requires.count_bound, c.points_count-laid.ensures.upper_bound) }

pub returns : goal.returns
returns c =
    let a = c.args in
    let q = sets_of (table a.network.now) in
    let present = up_from (point_at a.cols.now.offsets.now a.cols.now.numbers.now) 0 a.count in
    let n = length a.cols.now.speeds.now in
    once _ _ c.ask.ensures ∙ ap (ask 9) (c.within.ensures ∙ ap (λ (k : ℕ). is_within_all (1 + 2 * k) 4096 (n / 2) (n / 2)) c.points_count-laid.ensures.count) ∙ sym (limits-9 a.train a.own.0 q present n (told-ok (each _ _ c.ask_each.ensures) c.in_ok-ask_each.was ∙ ap (ask_each 8) c.points_finite-sums.ensures) refl)
