-- `cut`: each column without its first records.
use native.Mathlib.Omega.{arith}
use mathlib.Core.Path.{ap, ◌∙◌}
use lib.ListN.{get_or}
use Rattle.ieee.specs.Number.{+0}
use Rattle.path.specs.Records.{Columns, held}
use Rattle.path.proofs.Clauses.{bounds, room, some-records, sound-within}
use Rattle.path_clear.proofs.Cut.{few-go, cut_left}
use Rattle.path_clear.proofs.clear.cut.Goals as goal

pub overflow_mul-d : goal.overflow_mul-d
overflow_mul-d c =
    let a = c.args in
    let l = held a.cols.now in
    record { fits = omega (arith, (bounds a.p l (sound-within a.p l c.requires.known).1).0, c.requires.d_bound) }

pub overflow_mul-p : goal.overflow_mul-p
overflow_mul-p c =
    let a = c.args in
    let l = held a.cols.now in
    record { fits = omega (arith, (bounds a.p l (sound-within a.p l c.requires.known).1).0) }

pub overflow_mul-dropped : goal.overflow_mul-dropped
overflow_mul-dropped c =
    let a = c.args in
    let l = held a.cols.now in
    record { fits = omega (arith, (bounds a.p l (sound-within a.p l c.requires.known).1).1, (few-go a.p l c.requires.known a.d c.requires.counts).0) }

pub overflow_mul-p-2 : goal.overflow_mul-p-2
overflow_mul-p-2 c =
    let a = c.args in
    let l = held a.cols.now in
    record { fits = omega (arith, (bounds a.p l (sound-within a.p l c.requires.known).1).1) }

pub overflow_mul-dropped-2 : goal.overflow_mul-dropped-2
overflow_mul-dropped-2 c =
    let a = c.args in
    let l = held a.cols.now in
    record { fits = omega (arith, (bounds a.p l (sound-within a.p l c.requires.known).1).2, (few-go a.p l c.requires.known a.d c.requires.counts).1) }

pub overflow_mul-p-3 : goal.overflow_mul-p-3
overflow_mul-p-3 c =
    let a = c.args in
    let l = held a.cols.now in
    record { fits = omega (arith, (bounds a.p l (sound-within a.p l c.requires.known).1).2) }

pub clear_points-speed_count-requires : goal.clear_points-speed_count-requires
clear_points-speed_count-requires c =
    let a = c.args in
    let l = held a.cols.now in record { n_nonzero = (some-records a.p l (sound-within a.p l c.requires.known).0).2; n_in_bounds = (room a.p l (sound-within a.p l c.requires.known).1).speeds }

pub overflow_mul-dropped-3 : goal.overflow_mul-dropped-3
overflow_mul-dropped-3 c =
    let a = c.args in
    let l = held a.cols.now in
    record { fits = omega (arith, (bounds a.p l (sound-within a.p l c.requires.known).1).4, (few-go a.p l c.requires.known a.d c.requires.counts).2) }

pub overflow_mul-p-4 : goal.overflow_mul-p-4
overflow_mul-p-4 c =
    let a = c.args in
    let l = held a.cols.now in
    record { fits = omega (arith, (bounds a.p l (sound-within a.p l c.requires.known).1).4) }

pub overflow_sub-result : goal.overflow_sub-result
overflow_sub-result c = omega (arith, c.requires.d_bound)

pub overflow_sub-result-2 : goal.overflow_sub-result-2
overflow_sub-result-2 c =
    let a = c.args in
    let l = held a.cols.now in
    (few-go a.p l c.requires.known a.d c.requires.counts).0

pub overflow_sub-result-3 : goal.overflow_sub-result-3
overflow_sub-result-3 c =
    let a = c.args in
    let l = held a.cols.now in
    (few-go a.p l c.requires.known a.d c.requires.counts).1

pub overflow_sub-result-4 : goal.overflow_sub-result-4
overflow_sub-result-4 c =
    let a = c.args in
    let l = held a.cols.now in
    (few-go a.p l c.requires.known a.d c.requires.counts).2

pub returns-clause-outcome : goal.returns-clause-outcome
returns-clause-outcome c =
    let a = c.args in
    let l = held a.cols.now in
    cut_left a.p l a.d c.requires.known c.requires.d_bound c.requires.counts (c.get.ensures ∙ ap (λ (k : Columns). get_or k.offsets a.d +0) c.reading.ensures) c.move_front.ensures c.move_front-2.ensures c.move_front-3.ensures c.move_front-4.ensures c.clear_points-speed_count.ensures c.clear_points-speed_count.auto.col c.move_front-5.ensures c.move_front-6.ensures
