-- `numbers_real`: one point; a point without a number; and then the end point's number and the last link's.
use mathlib.Core.Path.{sym, ap, ap₂, ◌∙◌}
use lib.Dec.{eqb}
use native.Mathlib.Omega.{arith}
use Rattle.path.specs.declared.link_point.LinkPoint.{LinkPoint}
use Rattle.path.specs.Records.{number_of}
use Rattle.path.proofs.Ordered.{real-one, real-fail, real-more}
use Rattle.path.proofs.sound.numbers_real.Goals as goal

pub link_point_at-end-requires : goal.link_point_at-end-requires
link_point_at-end-requires c = tt

pub returns-then-n-eq1 : goal.returns-then-n-eq1
returns-then-n-eq1 c =
    let a = c.args in
    ap (λ (p : LinkPoint). eqb (number_of p) 0) c.link_point_at-end.ensures ∙ sym (real-one a.offsets.now a.numbers.now a.n c.if-n-eq1.true)

pub all_numbered-requires : goal.all_numbered-requires
all_numbered-requires c = record { n_in_bounds = omega arith; n_in_bounds_2 = omega arith }

pub returns-then-not-all_numbered : goal.returns-then-not-all_numbered
returns-then-not-all_numbered c =
    let a = c.args in
    sym (real-fail a.offsets.now a.numbers.now a.n c.if-n-eq1.false (sym c.all_numbered.ensures ∙ c.if-not-all_numbered.true))

pub link_point_at-requires : goal.link_point_at-requires
link_point_at-requires c = tt

pub returns : goal.returns
returns c =
    let a = c.args in
    ap₂ (λ (p q : LinkPoint). eqb (number_of p) (number_of q)) c.link_point_at-end.ensures c.link_point_at.ensures
    ∙ sym (real-more a.offsets.now a.numbers.now a.n (omega arith) (sym c.all_numbered.ensures ∙ c.if-not-all_numbered.false))
