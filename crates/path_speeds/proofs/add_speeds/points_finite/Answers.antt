-- `points_finite`: from point k on the first no is that of all.
use native.Mathlib.Nat.{sub-zero}
use native.Mathlib.Omega.{arith}
use mathlib.Core.Path.{sym, ap, ◌∙◌}
use mathlib.Core.List.{List, map}
use Rattle.link.specs.Lists.{every, up_from, first_no}
use Rattle.path.specs.declared.link_point.LinkPoint.{LinkPoint}
use Rattle.path.specs.Records.{point_at}
use Rattle.link.proofs.Judging.{said-no-of, said-yes-of}
use Rattle.link.proofs.Loops.{first-pass, first-fail, first-end}
use Rattle.link.specs.Table.{table}
use Rattle.path_speeds.specs.Limits.{sets_of, point_few, point_finite}
use Rattle.link.proofs.Known.{every-next}
use mathlib.Core.Path.{ap}
use mathlib.Core.Bool.{not}
use Rattle.path_speeds.proofs.add_speeds.points_finite.Goals as goal

pub loop-k-init : goal.loop-k-init
loop-k-init c =
    let a = c.args in
    let q = sets_of (table a.network.now) in
    let at = point_at a.offsets.now a.numbers.now in
    let all = ap (up_from at 0) (sub-zero a.count) in
    (ap (every (point_few a.train q)) all ∙ c.requires, ap (λ (ps : List LinkPoint). first_no (map (point_finite a.train a.length.0 q) ps)) all)

pub link_finite-requires : goal.link_finite-requires
link_finite-requires c =
    let a = c.args in
    let q = sets_of (table a.network.now) in
    let at = point_at a.offsets.now a.numbers.now in record { i_bound = omega arith; i_value = ap (point_few a.train q) c.link_point_at-p.ensures ∙ (every-next at (point_few a.train q) c.loop-k.k a.count c.loop-k-test.true c.loop-k.invariant.0).0 }

pub returns-then-not-link_finite : goal.returns-then-not-link_finite
returns-then-not-link_finite c =
    let a = c.args in
    let q = sets_of (table a.network.now) in
    let at = point_at a.offsets.now a.numbers.now in
    let k = c.loop-k.k in
    let ok = point_finite a.train a.length.0 q in
    sym (first-fail at ok k a.count c.loop-k-test.true (said-no-of ok c.link_point_at-p.result (at k) c.link_finite.ensures c.link_point_at-p.ensures (ap not c.if-not-link_finite.true))) ∙ c.loop-k.invariant.1

pub loop-k-preserved : goal.loop-k-preserved
loop-k-preserved c =
    let a = c.args in
    let q = sets_of (table a.network.now) in
    let at = point_at a.offsets.now a.numbers.now in
    let k = c.loop-k.k in
    let ok = point_finite a.train a.length.0 q in (
      (every-next at (point_few a.train q) c.loop-k.k a.count c.loop-k-test.true c.loop-k.invariant.0).1,
      sym (first-pass at ok k a.count c.loop-k-test.true (said-yes-of ok c.link_point_at-p.result (at k) c.link_finite.ensures c.link_point_at-p.ensures (ap not c.if-not-link_finite.false))) ∙ c.loop-k.invariant.1,
    )

pub returns : goal.returns
returns c =
    let a = c.args in
    let q = sets_of (table a.network.now) in
    let at = point_at a.offsets.now a.numbers.now in
    sym (first-end at (point_finite a.train a.length.0 q) c.loop-k.k a.count c.loop-k-test.false) ∙ c.loop-k.invariant.1
