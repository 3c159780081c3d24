-- `going`: the trims that are left, from the first link point that stays on, give the answer of the whole list.
use native.Mathlib.Omega.{arith}
use mathlib.Core.Path.{refl, ap}
use Rattle.path.specs.Records.{link_points}
use Rattle.path.proofs.LinkPoints.{length-links}
use Rattle.path.proofs.Told.{numbered, told-err, told-ok}
use Rattle.path_clear.specs.TrimsByPoints.{Progress}
use Rattle.path_clear.proofs.Gone.{going-all, going-refused, going_next, next-below, got-refused}
use Rattle.path_clear.proofs.clear_each.going.Goals as goal

pub returns-in-Err : goal.returns-in-Err
returns-in-Err c =
    let a = c.args in
    let l = c.loop-k in
    let ps = link_points a.n a.cols.now.offsets.now a.cols.now.numbers.now in
    let stopped = going-refused ps a.xs.now l.gone l.k l.invariant.2 c.loop-k-test.true refl (told-err c.trim_answer.ensures c.in-Err.is) (numbered _) in
    got-refused _ _ _ c.refused_at.ensures (ap (λ (g : Progress). g.answer) stopped)

pub loop-k-preserved : goal.loop-k-preserved
loop-k-preserved c =
    let a = c.args in
    let l = c.loop-k in
    let ps = link_points a.n a.cols.now.offsets.now a.cols.now.numbers.now in
    let h = c.loop-k-test.true in
    let asked = told-ok c.trim_answer.ensures c.in_default.is in
    let m = c.drop_from-gone.ensures in (
      omega arith,
      omega (arith, next-below ps a.xs.now l.gone l.k l.invariant.2 h refl asked refl m, length-links a.n a.cols.now.offsets.now a.cols.now.numbers.now),
      going_next ps a.xs.now l.gone l.k l.invariant.2 h refl asked refl m,
    )

pub returns : goal.returns
returns c =
    let a = c.args in
    let l = c.loop-k in
    going-all (link_points a.n a.cols.now.offsets.now a.cols.now.numbers.now) a.xs.now l.gone l.k l.invariant.2 c.loop-k-test.false
