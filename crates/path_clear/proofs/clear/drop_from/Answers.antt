-- `drop_from`: the link points that are passed and those that still are to go make up the answer.
use Prim.Native.Nat.{◌+◌, ◌-◌}
use native.Mathlib.Omega.{arith}
use mathlib.Core.Path.{◌≡◌, ◌∙◌}
use mathlib.Core.Bool.{true, false}
use lib.ListN.{get_or}
use lib.Ieee as Ieee
use Rattle.ieee.specs.Number.{+0}
use Rattle.path_clear.proofs.Gone.{behind-first, behind_more, behind-stop, behind-all}
use Rattle.path_clear.proofs.clear.drop_from.Goals as goal

pub loop-i-init : goal.loop-i-init
loop-i-init c =
    let a = c.args in
    (omega arith, λ h. behind-first a.x a.cols.now.offsets.now a.cols.now.numbers.now a.n a.from h)

pub returns-then-not-get-x : goal.returns-then-not-get-x
returns-then-not-get-x c =
    let a = c.args in
    let l = c.loop-i in
    let h = c.requires in
    let ok : Ieee.lt (get_or a.cols.now.offsets.now (l.i + 1) +0) a.x ≡ false = rw (← c.get.ensures) c.if-not-get-x.true in
    behind-stop a.x a.cols.now.offsets.now a.cols.now.numbers.now a.n a.from h l.i (l.invariant.1 h) (omega arith) ok

pub loop-i-preserved : goal.loop-i-preserved
loop-i-preserved c =
    let a = c.args in
    let l = c.loop-i in
    let ok : Ieee.lt (get_or a.cols.now.offsets.now (l.i + 1) +0) a.x ≡ true = rw (← c.get.ensures) c.if-not-get-x.false in
    (omega arith, λ h. behind_more a.x a.cols.now.offsets.now a.cols.now.numbers.now a.n a.from h l.i (l.invariant.1 h) (omega arith) ok)

pub returns : goal.returns
returns c =
    let a = c.args in
    let l = c.loop-i in
    let h = c.requires in
    let e : a.n - 1 ≡ l.i = omega arith in
    e ∙ behind-all a.x a.cols.now.offsets.now a.cols.now.numbers.now a.n a.from h l.i (l.invariant.1 h) (omega arith)
