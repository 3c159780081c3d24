-- `strictly_between`: the tests of `strictly_between`, in its order.
use Prim.Native.Nat.{ℕ}
use native.Mathlib.Omega.{arith}
use mathlib.Core.Path.{sym, ap, ◌∙◌}
use mathlib.Core.Bool.{◌&&◌}
use lib.Ieee as Ieee
use lib.Ieee.{Float}
use Rattle.speed.specs.Insert.{between}
use Rattle.speed.proofs.InsertSteps.{between-yes, between-no}
use Rattle.original.proofs.Inserted.{last-reached, last-after, first_found}
use Rattle.original.proofs.insert.strictly_between.Goals as goal

pub returns-then-offset_at-l : goal.returns-then-offset_at-l
returns-then-offset_at-l c =
    let a = c.args in
    let s = a.l.offset_start.0 in
    last-reached s a.l.offset_end.0 a.points.now c.len-last.result (sym c.len-last.ensures) (sym (ap (λ (o : Float). Ieee.le o s) c.offset_at.ensures) ∙ c.if-offset_at-l.true)

pub offset_at-requires-then-i-gt0 : goal.offset_at-requires-then-i-gt0
offset_at-requires-then-i-gt0 c =
    let a = c.args in
    let s = a.l.offset_start.0 in
    let late = sym (ap (λ (o : Float). Ieee.le o s) c.offset_at.ensures) ∙ c.if-offset_at-l.false in
    let found = first_found s a.l.offset_end.0 a.points.now c.len-last.result (sym c.len-last.ensures) late (omega (arith, c.requires, c.len-last.ensures)) in
    omega (arith, found, c.first_from-i.ensures, c.len-last.ensures)

pub returns-then-i-gt0 : goal.returns-then-i-gt0
returns-then-i-gt0 c =
    let a = c.args in
    let ps = a.points.now in
    let s = a.l.offset_start.0 in
    let e = a.l.offset_end.0 in
    let late = sym (ap (λ (o : Float). Ieee.le o s) c.offset_at.ensures) ∙ c.if-offset_at-l.false in
    ap (λ (o : Float). Ieee.le s e && Ieee.lt e o) c.offset_at-then-i-gt0.ensures
    ∙ sym (between-yes s e c.first_from-i.result ps c.if-i-gt0.true)
    ∙ ap (λ (i : ℕ). between s e i ps) c.first_from-i.ensures
    ∙ sym (last-after s e ps c.len-last.result (sym c.len-last.ensures) late)

pub returns : goal.returns
returns c =
    let a = c.args in
    let ps = a.points.now in
    let s = a.l.offset_start.0 in
    let e = a.l.offset_end.0 in
    let late = sym (ap (λ (o : Float). Ieee.le o s) c.offset_at.ensures) ∙ c.if-offset_at-l.false in
    between-no s e c.first_from-i.result ps c.if-i-gt0.false
    ∙ ap (λ (i : ℕ). between s e i ps) c.first_from-i.ensures
    ∙ sym (last-after s e ps c.len-last.result (sym c.len-last.ensures) late)
