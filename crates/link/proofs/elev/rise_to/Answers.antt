-- `rise_to`: from sample i on, with the answer so far, the answer is that from the first on.
use Rattle.std.proofs.Common.{sym, refl, ◌∙◌, arith}
use Rattle.link.specs.Table.{sample_at}
use Rattle.link.proofs.Formed.{rising-more, rising_none}
use Rattle.link.proofs.elev.rise_to.Goals as goal

pub loop-i-init : goal.loop-i-init
loop-i-init c = (c.requires.first_le_end, refl)

pub is_finite-requires : goal.is_finite-requires
is_finite-requires c = tt

pub is_finite-requires-in-loop-i : goal.is_finite-requires-in-loop-i
is_finite-requires-in-loop-i c = tt

pub loop-i-preserved : goal.loop-i-preserved
loop-i-preserved c =
    let a = c.args in
    let l = c.loop-i in
    (omega arith, rw (c.is_finite.ensures, c.is_finite-in-loop-i.ensures, c.sample_in-t.ensures) (sym (rising-more (sample_at a.col.now) a.length l.last l.i a.end l.ok c.loop-i-test.true) ∙ l.invariant.1))

pub returns : goal.returns
returns c =
    let a = c.args in
    let l = c.loop-i in
    sym (rising_none (sample_at a.col.now) a.length l.last l.i a.end l.ok c.loop-i-test.false) ∙ l.invariant.1
