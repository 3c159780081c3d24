-- `samples_formed`: none; one only; and then the first sample and the rise.
use Rattle.std.proofs.Common.{sym, arith}
use Rattle.ieee.proofs.Same.{zero-literal}
use Rattle.link.specs.Table.{sample_at}
use Rattle.link.proofs.Formed.{samples-none, samples-one, samples-more}
use Rattle.link.proofs.elev.samples_formed.Goals as goal

pub returns-then-count-eq0 : goal.returns-then-count-eq0
returns-then-count-eq0 c =
    let a = c.args in
    sym (samples-none (sample_at a.col.now) a.length.0 a.first a.count c.if-count-eq0.true)

pub returns-then-count-eq1 : goal.returns-then-count-eq1
returns-then-count-eq1 c =
    let a = c.args in
    sym (samples-one (sample_at a.col.now) a.length.0 a.first a.count c.if-count-eq1.true)

pub returns : goal.returns
returns c =
    let a = c.args in
    rw (c.rise_to.ensures, c.is_finite.ensures, c.is_finite-2.ensures, c.sample_in-t.ensures, zero-literal) (sym (samples-more (sample_at a.col.now) a.length.0 a.first a.count (omega arith)))
