-- `lay_stretches`: with the stretches that are left laid on the records so far, they are the records with all of them.
use Prim.Native.Nat.{◌+◌}
use native.Mathlib.Omega.{arith}
use mathlib.Core.Path.{refl, sym, ap, ◌∙◌}
use mathlib.Core.List.{List}
use Rattle.lookup.specs.declared.path_res_coeff.PathResCoeff.{PathResCoeff}
use Rattle.link.specs.Table.{sample_at}
use Rattle.path.specs.Sound.{is_curves}
use Rattle.path_stretches.specs.Stretches.{stretch_step, lay_stretches}
use Rattle.path_stretches.specs.Becomes.{coeffs_of}
use Rattle.path_stretches.proofs.StretchSteps.{stretches_at, count_none, count-some, count-range}
use Rattle.path_stretches.proofs.StretchesLaid.{becomes-as, becomes-on, lay-next, lay-none, lay-flat, lay-all}
use Rattle.path_stretches.proofs.coeff_column.CoeffColumn.lay_stretches.Goals as goal

pub lay-requires : goal.lay-requires
lay-requires c =
    let a = c.args in
    omega (arith, c.requires.room, count-range (sample_at a.pool.now) a.first a.count, count_none a.count c.if-count-eq0.true)

pub returns-then-count-eq0 : goal.returns-then-count-eq0
returns-then-count-eq0 c =
    let a = c.args in
    becomes-as _ c.lay.ensures.becomes (lay-flat (is_curves a.lines) a.train a.base.0 a.length.0 (sample_at a.pool.now) a.first a.count (coeffs_of a.self.now) c.last.ensures c.if-count-eq0.true c.flat_stretch.ensures)

pub loop-i-init : goal.loop-i-init
loop-i-init c = (omega arith, record { same = refl; long = refl; holds = refl }, refl)

pub lay-requires-in-loop-i : goal.lay-requires-in-loop-i
lay-requires-in-loop-i c =
    let a = c.args in
    let l = c.loop-i in
    omega (arith, c.requires.room, l.invariant.0, l.invariant.1.long, count-range (sample_at a.pool.now) a.first a.count, count-some a.count (omega arith))

pub loop-i-preserved : goal.loop-i-preserved
loop-i-preserved c =
    let a = c.args in
    let l = c.loop-i in
    let step = stretch_step (is_curves a.lines) a.train a.base.0 in
    let end = a.first + a.count in
    let lay = c.lay-in-loop-i.ensures in (
      omega (arith, lay.count),
      becomes-on l.invariant.1 lay.becomes,
      ap (λ (gs : List PathResCoeff). lay_stretches gs (stretches_at step (sample_at a.pool.now) end c.stretch_at-s.result.net.0 (l.i + 1))) lay.becomes.holds ∙ sym (lay-next step (sample_at a.pool.now) end l.net.0 l.i (coeffs_of l.self) (omega arith) c.stretch_at-s.ensures) ∙ l.invariant.2,
    )

pub returns : goal.returns
returns c =
    let a = c.args in
    let l = c.loop-i in
    let step = stretch_step (is_curves a.lines) a.train a.base.0 in
    let end = a.first + a.count in
    let all = lay-all (is_curves a.lines) a.train a.base.0 a.length.0 (sample_at a.pool.now) a.first a.count (coeffs_of a.self.now) c.last.ensures (omega arith) in
    becomes-as _ l.invariant.1 (sym (lay-none step (sample_at a.pool.now) end l.net.0 l.i (coeffs_of l.self) (omega arith)) ∙ l.invariant.2 ∙ all)
