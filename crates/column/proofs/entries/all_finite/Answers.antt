-- `all_finite`: after so many turns the answer is that for so many entries.
use Prim.Native.Nat.{◌+◌}
use mathlib.Core.Path.{◌≡◌, refl, sym, ap₂, ◌∙◌}
use mathlib.Core.Bool.{◌&&◌, false}
use lib.ListN.{take, get_or}
use lib.Ieee.{nan, binary64}
use lib.Ieee.Scale.{finite}
use Rattle.ieee.specs.Number.{all_finite}
use Rattle.ieee.proofs.Same.{zero-literal}
use Rattle.ieee.proofs.Sum.{finite-sub}
use Rattle.column.proofs.Finite.{finite-more}
use Rattle.column.proofs.entries.all_finite.Goals as goal

pub loop-x-init : goal.loop-x-init
unfolding all_finite
loop-x-init c = refl

pub loop-x-preserved : goal.loop-x-preserved
loop-x-preserved c =
    let l = take c.min.result c.args.col.now in
    let i = c.loop-x.x-index in
    let more : all_finite (take (i + 1) l) ≡ (all_finite (take i l) && finite (get_or l i nan)) = finite-more l i nan c.loop-x-test.true in
    ap₂ ◌&&◌ c.loop-x.invariant (rw zero-literal (finite-sub binary64 (get_or l i nan) false)) ∙ sym more
