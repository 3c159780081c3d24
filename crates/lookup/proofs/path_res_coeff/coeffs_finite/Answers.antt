-- `coeffs_finite`: no record; a column that ends before the last one; and the last one entry by entry.
use Prim.Native.Nat.{◌-◌, ◌*◌}
use mathlib.Core.Path.{◌≡◌, sym, ap, ◌∙◌}
use native.Mathlib.Omega.{arith}
use lib.Seq.{take_all}
use Rattle.ieee.specs.Number.{all_finite}
use Rattle.lookup.specs.Coeff.{coeffs_finite}
use Rattle.lookup.proofs.Coeffs.{finite-short, finite-entries}
use Rattle.lookup.proofs.path_res_coeff.coeffs_finite.Goals as goal

pub returns-then-n-eq0 : goal.returns-then-n-eq0
unfolding coeffs_finite
returns-then-n-eq0 c = rw c.if-n-eq0.true

pub returns-then-col-k : goal.returns-then-col-k
returns-then-col-k c =
    let a = c.args in
    let l = a.col.now in
    let k = c.saturating_mul-k in
    let e = ap all_finite (take_all k.result l c.if-col-k.true) in
    c.all_finite-before.ensures ∙ e ∙ sym (finite-short a.closes a.n l (omega arith) (omega (arith, k.ensures)))

pub returns : goal.returns
returns c =
    let k : c.saturating_mul-k.result ≡ 3 * (c.args.n - 1) = omega (arith, c.saturating_mul-k.ensures) in
    cc (k, finite-entries c.args.closes c.args.n c.args.col.now (omega arith) (omega arith))
