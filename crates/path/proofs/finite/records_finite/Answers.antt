-- `records_finite`: a column no longer than n is taken whole either way; otherwise the product fits.
use Prim.Native.Nat.{◌*◌, ◌≤◌}
use native.Mathlib.Nat.{mul-le-mul_right}
use native.Mathlib.Omega.{arith}
use mathlib.Core.Path.{sym, ap, ◌∙◌}
use lib.ListN.{length}
use lib.Seq.{take_all, take-length}
use Rattle.ieee.specs.Number.{all_finite}
use Rattle.path.proofs.finite.records_finite.Goals as goal

pub returns-then-col-n : goal.returns-then-col-n
returns-then-col-n c =
    let n = c.args.n in
    let l = c.args.col.now in
    let w = c.args.w in
    let long : length l ≤ w * n = omega (arith, mul-le-mul_right {m = 1} {n = w} n c.requires.w_nonzero) in
    c.all_finite.ensures ∙ ap all_finite (take-length l ∙ sym (take_all (w * n) l long))

pub overflow_mul-w : goal.overflow_mul-w
overflow_mul-w c = omega (arith, mul-le-mul_right {m = c.args.w} {n = 3} c.args.n (omega arith))
