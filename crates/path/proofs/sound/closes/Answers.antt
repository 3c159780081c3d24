-- `closes`: with no record the answer is no; otherwise the last one is record m - 1.
use Prim.Native.Nat.{◌-◌}
use native.Mathlib.Omega.{arith}
use lib.Ieee.{eq}
use Rattle.column.specs.Records.{records}
use Rattle.column.proofs.Bridge.{length-records}
use Rattle.lookup.specs.Coeff.{triple}
use Rattle.lookup.proofs.Coeffs.{triple-lawful, infinity}
use Rattle.path.proofs.Counts.{offset-of}
use Rattle.path.proofs.sound.closes.Goals as goal

pub returns-then-m-eq0 : goal.returns-then-m-eq0
unfolding records eq
returns-then-m-eq0 c = rw c.if-m-eq0.true

pub returns : goal.returns
returns c =
    let m = c.args.m in
    let l = c.args.col.now in
    cc (length-records triple triple-lawful m l, offset-of m l (m - 1) (omega arith), infinity)
