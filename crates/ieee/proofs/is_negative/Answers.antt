-- `is_negative`: the sign bit is the highest; a NaN, which has none, differs from itself.
use mathlib.Core.Path.{sym}
use lib.Ieee.{binary64}
use Rattle.ieee.proofs.Order.{of-true}
use Rattle.ieee.proofs.Same.{real-is, sign_bit, nan-clear, no_nan}
use Rattle.ieee.proofs.is_negative.Goals as goal

pub returns-then-x : goal.returns-then-x
returns-then-x c = sym (nan-clear c.args.x c.if-x.true)

pub float_to_bits-result : goal.float_to_bits-result
float_to_bits-result c = rw real-is (no_nan c.args.x c.if-x.false)

pub returns : goal.returns
returns c =
    let x = c.args.x in
    sign_bit binary64 x (of-true c.well_formed.0.1) (no_nan x c.if-x.false)
