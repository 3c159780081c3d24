-- `bits`: what is equal to itself is no NaN.
use Rattle.ieee.proofs.Same.{real-is, no_nan}
use Rattle.replay.proofs.print.bits.Goals as goal

pub float_to_bits-result : goal.float_to_bits-result
float_to_bits-result c = rw real-is (no_nan c.args.x c.if-x.false)
