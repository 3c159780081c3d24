-- The constants that `extend` computes at run time, computed here: REV / 2.0 and DEG / (FT * 100.0), each operation rounded once.
use mathlib.Core.Path.{◌≡◌, refl}
use lib.Ieee.{binary64, of_bits, mul, div}
use Rattle.ieee.specs.Number.{◌⊗◌, ◌⊘◌}
use Rattle.si.specs.Constants.{rev, half_rev, deg, ft, one_degree_per100ft}

pub half-rev : rev ⊘ of_bits binary64 0x4000_0000_0000_0000 ≡ half_rev
unfolding div of_bits
half-rev = refl

pub one-degree : deg ⊘ (ft ⊗ of_bits binary64 0x4059_0000_0000_0000) ≡ one_degree_per100ft
unfolding mul div of_bits
one-degree = refl
