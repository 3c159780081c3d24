-- The constants of uc.rs that the planner uses, as the bits that they have at run time. Definitions only.
use Rattle.std.specs.Prelude.{Float}
use Rattle.std.specs.Float.{binary64}
use Rattle.std.specs.Float.Ieee.{of_bits}

-- REV, 6.283185307179586
abbrev pub rev : Float
rev = of_bits binary64 0x4019_21fb_5444_2d18

-- REV / 2, 3.141592653589793
abbrev pub half_rev : Float
half_rev = of_bits binary64 0x4009_21fb_5444_2d18

-- DEG, 0.017453292519943295
abbrev pub deg : Float
deg = of_bits binary64 0x3f91_df46_a252_9d39

-- FT, 0.3048
abbrev pub ft : Float
ft = of_bits binary64 0x3fd3_81d7_dbf4_87fd

-- DEG / (FT * 100), 0.000572614583987641
abbrev pub one_degree_per100ft : Float
one_degree_per100ft = of_bits binary64 0x3f42_c370_74aa_0d36
