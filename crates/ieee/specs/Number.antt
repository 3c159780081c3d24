-- Numbers of binary64, R2 to R5: sign, size, zero, and the operations with one rounding each. Definitions only.
use Rattle.std.specs.Prelude.{Bool, true, false, ◌&&◌, List, [], ◌∷◌, eqb, pos, Float}
use Rattle.std.specs.Float.Ieee as Ieee
use Rattle.std.specs.Float.{nan, inf, fin, binary64}
use Rattle.std.specs.Float.Ieee.Scale.{finite}

infixl 75 ◌⊕◌ ◌⊖◌
infixl 80 ◌⊗◌ ◌⊘◌
-- no NaN
abbrev pub real : Float → Bool
real nan = false
real (inf s) = true
real (fin s m e) = true

-- the sign bit, clear for a NaN
abbrev pub sign : Float → Bool
sign nan = false
sign (inf s) = s
sign (fin s m e) = s

-- +0 or -0
abbrev pub is_zero : Float → Bool
is_zero nan = false
is_zero (inf s) = false
is_zero (fin s m e) = eqb m 0

-- the zero with the sign s
abbrev pub zero_of : Bool → Float
zero_of s = fin s 0 (pos 0)

abbrev pub +0 : Float
+0 = zero_of false

abbrev pub +∞ : Float
+∞ = inf false

-- R4: the same number with a clear sign bit
abbrev pub size : Float → Float
size nan = nan
size (inf s) = inf false
size (fin s m e) = fin false m e

-- sum, difference, product and quotient, each rounded once
abbrev pub ◌⊕◌ : Float → Float → Float
x ⊕ y = Ieee.add binary64 x y

abbrev pub ◌⊖◌ : Float → Float → Float
x ⊖ y = Ieee.sub binary64 x y

abbrev pub ◌⊗◌ : Float → Float → Float
x ⊗ y = Ieee.mul binary64 x y

abbrev pub ◌⊘◌ : Float → Float → Float
x ⊘ y = Ieee.div binary64 x y

-- every number of a list is finite
unfoldable pub all_finite : List Float → Bool
all_finite [] = true
all_finite (x ∷ xs) = finite x && all_finite xs
