-- A sum, difference, product or quotient of binary64 that is finite: which of its operands are finite then.
use mathlib.Core.Bool.{Bool, true, false, beq, cond}
use lib.Dec.{T, eqb}
use lib.Ieee.{Float, nan, inf, fin, unlike, add, sub, mul, div, neg}
use lib.Ieee.Scale.{finite}
use Rattle.ieee.specs.Number.{◌⊕◌, ◌⊖◌, ◌⊗◌, ◌⊘◌}

-- neither of two numbers is finite
neither : (b : Bool) (x y : Float) → (T (finite x) → ⊥) → (T (finite y) → ⊥) → T (finite (cond b x y)) → ⊥
neither true x y h k t = h t
neither false x y h k t = k t

add-finite-l : (x y : Float) → T (finite (x ⊕ y)) → T (finite x)
unfolding add
add-finite-l nan y t = t
add-finite-l (inf s) nan t = t
add-finite-l (inf s) (inf u) t = neither (beq s u) (inf s) nan (λ z. z) (λ z. z) t
add-finite-l (inf s) (fin u n d) t = t
add-finite-l (fin s m e) y t = tt

pub add-finite-r : (x y : Float) → T (finite (x ⊕ y)) → T (finite y)
unfolding add
add-finite-r nan y t = absurd t
add-finite-r (inf s) nan t = t
add-finite-r (inf s) (inf u) t = neither (beq s u) (inf s) nan (λ z. z) (λ z. z) t
add-finite-r (inf s) (fin u n d) t = tt
add-finite-r (fin s m e) nan t = t
add-finite-r (fin s m e) (inf u) t = t
add-finite-r (fin s m e) (fin u n d) t = tt

pub sub-finite-l : (x y : Float) → T (finite (x ⊖ y)) → T (finite x)
unfolding sub
sub-finite-l x y t = add-finite-l x (neg y) t

pub sub-finite-r : (x y : Float) → T (finite (x ⊖ y)) → T (finite y)
unfolding sub neg
sub-finite-r x y t = back y (add-finite-r x (neg y) t)
  where
    back : (y : Float) → T (finite (neg y)) → T (finite y)
    back nan t = t
    back (inf s) t = t
    back (fin s m e) t = tt

pub mul-finite-l : (x y : Float) → T (finite (x ⊗ y)) → T (finite x)
unfolding mul
mul-finite-l nan y t = t
mul-finite-l (inf s) nan t = t
mul-finite-l (inf s) (inf u) t = t
mul-finite-l (inf s) (fin u n d) t = neither (eqb n 0) nan (inf (unlike s u)) (λ z. z) (λ z. z) t
mul-finite-l (fin s m e) y t = tt

pub mul-finite-r : (x y : Float) → T (finite (x ⊗ y)) → T (finite y)
unfolding mul
mul-finite-r nan y t = absurd t
mul-finite-r (inf s) nan t = t
mul-finite-r (inf s) (inf u) t = t
mul-finite-r (inf s) (fin u n d) t = tt
mul-finite-r (fin s m e) nan t = t
mul-finite-r (fin s m e) (inf u) t = neither (eqb m 0) nan (inf (unlike s u)) (λ z. z) (λ z. z) t
mul-finite-r (fin s m e) (fin u n d) t = tt

pub div-finite-l : (x y : Float) → T (finite (x ⊘ y)) → T (finite x)
unfolding div
div-finite-l nan y t = t
div-finite-l (inf s) nan t = t
div-finite-l (inf s) (inf u) t = t
div-finite-l (inf s) (fin u n d) t = t
div-finite-l (fin s m e) y t = tt
