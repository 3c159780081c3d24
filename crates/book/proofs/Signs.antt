-- The sign bit of a sum: clear where one operand's is and the other is not negative. (-0 and +0 make +0.) A law of numbers alone, for `ieee`.
use Prim.Native.Nat.{ℕ, ◌+◌, ◌-◌, ◌*◌}
use native.Mathlib.Nat.{zero-mul}
use native.Mathlib.Omega.{arith}
use mathlib.Core.Path.{◌≡◌, refl, sym, ap, ◌∙◌, subst}
use mathlib.Core.Bool.{Bool, true, false, cond, false≢true}
use lib.IntN.{ℤ}
use lib.Dec.{T, ltb, eqb→eq}
use lib.Arith.{le→nltb}
use lib.Ieee as Ieee
use lib.Ieee.{Float, nan, inf, fin, Format, up, down, round, sum, add}
use lib.Ieee.Bits.{is_false}
use Rattle.ieee.specs.Number.{sign, zero_of}
use Rattle.ieee.proofs.Order.{le-real-r}
use Rattle.ieee.proofs.Sizes.{le-zero}
use Rattle.ieee.proofs.Round.{round-sign}

both-clear : (f : Format) (m : ℕ) (e : ℤ) (n : ℕ) (d : ℤ) → sign (add f (fin false m e) (fin false n d)) ≡ false
unfolding add sum
both-clear f m e n d = round-sign f false (m * up e * down d + n * up d * down e) (down e * down d)

sum-zero : (f : Format) (a b c : ℕ) → a ≡ 0 → sign (sum f true a false b c) ≡ false
unfolding sum
sum-zero f a b c z = pick (ltb a b)
  where
    pick : (t : Bool) → sign (cond t (round f false (b - a) c) (round f (ltb b a) (a - b) c)) ≡ false
    pick true = round-sign f false (b - a) c
    pick false = round-sign f (ltb b a) (a - b) c ∙ is_false (ltb b a) (le→nltb b a (omega arith))

zero_clear : (f : Format) (m : ℕ) (e : ℤ) (n : ℕ) (d : ℤ) → m ≡ 0 → sign (add f (fin true m e) (fin false n d)) ≡ false
unfolding add
zero_clear f m e n d z =
    sum-zero f (m * up e * down d) (n * up d * down e) (down e * down d)
    (ap (λ (k : ℕ). k * up e * down d) z ∙ ap (λ (k : ℕ). k * down d) (zero-mul (up e)) ∙ zero-mul (down d))

pub add-sign : (f : Format) (x y : Float) → T (Ieee.le (zero_of false) x) → sign y ≡ false → sign (add f x y) ≡ false
add-sign f nan y h k = absurd (le-real-r (zero_of false) nan h)
add-sign f (inf true) y h k = let z : ⊥ = unfold Ieee.le in h in absurd z
add-sign f (inf false) nan h k = unfold add in refl
add-sign f (inf false) (inf true) h k = unfold add in refl
add-sign f (inf false) (inf false) h k = unfold add in refl
add-sign f (inf false) (fin t n d) h k = unfold add in refl
add-sign f (fin s m e) nan h k = unfold add in refl
add-sign f (fin s m e) (inf true) h k = absurd (false≢true (sym k))
add-sign f (fin s m e) (inf false) h k = unfold add in refl
add-sign f (fin s m e) (fin true n d) h k = absurd (false≢true (sym k))
add-sign f (fin false m e) (fin false n d) h k = both-clear f m e n d
add-sign f (fin true m e) (fin false n d) h k = zero_clear f m e n d (eqb→eq m 0 (subst T (le-zero (fin true m e) false tt) h))
