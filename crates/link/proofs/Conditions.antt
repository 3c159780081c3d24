-- Laws of conditions: the axle limit by its size, a kind by its code, question 6, and a list of conditions.
use Rattle.std.proofs.Common.{◌≡◌, ℕ, zero, suc, ◌+◌, ◌-◌, ◌*◌, ◌/◌, ◌^◌, ◌<◌, ◌≤◌, min, true, false, ◌&&◌, T, leb, pos, sym, refl, ap, ◌∙◌, mul-pos, le-div_iff_mul-le, add-one, arith, le→leb, leb→le, le-leb, leb-false, leb-true, Option, Some, None}
use lib.Ieee as Ieee
use lib.Ieee.{Float, nan, inf, fin, up, down}
use lib.Ieee.Fits.{down_pos}
use borrow.Author.Tests.{lt-leb}
use Rattle.ieee.proofs.Order.{le→cross, cross→le, le-real-r, lt-le-trans, lt_trans, not-le, bool-ext, of-true, of-false}
use Rattle.link.specs.declared.train_params.TrainParams.{TrainParams}
use Rattle.link.specs.declared.speed_param.SpeedParam.{SpeedParam}
use Rattle.link.specs.declared.speed_param.SpeedParam.TheVariants.{MassTotal, MassPerBrake, AxleCount}
use Rattle.link.specs.Lists.{every, up_from}
use Rattle.link.specs.Condition.{Condition, holds, applies, axle_limit, param_of, ParamTold, param_told}

-- ---- the axle limit
-- a whole number
abbrev whole : ℕ → Float
whole n = fin false n (pos 0)

-- the largest u32
abbrev most : ℕ
most = 4294967295

-- a whole number above 0 is at most v where it is at most v cut to 64 bits
whole_le : (n : ℕ) (v : Float) → 0 < n → n < 2 ^ 64 → Ieee.le (whole n) v ≡ leb n (Ieee.to_unsigned 64 v)
unfolding Ieee.le Ieee.to_unsigned
whole_le n nan p q = sym (lt-leb n 0 p)
whole_le n (inf true) p q = sym (lt-leb n 0 p)
whole_le n (inf false) p q = sym (le-leb n (2 ^ 64 - 1) (omega arith))
whole_le n (fin true m e) p q =
    bool-ext (Ieee.le (whole n) (fin true m e)) (leb n 0)
    (λ t. let z : ⊥ = omega (arith, mul-pos p (down_pos e), le→cross (whole n) (fin true m e) tt tt t) in absurd z)
    (λ t. let z : ⊥ = omega (arith, leb→le n 0 t) in absurd z)
whole_le n (fin false m e) p q =
    let k = m * up e / down e in
    bool-ext (Ieee.le (whole n) (fin false m e)) (leb n (min k (2 ^ 64 - 1)))
    (λ t. let h : n ≤ k = (le-div_iff_mul-le (down_pos e)).1 (omega (arith, le→cross (whole n) (fin false m e) tt tt t)) in le→leb n (min k (2 ^ 64 - 1)) (omega arith))
    (λ t. let h : n ≤ k = omega (arith, leb→le n (min k (2 ^ 64 - 1)) t) in cross→le (whole n) (fin false m e) tt tt (omega (arith, (le-div_iff_mul-le {y = m * up e} (down_pos e)).0 h)))

-- v cut to 32 bits is v cut to 64, cut again
pub axle-cut : (v : Float) → axle_limit v ≡ min (Ieee.to_unsigned 64 v) most
unfolding axle_limit Ieee.to_unsigned
axle-cut nan = refl
axle-cut (inf true) = refl
axle-cut (inf false) = refl
axle-cut (fin true m e) = refl
axle-cut (fin false m e) = omega arith

module _ (v : Float) where
  pub axle-none : Ieee.le (whole 1) v ≡ false → 0 ≡ axle_limit v
  axle-none h = omega (arith, axle-cut v, leb-false 1 (Ieee.to_unsigned 64 v) (sym (whole_le 1 v (omega arith) (omega arith)) ∙ h))

  pub axle-most : Ieee.le (whole most) v ≡ true → most ≡ axle_limit v
  axle-most h = omega (arith, axle-cut v, leb-true most (Ieee.to_unsigned 64 v) (sym (whole_le most v (omega arith) (omega arith)) ∙ h))

  pub axle-between : Ieee.le (whole most) v ≡ false → Ieee.to_unsigned 64 v ≡ axle_limit v
  axle-between h = omega (arith, axle-cut v, leb-false most (Ieee.to_unsigned 64 v) (sym (whole_le most v (omega arith) (omega arith)) ∙ h))

  -- v has a whole part of 64 bits
  pub axle-range : Ieee.le (whole 1) v ≡ true → Ieee.le (whole most) v ≡ false → T (Ieee.lt (fin true 1 (pos 0)) v) × T (Ieee.lt v (fin false 1 (pos 64)))
  axle-range h k =
      let least : T (Ieee.le (whole 1) v) = of-true h in (
        lt-le-trans (fin true 1 (pos 0)) (whole 1) v (unfold Ieee.lt in tt) least,
        lt_trans v (whole most) (fin false 1 (pos 64)) (not-le (whole most) v tt (le-real-r (whole 1) v least) (of-false k)) (unfold Ieee.lt in tt),
      )

-- ---- a kind looked up by its code
-- its code and value, looked up again
told-again : (p : Option SpeedParam) → param_of (param_told p).kind (param_told p).value ≡ p
unfolding param_of
told-again (Some (MassTotal v)) = refl
told-again (Some (MassPerBrake v)) = refl
told-again (Some (AxleCount v)) = refl
told-again None = refl

pub same-param : (a b : Option SpeedParam) → param_told a ≡ param_told b → a ≡ b
same-param a b e = sym (told-again a) ∙ ap (λ (t : ParamTold). param_of t.kind t.value) e ∙ told-again b

-- ---- a list of conditions: the first, and then the rest
pub applies-next : (train : TrainParams) (at : ℕ → Condition) (first left : ℕ) → (left ≡ 0 → ⊥)
    → applies train (up_from at first left) ≡ (holds train (at first) && applies train (up_from at (first + 1) (left - 1)))
unfolding every up_from
applies-next train at first zero h = absurd (h refl)
applies-next train at first (suc n) h = let q : suc n - 1 ≡ n = omega arith in rw (add-one first, q)
