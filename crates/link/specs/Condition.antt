-- Conditions of a speed set, R25 to R29: speed_param.rs and train_params.rs. Definitions only.
use Rattle.std.specs.Prelude.{ℕ, Bool, false, cond, ◌&&◌, List, ◌==◌, nat_le, nat_lt, Float, Option, Some, None}
use Rattle.std.specs.Float.Ieee as Ieee
use Rattle.std.specs.Float.Ieee.Scale.{finite}
use Rattle.ieee.specs.Number.{+0}
use Rattle.link.specs.declared.train_params.TrainParams.{TrainParams}
use Rattle.link.specs.declared.speed_param.SpeedParam.{SpeedParam}
use Rattle.link.specs.declared.speed_param.SpeedParam.TheVariants.{MassTotal, MassPerBrake, AxleCount}
use Rattle.link.specs.Lists.{every}
use Rattle.link.specs.Train.{towed_mass, mass_per_brake_of, axles}

-- a condition as the table has it: two codes and a value
pub record Condition : Type 0 where
  pub kind : ℕ
  pub comparison : ℕ
  pub value : Float

-- R25: the value goes with its kind, total mass, mass per brake or axles; the kinds' codes are the Rust's: 3, 4, 5
unfoldable pub param_of : ℕ → Float → Option SpeedParam
param_of kind v =
    cond (kind == 3) (Some (MassTotal v)) (cond (kind == 4) (Some (MassPerBrake v)) (cond (kind == 5) (Some (AxleCount v)) None))

-- a kind looked up by its code, as R102 wants it told: the number of the question that refuses an unknown code, the code and the value, 0 and +0 for a
-- refusal
pub record ParamTold : Type 0 where
  pub number : ℕ
  pub kind : ℕ
  pub value : Float

abbrev pub kind_of : SpeedParam → ℕ
kind_of (MassTotal v) = 3
kind_of (MassPerBrake v) = 4
kind_of (AxleCount v) = 5

abbrev pub value_of : SpeedParam → Float
value_of (MassTotal v) = v
value_of (MassPerBrake v) = v
value_of (AxleCount v) = v

-- R102: number, code and value of each case of the enum; question 6 (R109) asks for known codes
abbrev pub param_told : Option SpeedParam → ParamTold
param_told (Some p) = record { number = 0; kind = kind_of p; value = value_of p }
param_told None = record { number = 6; kind = 0; value = +0 }

-- R26: which of =, >, <, ≥, ≤ the codes 1 to 5 ask for
unfoldable pub by_code : ℕ → Bool → Bool → Bool → Bool → Bool → Bool
by_code code equal above below not_below not_above =
    cond (code == 1) equal (cond (code == 2) above (cond (code == 3) below (cond (code == 4) not_below (cond (code == 5) not_above false))))

-- R26: the train's figure on the left
abbrev pub compares_float : ℕ → Float → Float → Bool
compares_float code figure limit = by_code code (Ieee.eq figure limit) (Ieee.lt limit figure) (Ieee.lt figure limit) (Ieee.le limit figure) (Ieee.le figure limit)

abbrev pub compares_count : ℕ → ℕ → ℕ → Bool
compares_count code figure limit = by_code code (figure == limit) (nat_lt limit figure) (nat_lt figure limit) (nat_le limit figure) (nat_le figure limit)

-- R27: the value as a u32, toward zero, to the nearest end of the range, a NaN to 0
unfoldable pub axle_limit : Float → ℕ
axle_limit v = Ieee.to_unsigned 32 v

unfoldable pub param_holds : TrainParams → ℕ → Option SpeedParam → Bool
unfolding by_code axle_limit
param_holds train code None = false
param_holds train code (Some (MassTotal v)) = compares_float code (towed_mass train) v
param_holds train code (Some (MassPerBrake v)) = compares_float code (mass_per_brake_of train) v
param_holds train code (Some (AxleCount v)) = compares_count code (axles train) (axle_limit v)

unfoldable pub holds : TrainParams → Condition → Bool
unfolding param_holds param_of
holds train c = param_holds train c.comparison (param_of c.kind c.value)

-- R29: a set applies where each of its conditions holds
abbrev pub applies : TrainParams → List Condition → Bool
applies train cs = every (holds train) cs

-- question 6 of a condition: its codes are known, and its value is finite
unfoldable pub condition_formed : Condition → Bool
unfolding param_of
condition_formed c = (param_told (param_of c.kind c.value)).number == 0 && (nat_le 1 c.comparison && (nat_le c.comparison 5 && finite c.value))
