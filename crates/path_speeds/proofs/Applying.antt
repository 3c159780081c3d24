-- The set that applies, and what a link's limits are by it.
use Rattle.std.specs.Prelude.{Option, Some, None}
use Prim.Native.Nat.{ℕ, ◌≤◌}
use mathlib.Core.Path.{◌≡◌, refl, sym, ap, ◌∙◌}
use mathlib.Core.Bool.{Bool, true, cond}
use mathlib.Core.List.{List, []}
use lib.ListN.{length}
use lib.Ieee.{Float}
use borrow.Author.Tests.{leb-true}
use Rattle.link.specs.declared.train_params.TrainParams.{TrainParams}
use Rattle.link.specs.declared.speed_set.SpeedSet.{SpeedSet}
use Rattle.link.specs.Train.{top_speed}
use Rattle.link.specs.Condition.{applies}
use Rattle.link.specs.Table.{set_at, set_for, conditions_of}
use Rattle.path_speeds.specs.Limits.{if_applies, applying_set, few_conditions, laying, entering, lowering, count_laid, limits_finite, SpeedSets, few_at, set_of, laying_at, count_at, finite_at}

-- ---- the set of link n
module _ (train : TrainParams) (sets codes : List ℕ) (values : List Float) (n : ℕ) where
  pub none-applies : set_for (set_at sets n) train.train_type ≡ None → None ≡ applying_set train sets codes values n
  unfolding applying_set if_applies
  none-applies e = rw e

  module _ (s : SpeedSet) (e : set_for (set_at sets n) train.train_type ≡ Some s) where
    pub few-conditions : few_conditions (set_for (set_at sets n) train.train_type) ≡ true → s.params_count ≤ 64
    few-conditions f = leb-true s.params_count 64 (sym (ap few_conditions e) ∙ f)

    pub if-applies : (yes? : Bool) → applies train (conditions_of codes values s) ≡ yes? → cond yes? (Some s) None ≡ applying_set train sets codes values n
    unfolding applying_set if_applies
    if-applies yes? a = rw (e, a)

-- ---- what link n lays by the set f
module _ (train : TrainParams) (q : SpeedSets) (n : ℕ) where
  pub few-at : few_at train q n ≡ true → few_conditions (set_for (set_at q.places n) train.train_type) ≡ true
  unfolding few_at
  few-at e = e

  module _ (f : Option SpeedSet) (e : f ≡ set_of train q n) where
    pub laying-by : (base length : Float) → laying_at train length q base n ≡ laying (top_speed train) base length q.limits f
    unfolding laying_at
    laying-by base length = rw e

    pub count_by : count_at train q n ≡ count_laid (top_speed train) q.limits f
    unfolding count_at
    count_by = rw e

    pub finite-by : (base length : Float) → finite_at train length q base n ≡ limits_finite (top_speed train) base length q.limits f
    unfolding finite_at
    finite-by base length = rw e

-- a missing set lays nothing
pub laying-none : (top base length : Float) (limits : List Float) → laying top base length limits None ≡ []
unfolding lowering entering
laying-none top base length limits = refl

pub count_none : (top : Float) (limits : List Float) → count_laid top limits None ≡ 0
unfolding count_laid
count_none top limits = refl

pub finite-none : (top base length : Float) (limits : List Float) → limits_finite top base length limits None ≡ true
unfolding limits_finite
finite-none top base length limits = refl
