-- Links that question 6 has passed have few conditions in the set for a train.
use Rattle.std.specs.Prelude.{Option, Some, None}
use Prim.Native.Nat.{ℕ}
use mathlib.Core.Path.{◌≡◌, refl, ap, ◌∙◌}
use mathlib.Core.Bool.{Bool, true, ◌&&◌}
use mathlib.Core.List.{List, [], ◌∷◌, map}
use borrow.Author.Tests.{le-leb}
use Rattle.link.specs.declared.train_params.TrainParams.{TrainParams}
use Rattle.link.specs.declared.speed_set.SpeedSet.{SpeedSet}
use Rattle.link.specs.Lists.{every}
use Rattle.link.specs.Table.{LinkTable, set_at, set_for}
use Rattle.link.specs.Questions.{well_formed, question6}
use Rattle.link.proofs.Known.{and_both, all-formed, few-conditions, set-formed}
use Rattle.path.specs.declared.link_point.LinkPoint.{LinkPoint}
use Rattle.path.specs.Records.{number_of}
use Rattle.path_speeds.specs.Limits.{few_conditions, sets_of, few_at, point_few}

module _ (train : TrainParams) (t : LinkTable) where
  few-of : (n : ℕ) → well_formed t n ≡ true → (f : Option SpeedSet) → set_for (set_at t.sets n) train.train_type ≡ f → few_conditions f ≡ true
  few-of n e None h = refl
  few-of n e (Some s) h = le-leb s.params_count 64 (few-conditions t.codes t.values t.limits s (set-formed t n train.train_type s e h))

  formed-few : (n : ℕ) → well_formed t n ≡ true → few_at train (sets_of t) n ≡ true
  unfolding few_at
  formed-few n e = few-of n e (set_for (set_at t.sets n) train.train_type) refl

  -- listed links
  pub all-few : (ns : List ℕ) → every (well_formed t) ns ≡ true → every (few_at train (sets_of t)) ns ≡ true
  unfolding every
  all-few [] e = refl
  all-few (n ∷ ns) e =
      let b = and_both (well_formed t n) (every (well_formed t) ns) e in
      rw (formed-few n b.0) (all-few ns b.1)

  -- the links of link points
  points-are : (ps : List LinkPoint) → every (point_few train (sets_of t)) ps ≡ every (few_at train (sets_of t)) (map number_of ps)
  unfolding every
  points-are [] = refl
  points-are (p ∷ ps) = ap (λ (b : Bool). few_at train (sets_of t) (number_of p) && b) (points-are ps)

  pub points-few : (ps : List LinkPoint) → question6 t (map number_of ps) ≡ None → every (point_few train (sets_of t)) ps ≡ true
  points-few ps e = points-are ps ∙ all-few (map number_of ps) (all-formed t (map number_of ps) e)
