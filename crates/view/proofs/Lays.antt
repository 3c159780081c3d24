-- What a set, a link and links lay, one limit or one link at a time.
use Rattle.std.proofs.Common.{◌≡◌, ℕ, ◌+◌, ◌-◌, ◌<◌, ◌≤◌, Bool, true, false, cond, List, [], ◌∷◌, ◌++◌, map, sym, refl, ap, ◌∙◌, le-leb, Option, Some, None}
use mathlib.Core.List.{map-map}
use lib.Ieee.{Float}
use borrow.Author.Tests.{lt-leb}
use Rattle.link.specs.declared.train_params.TrainParams.{TrainParams}
use Rattle.link.specs.declared.speed_set.SpeedSet.{SpeedSet}
use Rattle.link.specs.Lists.{up_from}
use Rattle.link.specs.Train.{length_of, top_speed}
use Rattle.link.specs.Table.{Limit, limit_at, limits_of, set_at, set_for, set_told}
use Rattle.link.proofs.Formed.{set_is}
use Rattle.link.proofs.Loops.{whole-range, range-next, range_none}
use Rattle.path.specs.declared.link_point.LinkPoint.{LinkPoint}
use Rattle.path.specs.Records.{offset_of, number_of, point_at}
use Rattle.path_speeds.specs.Limits.{SpeedSets, few_conditions, few_at, applying_set, set_of, tail_of, placed, lowers, cons_if, lowering, entering, laying, laying_at}
use Rattle.path_speeds.proofs.Applying.{none-applies, few-at, laying-by}
use Rattle.path_speeds.proofs.Lowered.{limits_end, lower-next, lower_skip, lower-end}
use Rattle.speed.specs.declared.laid.Laid.{Laid}
use Rattle.view.specs.History.{limit_in, laid_of, set_lays, set_taken, point_lays, points_lay, lay_from_to}

-- ---- the set
module _ (train : TrainParams) (sets codes : List ℕ) (values : List Float) (i : ℕ) where
  taken : (few : Bool) → few_conditions (set_for (set_at sets i) train.train_type) ≡ few → cond few (applying_set train sets codes values i) None ≡ set_taken train sets codes values i
  unfolding set_taken
  taken few e = sym (ap (λ (b : Bool). cond b (applying_set train sets codes values i) None) e)

  -- r is the answer of the look-up
  module _ {r : Option SpeedSet} (told : set_told r ≡ set_told (set_for (set_at sets i) train.train_type)) where
    pub taken_none : r ≡ None → None ≡ set_taken train sets codes values i
    taken_none n =
        let e = set_is (set_at sets i) train.train_type told n in none-applies train sets codes values i e ∙ taken true (ap few_conditions e)

    module _ (s : SpeedSet) (is : r ≡ Some s) where
      e : set_for (set_at sets i) train.train_type ≡ Some s
      e = set_is (set_at sets i) train.train_type told is

      pub taken-many : 64 < s.params_count → None ≡ set_taken train sets codes values i
      taken-many h = taken false (ap few_conditions e ∙ lt-leb s.params_count 64 h)

      pub few-taken : s.params_count ≤ 64 → few_conditions (set_for (set_at sets i) train.train_type) ≡ true
      few-taken h = ap few_conditions e ∙ le-leb s.params_count 64 h

      pub taken-few : s.params_count ≤ 64 → applying_set train sets codes values i ≡ set_taken train sets codes values i
      taken-few h = taken true (few-taken h)

-- ---- limits i to end of a set
abbrev pub limits_left : Float → Float → Float → ℕ → List Float → ℕ → ℕ → List Laid
limits_left top base tail number limits end i = map (laid_of base tail number) (lowering top (up_from (limit_at limits) i (end - i)))

module _ (top base tail : Float) (number : ℕ) (limits : List Float) (end i : ℕ) where
  -- l is limit i
  module _ (h : i < end) (l : Limit) (e : l ≡ limit_at limits i) where
    pub left-next : lowers top l ≡ true → limits_left top base tail number limits end i ≡ (laid_of base tail number l ∷ []) ++ limits_left top base tail number limits end (i + 1)
    left-next t =
        ap (map (laid_of base tail number)) (lower-next top (limit_at limits) i end h (sym (ap (lowers top) e) ∙ t))
        ∙ ap (λ (k : Limit). laid_of base tail number k ∷ limits_left top base tail number limits end (i + 1)) (sym e)

    pub left-skip : lowers top l ≡ false → limits_left top base tail number limits end i ≡ limits_left top base tail number limits end (i + 1)
    left-skip t = ap (map (laid_of base tail number)) (lower_skip top (limit_at limits) i end h (sym (ap (lowers top) e) ∙ t))

  pub left-none : end ≤ i → limits_left top base tail number limits end i ≡ []
  left-none h = ap (map (laid_of base tail number)) (lower-end top (limit_at limits) i end h)

-- those of a whole set, which has this tail
pub left-whole : (top base tail length : Float) (number : ℕ) (limits : List Float) (s : SpeedSet) → tail ≡ tail_of length s
    → limits_left top base tail number limits (limits_end s) s.limits_first ≡ set_lays top base length number limits (Some s)
unfolding set_lays
left-whole top base tail length number limits s e =
    ap (λ (ls : List Limit). map (laid_of base tail number) (lowering top ls)) (whole-range (limit_at limits) s.limits_first s.limits_count)
    ∙ ap (λ (t : Float). map (laid_of base t number) (lowering top (limits_of limits s))) e

-- ---- the limits that `path_speeds` lays
-- the value stays, so it does not matter whether a limit is placed first
lower-placed : (top base tail : Float) (ls : List Limit) → lowering top (map (placed base tail) ls) ≡ map (placed base tail) (lowering top ls)
unfolding lowering
lower-placed top base tail [] = refl
lower-placed top base tail (l ∷ ls) = go (lowers top l) (lower-placed top base tail ls)
  where
    go : (b : Bool) → lowering top (map (placed base tail) ls) ≡ map (placed base tail) (lowering top ls) → cons_if b (placed base tail l) (lowering top (map (placed base tail) ls)) ≡ map (placed base tail) (cons_if b l (lowering top ls))
    go true e = ap (λ (ks : List Limit). placed base tail l ∷ ks) e
    go false e = e

set-laying : (top base length : Float) (number : ℕ) (limits : List Float) (f : Option SpeedSet) → map limit_in (set_lays top base length number limits f) ≡ laying top base length limits f
unfolding set_lays entering lowering
set-laying top base length number limits None = refl
set-laying top base length number limits (Some s) =
    map-map limit_in (laid_of base (tail_of length s) number) (lowering top (limits_of limits s)) ∙ sym (lower-placed top base (tail_of length s) (limits_of limits s))

-- ---- links
module _ (train : TrainParams) (q : SpeedSets) where
  -- by the set that is taken
  pub lays-by : (p : LinkPoint) (f : Option SpeedSet) → f ≡ set_taken train q.places q.codes q.values (number_of p)
      → set_lays (top_speed train) (offset_of p) (length_of train) (number_of p) q.limits f ≡ point_lays train q p
  unfolding point_lays
  lays-by p f e = ap (set_lays (top_speed train) (offset_of p) (length_of train) (number_of p) q.limits) e

  pub lays-none : (p : LinkPoint) (f : Option SpeedSet) → f ≡ set_taken train q.places q.codes q.values (number_of p) → f ≡ None → [] ≡ point_lays train q p
  unfolding set_lays
  lays-none p f e m = ap (set_lays (top_speed train) (offset_of p) (length_of train) (number_of p) q.limits) (sym m) ∙ lays-by p f e

  -- they are the limits that `path_speeds` lays
  pub lays-laying : (p : LinkPoint) → few_at train q (number_of p) ≡ true → map limit_in (point_lays train q p) ≡ laying_at train (length_of train) q (offset_of p) (number_of p)
  lays-laying p few =
      let f = set_of train q (number_of p) in
      ap (map limit_in) (sym (lays-by p f (taken train q.places q.codes q.values (number_of p) true (few-at train q (number_of p) few))))
      ∙ set-laying (top_speed train) (offset_of p) (length_of train) (number_of p) q.limits f
      ∙ sym (laying-by train q (number_of p) f refl (offset_of p) (length_of train))

  -- p is link point k
  pub lay-next : (os : List Float) (ns : List ℕ) (k to : ℕ) → k < to → (p : LinkPoint) → p ≡ point_at os ns k → lay_from_to train q os ns k to ≡ point_lays train q p ++ lay_from_to train q os ns (k + 1) to
  unfolding points_lay
  lay-next os ns k to h p e = ap (points_lay train q) (range-next (point_at os ns) k to h p e)

  pub lay-none : (os : List Float) (ns : List ℕ) (k to : ℕ) → to ≤ k → lay_from_to train q os ns k to ≡ []
  unfolding points_lay
  lay-none os ns k to h = ap (points_lay train q) (range_none (point_at os ns) k to h)
