-- The limits below the top speed, one limit more at a time, how many they are, and what laying them makes of the points' count.
use Rattle.std.specs.Prelude.{Option, Some, None}
use Prim.Native.Nat.{ℕ, suc, ◌+◌, ◌-◌, ◌*◌, ◌≤◌, ◌<◌}
use native.Mathlib.Omega.{arith}
use mathlib.Core.Path.{◌≡◌, refl, sym, ap, ◌∙◌}
use mathlib.Core.Bool.{Bool, true, false}
use mathlib.Core.List.{List, [], ◌∷◌, map}
use lib.ListN.{length}
use lib.Ieee.{Float}
use Rattle.speed.specs.Points.{Point}
use Rattle.speed.specs.Insert.{insert_speed}
use Rattle.speed_laws.proofs.Kept.{count-insert, insert-some}
use Rattle.link.specs.declared.speed_set.SpeedSet.{SpeedSet}
use Rattle.link.specs.Lists.{every, up_from}
use Rattle.link.specs.Table.{Limit, limit_at, limits_of}
use Rattle.link.proofs.Loops.{length-range, whole-range, range-more, range_none, map_range}
use Rattle.path_speeds.specs.Limits.{tail_of, placed, lowers, cons_if, lowering, entering, laying, count_laid, lay_all, laid_finite, limits_finite}

-- where the limits of a set end
abbrev pub limits_end : SpeedSet → ℕ
limits_end s = s.limits_first + s.limits_count

-- ---- one limit more
module _ (top : Float) (at : ℕ → Limit) (i end : ℕ) where
  pub lower-next : i < end → lowers top (at i) ≡ true → lowering top (up_from at i (end - i)) ≡ at i ∷ lowering top (up_from at (i + 1) (end - (i + 1)))
  unfolding lowering
  lower-next h t = rw (range-more at i end h, t)

  pub lower_skip : i < end → lowers top (at i) ≡ false → lowering top (up_from at i (end - i)) ≡ lowering top (up_from at (i + 1) (end - (i + 1)))
  unfolding lowering
  lower_skip h t = rw (range-more at i end h, t)

  pub lower-end : end ≤ i → lowering top (up_from at i (end - i)) ≡ []
  unfolding lowering
  lower-end h = rw (range_none at i end h)

-- ---- how many they are
length-if : {A B : Type 0} (b : Bool) (x : A) (y : B) (xs : List A) (ys : List B) → length xs ≡ length ys → length (cons_if b x xs) ≡ length (cons_if b y ys)
length-if true x y xs ys e = ap suc e
length-if false x y xs ys e = e

at_most_one : {A : Type 0} (b : Bool) (x : A) (xs : List A) → length (cons_if b x xs) ≤ suc (length xs)
at_most_one true x xs = omega arith
at_most_one false x xs = omega arith

module _ (top : Float) where
  -- where they are laid does not matter: the value stays
  length-placed : (base tail : Float) (ls : List Limit) → length (lowering top (map (placed base tail) ls)) ≡ length (lowering top ls)
  unfolding lowering
  length-placed base tail [] = refl
  length-placed base tail (l ∷ ls) = length-if (lowers top l) (placed base tail l) l (lowering top (map (placed base tail) ls)) (lowering top ls) (length-placed base tail ls)

  length-lowering : (ls : List Limit) → length (lowering top ls) ≤ length ls
  unfolding lowering
  length-lowering [] = omega arith
  length-lowering (l ∷ ls) = omega (arith, at_most_one (lowers top l) l (lowering top ls), length-lowering ls)

  pub length-laying : (base long : Float) (limits : List Float) (f : Option SpeedSet) → length (laying top base long limits f) ≡ count_laid top limits f
  unfolding entering count_laid lowering
  length-laying base long limits None = refl
  length-laying base long limits (Some s) = length-placed base (tail_of long s) (limits_of limits s)

  module _ (limits : List Float) (s : SpeedSet) where
    pub count-whole : length (lowering top (up_from (limit_at limits) s.limits_first (limits_end s - s.limits_first))) ≡ count_laid top limits (Some s)
    unfolding count_laid
    count-whole = ap (λ (ls : List Limit). length (lowering top ls)) (whole-range (limit_at limits) s.limits_first s.limits_count)

    pub count_most : count_laid top limits (Some s) ≤ s.limits_count
    unfolding count_laid
    count_most = omega (arith, length-lowering (limits_of limits s), length-range (limit_at limits) s.limits_first s.limits_count)

-- ---- limits i to end that are laid, base and tail added
abbrev placed_at : Float → Float → List Float → ℕ → Limit
placed_at base tail limits k = placed base tail (limit_at limits k)

abbrev pub to_lay : Float → Float → Float → List Float → ℕ → ℕ → List Limit
to_lay top base tail limits end i = lowering top (up_from (placed_at base tail limits) i (end - i))

-- l is limit i
module _ (top base tail : Float) (limits : List Float) (end i : ℕ) where
  module _ (h : i < end) (l : Limit) (e : l ≡ limit_at limits i) where
    pub lay-next : (p : Limit) → p ≡ placed base tail l → lowers top l ≡ true → to_lay top base tail limits end i ≡ p ∷ to_lay top base tail limits end (i + 1)
    lay-next p q t = lower-next top (placed_at base tail limits) i end h (sym (ap (lowers top) e) ∙ t) ∙ ap (λ (x : Limit). x ∷ to_lay top base tail limits end (i + 1)) (sym (q ∙ ap (placed base tail) e))

    pub lay-skip : lowers top l ≡ false → to_lay top base tail limits end i ≡ to_lay top base tail limits end (i + 1)
    lay-skip t = lower_skip top (placed_at base tail limits) i end h (sym (ap (lowers top) e) ∙ t)

  pub lay-end : end ≤ i → to_lay top base tail limits end i ≡ []
  lay-end h = lower-end top (placed_at base tail limits) i end h

-- those of a whole set, which has this tail
module _ (top base tail long : Float) (limits : List Float) (s : SpeedSet) (e : tail ≡ tail_of long s) where
  pub lay-whole : to_lay top base tail limits (limits_end s) s.limits_first ≡ laying top base long limits (Some s)
  unfolding entering
  lay-whole =
      ap (lowering top) (whole-range (placed_at base tail limits) s.limits_first s.limits_count)
      ∙ ap (lowering top) (sym (map_range (placed base tail) (limit_at limits) s.limits_first s.limits_count))
      ∙ ap (λ (t : Float). lowering top (map (placed base t) (limits_of limits s))) e

  pub length_whole : length (to_lay top base tail limits (limits_end s) s.limits_first) ≡ count_laid top limits (Some s)
  length_whole = ap length lay-whole ∙ length-laying top base long limits (Some s)

  pub finite-whole : every (laid_finite top base tail) (up_from (limit_at limits) s.limits_first (limits_end s - s.limits_first)) ≡ limits_finite top base long limits (Some s)
  unfolding limits_finite
  finite-whole =
      ap (every (laid_finite top base tail)) (whole-range (limit_at limits) s.limits_first s.limits_count)
      ∙ ap (λ (t : Float). every (laid_finite top base t) (limits_of limits s)) e

-- ---- the points they are laid on
pub laid_none : (ps : List Point) (ls : List Limit) → ls ≡ [] → lay_all ps ls ≡ ps
unfolding lay_all
laid_none ps ls e = ap (lay_all ps) e

pub count-laid : (ps : List Point) (ls : List Limit) → length (lay_all ps ls) ≤ length ps + 2 * length ls
unfolding lay_all
count-laid ps [] = omega arith
count-laid ps (l ∷ ls) = omega (arith, count-laid (insert_speed ps l.start l.end l.value) ls, count-insert ps l.start l.end l.value)

pub laid-some : (ps : List Point) (ls : List Limit) → 0 < length ps → 0 < length (lay_all ps ls)
unfolding lay_all
laid-some ps [] h = h
laid-some ps (l ∷ ls) h = laid-some (insert_speed ps l.start l.end l.value) ls (insert-some ps l.start l.end l.value h)
