-- The steps of `insert_original`, each as an equation under the test that leads to it, and where its search ends.
use Prim.Native.Nat.{ℕ, ◌+◌, ◌-◌, ◌<◌}
use native.Mathlib.Omega.{arith}
use native.Mathlib.Numerals.{add-one}
use mathlib.Core.Path.{◌≡◌, refl, subst}
use mathlib.Core.Bool.{Bool, true, false, not, ◌&&◌, false≢true}
use mathlib.Core.List.{List}
use lib.Dec.{T, not_T}
use lib.ListN.{length}
use lib.Ieee as Ieee
use lib.Ieee.{Float}
use lib.Ieee.Bits.{is_false}
use Rattle.ieee.specs.Speed.{min_speed}
use Rattle.ieee.proofs.Order.{lt→le}
use Rattle.column.specs.Entries.{insert_at}
use Rattle.speed.specs.Points.{Point, point, offset_at, speed_at}
use Rattle.speed.specs.Insert.{first_from, drop_repeat, between, insert_speed}
use Rattle.speed.proofs.InsertSteps.{first_below, between-some}
use Rattle.original.specs.Original.{not_released, strictly_between, insert_original}

-- ---- strictly between two points

module _ (s v : Float) (i : ℕ) (ps : List Point) where
  pub laid-before : Ieee.ne (speed_at ps (i - 1)) (min_speed (speed_at ps (i - 1)) v) ≡ true
      → not_released s v i ps ≡ drop_repeat (i + 1) (insert_at i (point s (min_speed (speed_at ps (i - 1)) v)) ps)
  unfolding not_released
  laid-before t = rw (t, add-one i)

  pub same-before : Ieee.ne (speed_at ps (i - 1)) (min_speed (speed_at ps (i - 1)) v) ≡ false → not_released s v i ps ≡ drop_repeat i ps
  unfolding not_released
  same-before t = rw t

-- ---- whether it is

module _ (s e : Float) (ps : List Point) (n : ℕ) (q : length ps ≡ n) where
  pub last-reached : Ieee.le (offset_at ps (n - 1)) s ≡ true → false ≡ strictly_between s e ps
  last-reached t = rw (q, t)

  module _ (t : Ieee.le (offset_at ps (n - 1)) s ≡ false) where
    pub last-after : strictly_between s e ps ≡ between s e (first_from s ps) ps
    last-after = rw (q, t)

    -- a point at or after s is found
    pub first_found : 0 < n → first_from s ps < n
    first_found h =
        let o = offset_at ps (n - 1) in
        let late : Ieee.lt (offset_at ps (length ps - 1)) s ≡ false = rw q (is_false (Ieee.lt o s) (not_T (Ieee.lt o s) (λ l. subst T t (lt→le o s l)))) in
        omega (arith, first_below s ps (omega arith) late)

  both : (a b : Bool) → (not a && b) ≡ true → (a ≡ false) × (b ≡ true)
  both true b t = absurd (false≢true t)
  both false b t = (refl, t)

  -- the point found is neither the first nor past the last
  pub found_inside : 0 < n → strictly_between s e ps ≡ true → (0 < first_from s ps) × (first_from s ps < n)
  found_inside h t =
      let p = both (Ieee.le (offset_at ps (length ps - 1)) s) (between s e (first_from s ps) ps) t in
      (between-some s e (first_from s ps) ps p.1, first_found (rw q at p.0) h)

-- ---- a limit

module _ (s e v : Float) (ps : List Point) where
  pub as-original : strictly_between s e ps ≡ true → insert_original ps s e v ≡ not_released s v (first_from s ps) ps
  unfolding insert_original
  as-original t = rw t

  pub as-port : strictly_between s e ps ≡ false → insert_original ps s e v ≡ insert_speed ps s e v
  unfolding insert_original
  as-port t = rw t
