-- Laying in a loop: the points as they go on, and what is left to lay.
use Prim.Native.Nat.{ℕ, ◌+◌, ◌*◌, ◌≤◌, ◌<◌}
use native.Mathlib.Omega.{arith}
use mathlib.Core.Path.{◌≡◌, refl, sym, ap, ◌∙◌}
use mathlib.Core.List.{List, [], ◌∷◌}
use lib.ListN.{length}
use Rattle.speed.specs.declared.speed_column.SpeedColumn.{SpeedColumn}
use Rattle.speed.specs.Points.{Point}
use Rattle.speed.specs.Becomes.{points_of, HasRoom, Becomes}
use Rattle.speed.specs.Insert.{insert_speed}
use Rattle.speed.proofs.PointColumn.{length-points, count_is, unchanged, becomes-as, becomes-on}
use Rattle.speed_laws.proofs.Kept.{count-insert, insert-some}
use Rattle.link.specs.Table.{Limit}
use Rattle.path_speeds.specs.Limits.{lay_all}

-- c₀ became c. `left` limits are still to be laid, `rest` lays them, and then the points are `goal`.
pub record Going (c₀ : SpeedColumn) (goal : List Point) (left : ℕ) (rest : List Point → List Point) (c : SpeedColumn) : Type 0 where
  pub becomes : Becomes c₀ c (points_of c)
  pub some : 0 < c.count
  pub room : HasRoom (2 * left) c
  pub is : rest (points_of c) ≡ goal

pub going-first : (c : SpeedColumn) (left : ℕ) (rest : List Point → List Point) → 0 < c.count → HasRoom (2 * left) c → Going c (rest (points_of c)) left rest c
going-first c left rest some room = record { becomes = unchanged c (points_of c) refl; some = some; room = room; is = refl }

module _ (c₀ : SpeedColumn) (goal : List Point) (left : ℕ) (rest : List Point → List Point) (c : SpeedColumn) (g : Going c₀ goal left rest c) where
  -- k limits were laid, and the points are ps
  pub going_on : (k left' : ℕ) (rest' : List Point → List Point) (d : SpeedColumn) (ps : List Point)
      → left ≡ k + left' → Becomes c d ps → length ps ≤ length (points_of c) + 2 * k → (0 < length (points_of c) → 0 < length ps) → rest' ps ≡ rest (points_of c)
      → Going c₀ goal left' rest' d
  going_on k left' rest' d ps e l most least is =
      let n = length-points c.count c.col.now in
      let m = count_is d.count d.col.now ps l.holds in
      let some = g.some in
      let room = g.room in
      let long = l.long in
      record {
        becomes = becomes-on g.becomes l;
        some = omega (arith, least (omega arith));
        room = omega arith;
        is = ap rest' l.holds ∙ is ∙ g.is;
      }

  -- nothing is left
  pub going-last : rest (points_of c) ≡ points_of c → Becomes c₀ c goal
  going-last none = becomes-as goal g.becomes (sym none ∙ g.is)

-- ---- limits one by one
abbrev pub LimitsLeft : SpeedColumn → List Point → List Limit → SpeedColumn → Type 0
LimitsLeft c₀ goal ls c = Going c₀ goal (length ls) (λ ps. lay_all ps ls) c

module _ (c₀ : SpeedColumn) (goal : List Point) (ls : List Limit) (c : SpeedColumn) (g : LimitsLeft c₀ goal ls c) where
  pub limits-next : (l : Limit) (rest : List Limit) (d : SpeedColumn) → ls ≡ l ∷ rest → Becomes c d (insert_speed (points_of c) l.start l.end l.value) → LimitsLeft c₀ goal rest d
  unfolding lay_all
  limits-next l rest d e laid =
      let ps = points_of c in
      going_on c₀ goal (length ls) (λ ps. lay_all ps ls) c g 1 (length rest) (λ ps. lay_all ps rest) d (insert_speed ps l.start l.end l.value) (ap length e ∙ omega arith) laid (count-insert ps l.start l.end l.value) (insert-some ps l.start l.end l.value) (sym (ap (lay_all ps) e))

  pub limits-skip : (rest : List Limit) → ls ≡ rest → LimitsLeft c₀ goal rest c
  limits-skip rest e = rw (← e) g

  pub limits-done : ls ≡ [] → Becomes c₀ c goal
  unfolding lay_all
  limits-done e = going-last c₀ goal (length ls) (λ ps. lay_all ps ls) c g (ap (lay_all (points_of c)) e)
