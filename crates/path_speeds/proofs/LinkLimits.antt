-- Limits laid link point by link point: how many a link lays, and the column as it goes on.
use Prim.Native.Nat.{ℕ, ◌*◌}
use native.Mathlib.Omega.{arith}
use mathlib.Core.Path.{◌≡◌, refl, sym, ap, ◌∙◌}
use mathlib.Core.List.{List, [], ◌∷◌}
use lib.ListN.{length}
use lib.Ieee.{Float}
use Rattle.speed.specs.Points.{Point}
use Rattle.speed.specs.declared.speed_column.SpeedColumn.{SpeedColumn}
use Rattle.speed.specs.Becomes.{points_of, HasRoom, Becomes}
use Rattle.link.specs.declared.train_params.TrainParams.{TrainParams}
use Rattle.link.specs.Train.{top_speed}
use Rattle.path.specs.declared.link_point.LinkPoint.{LinkPoint}
use Rattle.path.specs.Records.{offset_of, number_of}
use Rattle.path.specs.Sound.{total}
use Rattle.path_speeds.specs.Limits.{SpeedSets, set_of, laying_at, count_at, lay_all, lay_links, point_count}
use Rattle.path_speeds.proofs.Applying.{laying-by, count_by}
use Rattle.path_speeds.proofs.Lowered.{length-laying, count-laid, laid-some}
use Rattle.path_speeds.proofs.LayingLoop.{Going, going_on, going-last}

module _ (train : TrainParams) (long : Float) (q : SpeedSets) where
  length-laying-at : (base : Float) (n : ℕ) → length (laying_at train long q base n) ≡ count_at train q n
  length-laying-at base n =
      let f = set_of train q n in
      ap length (laying-by train q n f refl base long) ∙ length-laying (top_speed train) base long q.limits f ∙ sym (count_by train q n f refl)

  abbrev pub LinksLeft : SpeedColumn → List Point → List LinkPoint → SpeedColumn → Type 0
  LinksLeft c₀ goal ls c = Going c₀ goal (total (point_count train q) ls) (λ ps. lay_links train long q ps ls) c

  module _ (c₀ : SpeedColumn) (goal : List Point) (ls : List LinkPoint) (c : SpeedColumn) (g : LinksLeft c₀ goal ls c) where
    module _ (p : LinkPoint) (rest : List LinkPoint) (e : ls ≡ p ∷ rest) where
      pub links-room : HasRoom (2 * point_count train q p) c
      unfolding total
      links-room = omega (arith, g.room, ap (total (point_count train q)) e)

      pub links-next : (d : SpeedColumn) → Becomes c d (lay_all (points_of c) (laying_at train long q (offset_of p) (number_of p))) → LinksLeft c₀ goal rest d
      unfolding lay_links total
      links-next d laid =
          let ps = points_of c in
          let limits = laying_at train long q (offset_of p) (number_of p) in
          going_on c₀ goal (total (point_count train q) ls) (λ ps. lay_links train long q ps ls) c g (point_count train q p) (total (point_count train q) rest) (λ ps. lay_links train long q ps rest) d (lay_all ps limits)
          (ap (total (point_count train q)) e) laid (omega (arith, count-laid ps limits, length-laying-at (offset_of p) (number_of p))) (laid-some ps limits)
          (sym (ap (lay_links train long q ps) e))

    pub links-done : ls ≡ [] → Becomes c₀ c goal
    unfolding lay_links
    links-done e = going-last c₀ goal (total (point_count train q) ls) (λ ps. lay_links train long q ps ls) c g (ap (lay_links train long q (points_of c)) e)
