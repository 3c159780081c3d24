-- Rows S1 to S8, T1, T2 and L1 to L4, R136 to R145 and R148 to R151: what each call is given and what it is to leave or answer. Definitions only.
use Rattle.std.specs.Prelude.{ℕ, List, [], ◌∷◌, pos, Float}
use Rattle.std.specs.Float.Ieee as Ieee
use Rattle.std.specs.Float.{binary64}
use Rattle.ieee.specs.Number.{+0}
use Rattle.speed.specs.Points.{Point, point}
use Rattle.lookup.specs.declared.lin_search_hint.Dir.{Dir}
use Rattle.lookup.specs.declared.lin_search_hint.Dir.TheVariants.{Fwd, Bwd}
use Rattle.lookup.specs.CalcIdx.{Indexed, done_at}
use Rattle.path.specs.declared.link_point.LinkPoint.{LinkPoint}
use Rattle.path.specs.Records.{link_point}

-- a whole number as an f64
unfoldable pub m : ℕ → Float
m n = Ieee.of_int binary64 (pos n)

-- the point (o, v)
unfoldable pub p : ℕ → ℕ → Point
unfolding m
p o v = point (m o) (m v)

-- A path as its caller holds it, in whole numbers: n link points with the offsets and the four numbers of each, as many grade records, the curve
-- records the same, k speed points, no power limit.
pub record Lent : Type 0 where
  pub n : ℕ
  pub offsets : List ℕ
  pub numbers : List ℕ
  pub grades : List ℕ
  pub k : ℕ
  pub speeds : List ℕ

-- `lay points s e v after`: the limit from s to e at the speed v leaves these points.
-- `clear path x dropped after`: `clear` at x is done, answers these dropped counts and leaves this path.
-- `find n column dir x hint answer`: the search of n records of a column for x has this number, place and index.
pub data Row : Type 0 where
  lay : List Point → ℕ → ℕ → Float → List Point → Row
  clear : Lent → ℕ → LinkPoint → Lent → Row
  find : ℕ → List ℕ → Dir → ℕ → ℕ → Indexed → Row

-- the points (0,30) and (100,20), from which S4 to S7 start
unfoldable pub two_points : List Point
unfolding p
two_points = p 0 30 ∷ p 100 20 ∷ []

-- Flat records at 0, 100 and 250, three entries to each: the list that is searched, and the grades and the curves of a path.
unfoldable pub flats : List ℕ
flats = 0 ∷ 0 ∷ 0 ∷ 100 ∷ 0 ∷ 0 ∷ 250 ∷ 0 ∷ 0 ∷ []

-- link points 0, 100 and 250: links 1 and 2, each with one grade and one curve; and k speed points
unfoldable pub both : ℕ → List ℕ → Lent
unfolding flats
both k speeds =
    record {
      n = 3;
      offsets = 0 ∷ 100 ∷ 250 ∷ [];
      numbers = 1 ∷ 1 ∷ 0 ∷ 1 ∷ 1 ∷ 1 ∷ 0 ∷ 2 ∷ 0 ∷ 0 ∷ 0 ∷ 2 ∷ [];
      grades = flats;
      k = k;
      speeds = speeds;
    }

-- link 2 alone
unfoldable pub second : ℕ → List ℕ → Lent
second k speeds =
    record {
      n = 2;
      offsets = 100 ∷ 250 ∷ 0 ∷ [];
      numbers = 1 ∷ 1 ∷ 0 ∷ 2 ∷ 0 ∷ 0 ∷ 0 ∷ 2 ∷ 0 ∷ 0 ∷ 0 ∷ 0 ∷ [];
      grades = 100 ∷ 0 ∷ 0 ∷ 250 ∷ 0 ∷ 0 ∷ 0 ∷ 0 ∷ 0 ∷ [];
      k = k;
      speeds = speeds;
    }

unfoldable pub rows : List Row
unfolding m p two_points flats both second
rows =
    -- S1
    lay (p 0 30 ∷ []) 20 40 (m 15) (p 0 30 ∷ p 20 15 ∷ p 40 30 ∷ [])
    -- S2
    ∷ lay (p 0 30 ∷ p 20 15 ∷ p 40 30 ∷ []) 40 60 (m 15) (p 0 30 ∷ p 20 15 ∷ p 60 30 ∷ [])
    -- S3
    ∷ lay (p 0 30 ∷ []) 0 10 (m 20) (p 0 20 ∷ p 10 30 ∷ [])
    -- S4
    ∷ lay two_points 20 40 (m 15) (p 0 30 ∷ p 20 15 ∷ p 40 30 ∷ p 100 20 ∷ [])
    -- S5
    ∷ lay two_points 20 100 (m 15) (p 0 30 ∷ p 20 15 ∷ p 100 20 ∷ [])
    -- S6
    ∷ lay two_points 50 150 (m 25) (p 0 30 ∷ p 50 25 ∷ p 100 20 ∷ [])
    -- S7
    ∷ lay two_points 50 150 (m 10) (p 0 30 ∷ p 50 10 ∷ p 150 20 ∷ [])
    -- S8
    ∷ lay (p 0 30 ∷ []) 5 9 (Ieee.neg (m 12)) (p 0 30 ∷ point (m 5) (Ieee.neg (m 12)) ∷ p 9 30 ∷ [])
    -- T1
    ∷ clear (both 3 (0 ∷ 30 ∷ 50 ∷ 20 ∷ 200 ∷ 30 ∷ [])) 120 (link_point +0 1 1 0 0) (second 2 (100 ∷ 20 ∷ 200 ∷ 30 ∷ 0 ∷ 0 ∷ []))
    -- T2
    ∷ clear (both 3 (0 ∷ 30 ∷ 50 ∷ 20 ∷ 200 ∷ 30 ∷ [])) 100 (link_point +0 0 0 0 0) (both 3 (0 ∷ 30 ∷ 50 ∷ 20 ∷ 200 ∷ 30 ∷ []))
    -- L1
    ∷ find 3 flats Fwd 100 0 (done_at 0)
    -- L2
    ∷ find 3 flats Fwd 101 0 (done_at 1)
    -- L3
    ∷ find 3 flats Bwd 100 2 (done_at 1)
    -- L4
    ∷ find 3 flats Fwd 50 1 (done_at 1)
    ∷ []
