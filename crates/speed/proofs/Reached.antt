-- What is posted from sorted points: the speed of the last one at or before an offset, whatever stands before and after it.
use Prim.Native.Nat.{ℕ, zero, suc, ◌<◌, ◌≤◌}
use mathlib.Core.Path.{◌≡◌, refl, ap, ◌∙◌, subst}
use mathlib.Core.Bool.{Bool, false}
use mathlib.Core.List.{List, [], ◌∷◌}
use lib.Dec.{T, not_T}
use lib.ListN.{length, drop, drop_of_length-le}
use lib.Seq.{drop-cons}
use lib.Ieee as Ieee
use lib.Ieee.{Float, nan}
use lib.Ieee.Bits.{is_true, is_false}
use Rattle.ieee.proofs.Order.{le_trans, le-real-l}
use Rattle.speed.specs.Points.{Point, nowhere, offset_at, speed_at}
use Rattle.speed.specs.Posted.{passed, posted, SortedFrom, Sorted}

-- ---- one point

-- from a point at or before x on its speed is posted
pub passes : (x : Float) (p : Point) (u : Float) → T (Ieee.le p.offset x) → passed x p u ≡ p.speed
passes x p u h = rw (is_true (Ieee.le p.offset x) h)

-- and before a point it is not
pub not-passed : (x : Float) (p : Point) (u : Float) → (T (Ieee.le p.offset x) → ⊥) → passed x p u ≡ u
not-passed x p u h = rw (is_false (Ieee.le p.offset x) (not_T (Ieee.le p.offset x) h))

-- ---- sorted points

-- points sorted from an offset on are sorted
pub sorted_of : (o : Float) (ps : List Point) → SortedFrom o ps → Sorted ps
sorted_of o [] h = tt
sorted_of o (p ∷ ps) h = h.1

-- the first of the points is at or before x
abbrev pub reaches : Float → List Point → Bool
reaches x [] = false
reaches x (p ∷ ps) = Ieee.le p.offset x

module _ (x : Float) where
  -- points after x post nothing
  pub ahead : (o : Float) (ps : List Point) (u : Float) → (T (Ieee.le o x) → ⊥) → SortedFrom o ps → posted x ps u ≡ u
  ahead o [] u f h = refl
  ahead o (p ∷ ps) u f h =
      let g : T (Ieee.le p.offset x) → ⊥ = λ k. f (le_trans o p.offset x h.0 k) in
      rw (not-passed x p u g) (ahead p.offset ps u g h.1)

  -- of points that do not reach x the point before them is posted
  pub only : (q : Point) (ps : List Point) (u : Float) → SortedFrom q.offset ps → T (Ieee.le q.offset x) → reaches x ps ≡ false → posted x (q ∷ ps) u ≡ q.speed
  only q [] u h l f = passes x q u l
  only q (p ∷ ps) u h l f = ap (posted x ps) (rw f (passes x q u l)) ∙ ahead p.offset ps q.speed (λ k. subst T f k) h.1

  -- of points that reach x nothing before them is
  pub alike : (ps : List Point) (t u : Float) → T (reaches x ps) → posted x ps t ≡ posted x ps u
  alike [] t u h = absurd h
  alike (p ∷ ps) t u h = rw (is_true (Ieee.le p.offset x) h)

  -- points before one at or before x are so too
  pub reaches-first : (p : Point) (ps : List Point) → SortedFrom p.offset ps → T (reaches x ps) → T (Ieee.le p.offset x)
  reaches-first p [] h r = absurd r
  reaches-first p (q ∷ ps) h r = le_trans p.offset q.offset x h.0 r

  pub reaches-back : (o : Float) (k : ℕ) (ps : List Point) → SortedFrom o ps → T (reaches x (drop k ps)) → T (reaches x ps)
  reaches-back o zero ps h r = r
  reaches-back o (suc k) [] h r = r
  reaches-back o (suc k) (p ∷ ps) h r = reaches-first p ps h.1 (reaches-back p.offset k ps h.1 r)

  -- points that reach an offset reach every later one
  pub reaches-on : (y : Float) (ps : List Point) → T (Ieee.le y x) → T (reaches y ps) → T (reaches x ps)
  reaches-on y [] l h = h
  reaches-on y (p ∷ ps) l h = le_trans p.offset y x h l

  -- point i is the last at or before x where it is at or before x and those behind it do not reach x
  pub posted-last : (ps : List Point) (i : ℕ) (u : Float) → Sorted ps → T (Ieee.le (offset_at ps i) x) → reaches x (drop (suc i) ps) ≡ false → posted x ps u ≡ speed_at ps i
  posted-last [] i u h l f = absurd (le-real-l nan x l)
  posted-last (p ∷ ps) zero u h l f = only p ps u h l f
  posted-last (p ∷ ps) (suc i) u h l f = posted-last ps i (passed x p u) (sorted_of p.offset ps h) l f

  module _ (ps : List Point) (i : ℕ) where
    pub reaches-at : i < length ps → reaches x (drop i ps) ≡ Ieee.le (offset_at ps i) x
    reaches-at h = ap (reaches x) (drop-cons ps i nowhere h)

    pub reaches_end : length ps ≤ i → reaches x (drop i ps) ≡ false
    reaches_end h = ap (reaches x) (drop_of_length-le ps h)
