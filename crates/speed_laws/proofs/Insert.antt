-- What laying a limit does to sorted points that begin at or before its start: to their order, to the kinds of their numbers, and to the speed posted at x.
use mathlib.Core.Path.{◌≡◌, refl, subst}
use mathlib.Core.Logic.{inl, inr}
use mathlib.Core.Bool.{Bool, true, false, cond}
use mathlib.Core.List.{List, [], ◌∷◌}
use Prim.Native.Nat.{◌-◌, ◌<◌}
use native.Mathlib.Omega.{arith}
use lib.Dec.{T, not_T}
use lib.ListN.{length}
use lib.Ieee as Ieee
use lib.Ieee.{Float, nan}
use lib.Ieee.Bits.{is_true, is_false}
use Rattle.ieee.specs.Number.{real}
use Rattle.ieee.specs.Speed.{min_speed}
use Rattle.ieee.proofs.Order.{le_refl, le-real-l, le-real-r, lt→le, lt_not_le, not-lt, eq_refl, of-true, of-false}
use Rattle.ieee.proofs.Speed.{min_speed-finite}
use Rattle.speed.specs.Points.{Point, offset_at}
use Rattle.speed.specs.Insert.{insert_speed}
use Rattle.speed.specs.Posted.{passed, posted, SortedFrom, Sorted}
use Rattle.speed.proofs.InsertSteps.{insert-append, insert-lay, first_below}
use Rattle.speed.proofs.Reached.{passes, sorted_of}
use Rattle.speed_laws.specs.Words.{covers, held_to, Every, Finite}
use Rattle.speed_laws.proofs.Changes.{Near, change-order, change-every, change-near, change-past, Laid}
use Rattle.speed_laws.proofs.Lay.{lay-laid}
use Rattle.speed_laws.proofs.Append.{append-laid}

-- there is a point if the first is at or before s
pub first_some : (ps : List Point) (s : Float) → T (Ieee.le (offset_at ps 0) s) → 0 < length ps
first_some [] s h = absurd (le-real-l nan s h)
first_some (p ∷ ps) s h = omega arith

-- sorted points with a first are sorted from its offset on
from_first : (ps : List Point) (s : Float) → Sorted ps → T (Ieee.le (offset_at ps 0) s) → SortedFrom (offset_at ps 0) ps
from_first [] s h a = tt
from_first (p ∷ ps) s h a = (le_refl p.offset (le-real-l p.offset s a), h)

every-posted : (O W : Float → Type 0) (x u : Float) (ps : List Point) → Every O W ps → W u → W (posted x ps u)
every-posted O W x u [] n h = h
every-posted O W x u (p ∷ ps) n h = every-posted O W x (passed x p u) ps n.2 (pick (Ieee.le p.offset x))
  where
    pick : (b : Bool) → W (cond b p.speed u)
    pick true = n.1
    pick false = h

-- From the first point on the posted speed is of the speeds' kind.
pub posted-every : (O W : Float → Type 0) (x u : Float) (ps : List Point) → Every O W ps → T (Ieee.le (offset_at ps 0) x) → W (posted x ps u)
posted-every O W x u [] n h = absurd (le-real-l nan x h)
posted-every O W x u (p ∷ ps) n h = every-posted O W x (passed x p u) ps n.2 (rw (passes x p u h) n.1)

-- ---- the laws

module _ (ps : List Point) (s e v : Float) (sorted : Sorted ps) (after : T (Ieee.le (offset_at ps 0) s)) (order : T (Ieee.le s e)) where
  laid : Laid s e v ps (insert_speed ps s e v)
  laid = pick (Ieee.le (offset_at ps (length ps - 1)) s) refl
    where
      pick : (b : Bool) → Ieee.le (offset_at ps (length ps - 1)) s ≡ b → Laid s e v ps (insert_speed ps s e v)
      pick true k = rw (insert-append s e v ps (length ps) refl k) (append-laid s e v order ps sorted (of-true k))
      pick false k =
          let o = offset_at ps (length ps - 1) in
          let below = first_below s ps (first_some ps s after) (is_false (Ieee.lt o s) (not_T (Ieee.lt o s) (λ l. subst T k (lt→le o s l)))) in
          rw (insert-lay s e v ps (length ps) refl k) (lay-laid s e v order ps sorted after below)

  -- The points stay sorted.
  pub insert-order : Sorted (insert_speed ps s e v)
  insert-order = sorted_of (offset_at ps 0) (insert_speed ps s e v) (change-order (offset_at ps 0) laid.change (from_first ps s sorted after))

  -- Offsets of a kind that s and e are of, and speeds of a kind that the limit lowers within, stay of that kind.
  pub insert-every : (O W : Float → Type 0) → O s → O e → ((u : Float) → W u → W (min_speed u v)) → Every O W ps → Every O W (insert_speed ps s e v)
  insert-every O W os oe low = change-every O W os oe low laid.change

  -- So no NaN and no infinity comes in.
  pub insert-finite : Finite s → Finite e → Finite v → Every Finite Finite ps → Every Finite Finite (insert_speed ps s e v)
  insert-finite a b c = insert-every Finite Finite a b (λ u h. min_speed-finite u v h c)

  -- u is what stands for the posted speed before the first point
  module _ (x u : Float) where
    near : Near s v x (posted x (insert_speed ps s e v) u) (posted x ps u)
    near = change-near s v x u laid.change

    -- Before the limit's start the posted speed is what it was, to the bit.
    pub insert-before : T (Ieee.lt x s) → posted x (insert_speed ps s e v) u ≡ posted x ps u
    insert-before h = elim near [ inl k ↦ k | inr k ↦ absurd (lt_not_le x s h k.0) ]

    module _ (number : T (real v)) (old : T (real (posted x ps u))) where
      abbrev was : Float
      was = posted x ps u

      abbrev is : Float
      is = posted x (insert_speed ps s e v) u

      -- Where the limit covers x, the posted speed equals `min_speed` of what it was and the limit's.
      pub insert-within : T (covers s e x) → T (Ieee.eq (posted x (insert_speed ps s e v) u) (min_speed (posted x ps u) v))
      insert-within h = laid.met x u h number old

      -- Where it does not, the posted speed equals what it was.
      pub insert-outside : covers s e x ≡ false → T (Ieee.eq (posted x (insert_speed ps s e v) u) (posted x ps u))
      insert-outside h = elim near [ inl k ↦ rw k (eq_refl was old) | inr k ↦ change-past x u laid.change (to_end k.0) old ]
        where
          to_end : T (Ieee.le s x) → T (Ieee.le e x)
          to_end l = not-lt x e (le-real-r s x l) (le-real-r s e order) (of-false (rw (is_true (Ieee.le s x) l) at h))

      -- So the posted speed equals what it was, held to the limit where the limit covers x.
      pub insert-exact : T (Ieee.eq (posted x (insert_speed ps s e v) u) (held_to s e v x (posted x ps u)))
      insert-exact = pick (covers s e x) refl
        where
          pick : (b : Bool) → covers s e x ≡ b → T (Ieee.eq is (cond b (min_speed was v) was))
          pick true h = insert-within (of-true h)
          pick false h = insert-outside h
