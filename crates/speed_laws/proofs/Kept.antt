-- How many points there are after a limit is laid, and where they begin: of points in any order, and whatever the limit's end.
use mathlib.Core.Path.{◌≡◌, refl, ◌∙◌}
use mathlib.Core.Bool.{Bool, true, false, cond}
use mathlib.Core.List.{List, [], ◌∷◌, ◌++◌}
use Prim.Native.Nat.{ℕ, zero, suc, ◌+◌, ◌-◌, ◌≤◌, ◌<◌}
use native.Mathlib.Nat.{not-suc-le-zero}
use native.Mathlib.Omega.{arith}
use lib.Dec.{T}
use lib.ListN.{length, take, drop, length-append, length-take, length-drop, length-set}
use lib.Ieee as Ieee
use lib.Ieee.{Float}
use lib.Ieee.Fits.{and_l}
use lib.Ieee.Bits.{is_true}
use Rattle.ieee.specs.Speed.{min_speed}
use Rattle.ieee.proofs.Order.{of-true}
use Rattle.column.specs.Entries.{insert_at, remove_at}
use Rattle.speed.specs.Points.{Point, point, offset_at, speed_at, set_speed, set_offset, repeats}
use Rattle.speed.specs.Insert.{drop_repeat, merge, next_index, next_points, ends, lay_end, starts, lay_start, between, splits, lay_between, lay_from, lay_limit, append_change, append_limit, insert_speed, first_from, last_from}
use Rattle.speed.proofs.InsertSteps.{length_inserted, repeats-after, start-after, between-some}
use Rattle.speed_laws.proofs.Insert.{first_some}

-- ---- the first offset, change by change

first_taken : (i : ℕ) (ps qs : List Point) → 0 < length ps → 0 < i → offset_at (take i ps ++ qs) 0 ≡ offset_at ps 0
first_taken zero ps qs z h = absurd (not-suc-le-zero h)
first_taken (suc i) [] qs z h = absurd (not-suc-le-zero z)
first_taken (suc i) (p ∷ ps) qs z h = refl

first-stored : (i : ℕ) (w : Float) (ps : List Point) → offset_at (set_speed i w ps) 0 ≡ offset_at ps 0
first-stored i w [] = refl
first-stored zero w (q ∷ ps) = refl
first-stored (suc i) w (q ∷ ps) = refl

first-moved : (i : ℕ) (o : Float) (ps : List Point) → 0 < i → offset_at (set_offset i o ps) 0 ≡ offset_at ps 0
first-moved i o [] z = refl
first-moved zero o (q ∷ ps) z = absurd (not-suc-le-zero z)
first-moved (suc i) o (q ∷ ps) z = refl

first-appended : (ps qs : List Point) → 0 < length ps → offset_at (ps ++ qs) 0 ≡ offset_at ps 0
first-appended [] qs z = absurd (not-suc-le-zero z)
first-appended (p ∷ ps) qs z = refl

-- ---- step by step

module _ (m : ℕ) (o s e v : Float) where
  -- at most n points, one where there was one of m, and they begin at o if that is at or before the limit's start
  record Kept (n : ℕ) (ps : List Point) : Type 0 where
    count : length ps ≤ n
    least : 0 < m → 0 < length ps
    begins : T (Ieee.le o s) → offset_at ps 0 ≡ o

  module _ {n : ℕ} {ps : List Point} (k : Kept n ps) where
    after : T (Ieee.le o s) → T (Ieee.le (offset_at ps 0) s)
    after h = rw (k.begins h) h

    some : T (Ieee.le o s) → 0 < length ps
    some h = first_some ps s (after h)

    more : {m : ℕ} → n ≤ m → Kept m ps
    more h = let c = k.count in record { count = omega arith; least = k.least; begins = k.begins }

    kept_in : (i : ℕ) (p : Point) → (T (Ieee.le o s) → 0 < i) → Kept (n + 1) (insert_at i p ps)
    kept_in i p z = let c = k.count in record { count = omega (arith, length_inserted i p ps); least = λ z. omega (arith, length_inserted i p ps); begins = λ h. first_taken i ps (p ∷ drop i ps) (some h) (z h) ∙ k.begins h }

    kept_out : (i : ℕ) → 0 < i → Kept n (remove_at i ps)
    kept_out i z =
        let c = k.count in
        record {
          count = omega (arith, length-append (take i ps) (drop (suc i) ps), length-take i ps, length-drop (suc i) ps);
          least = λ y. omega (arith, k.least y, length-append (take i ps) (drop (suc i) ps), length-take i ps, length-drop (suc i) ps);
          begins = λ h. first_taken i ps (drop (suc i) ps) (some h) z ∙ k.begins h;
        }

    kept-speed : (i : ℕ) (w : Float) → Kept n (set_speed i w ps)
    kept-speed i w = let c = k.count in record { count = omega (arith, length-set ps i (point (offset_at ps i) w)); least = λ z. omega (arith, k.least z, length-set ps i (point (offset_at ps i) w)); begins = λ h. first-stored i w ps ∙ k.begins h }

    kept-offset : (i : ℕ) (x : Float) → 0 < i → Kept n (set_offset i x ps)
    kept-offset i x z = let c = k.count in record { count = omega (arith, length-set ps i (point x (speed_at ps i))); least = λ y. omega (arith, k.least y, length-set ps i (point x (speed_at ps i))); begins = λ h. first-moved i x ps z ∙ k.begins h }

    kept_append : (qs : List Point) → Kept (n + length qs) (ps ++ qs)
    kept_append qs = let c = k.count in record { count = omega (arith, length-append ps qs); least = λ z. omega (arith, k.least z, length-append ps qs); begins = λ h. first-appended ps qs (some h) ∙ k.begins h }

  kept-merge : (k i n : ℕ) (ps : List Point) → Kept n ps → Kept n (merge v k i ps)
  unfolding merge drop_repeat
  kept-merge zero i n ps c = pick (repeats i (speed_at ps i) ps) refl
    where
      pick : (b : Bool) → repeats i (speed_at ps i) ps ≡ b → Kept n (cond b (remove_at i ps) ps)
      pick true k = kept_out c i (repeats-after i (speed_at ps i) ps k)
      pick false k = c
  kept-merge (suc k) i n ps c = kept-merge k (next_index w i ps) n (next_points w i ps) (pick (repeats i w ps) refl)
    where
      w : Float
      w = min_speed (speed_at ps i) v

      pick : (b : Bool) → repeats i w ps ≡ b → Kept n (cond b (remove_at i ps) (set_speed i w ps))
      pick true k = kept_out c i (repeats-after i w ps k)
      pick false k = kept-speed c i w

  kept-end : (i j n : ℕ) (ps : List Point) → Kept n ps → Kept (n + 1) (lay_end e v i j ps)
  unfolding lay_end
  kept-end i j n ps c = pick (ends e v j ps)
    where
      p : Point
      p = point e (speed_at ps j)

      pick : (b : Bool) → Kept (n + 1) (cond b (merge v (suc j - i) i (insert_at (suc j) p ps)) (merge v (j - i) i ps))
      pick true = kept-merge (suc j - i) i (n + 1) (insert_at (suc j) p ps) (kept_in c (suc j) p (λ k. omega arith))
      pick false = more (kept-merge (j - i) i n ps c) (omega arith)

  kept-start : (i j n : ℕ) (ps : List Point) → Kept n ps → Kept (n + 2) (lay_start s e v i j ps)
  unfolding lay_start
  kept-start i j n ps c = pick (starts s v i ps) refl
    where
      u : Float
      u = speed_at ps (i - 1)

      p : Point
      p = point s (min_speed u v)

      pick : (b : Bool) → starts s v i ps ≡ b → Kept (n + 2) (cond b (lay_end e v (suc i) (suc j) (insert_at i p ps)) (lay_end e v i j ps))
      pick true k =
          let a = offset_at ps i in
          let l : Ieee.lt s a ≡ true = is_true (Ieee.lt s a) (and_l (Ieee.lt s a) (Ieee.ne u (min_speed u v)) (of-true k)) in
          more (kept-end (suc i) (suc j) (n + 1) (insert_at i p ps) (kept_in c i p (λ h. start-after s ps i (is_true (Ieee.le (offset_at ps 0) s) (after c h)) l))) (omega arith)
      pick false k = more (kept-end i j n ps c) (omega arith)

  kept-between : (i n : ℕ) (ps : List Point) → 0 < i → Kept n ps → Kept (n + 2) (lay_between s e v i ps)
  unfolding lay_between
  kept-between i n ps z c = pick (splits s e v i ps)
    where
      u : Float
      u = speed_at ps (i - 1)

      pick : (b : Bool) → Kept (n + 2) (cond b (insert_at i (point s (min_speed u v)) (insert_at i (point e u) ps)) ps)
      pick true = more (kept_in (kept_in c i (point e u) (λ h. z)) i (point s (min_speed u v)) (λ h. z)) (omega arith)
      pick false = more c (omega arith)

  kept_from : (i j n : ℕ) (ps : List Point) → Kept n ps → Kept (n + 2) (lay_from s e v i j ps)
  unfolding lay_from
  kept_from i j n ps c = pick (between s e i ps) refl
    where
      pick : (b : Bool) → between s e i ps ≡ b → Kept (n + 2) (cond b (lay_between s e v i ps) (lay_start s e v i j ps))
      pick true k = kept-between i n ps (between-some s e i ps k) c
      pick false k = kept-start i j n ps c

  kept-limit : (n : ℕ) (ps : List Point) → Kept n ps → Kept (n + 2) (append_limit s e v ps)
  unfolding append_limit append_change
  kept-limit n ps k = pick (Ieee.ne u w) (Ieee.lt (offset_at ps l) s) (repeats l w ps) refl
    where
      l : ℕ
      l = length ps - 1

      u : Float
      u = speed_at ps l

      w : Float
      w = min_speed u v

      pick : (a b c : Bool) → repeats l w ps ≡ c → Kept (n + 2) (cond a (cond b (ps ++ point s w ∷ point e u ∷ []) (cond c (set_offset l e ps) (set_speed l w ps ++ point e u ∷ []))) ps)
      pick true true c r = kept_append k (point s w ∷ point e u ∷ [])
      pick true false true r = more (kept-offset k l e (repeats-after l w ps r)) (omega arith)
      pick true false false r = more (kept_append (kept-speed k l w) (point e u ∷ [])) (omega arith)
      pick false b c r = more k (omega arith)

  kept-insert : (n : ℕ) (ps : List Point) → Kept n ps → Kept (n + 2) (insert_speed ps s e v)
  unfolding insert_speed lay_limit
  kept-insert n ps k = pick (Ieee.le (offset_at ps (length ps - 1)) s)
    where
      pick : (b : Bool) → Kept (n + 2) (cond b (append_limit s e v ps) (lay_from s e v (first_from s ps) (last_from e (length ps - 1) ps) ps))
      pick true = kept-limit n ps k
      pick false = kept_from (first_from s ps) (last_from e (length ps - 1) ps) n ps k

-- ---- the laws

module _ (ps : List Point) (s e v : Float) where
  kept : Kept (length ps) (offset_at ps 0) s e v (length ps + 2) (insert_speed ps s e v)
  kept = kept-insert (length ps) (offset_at ps 0) s e v (length ps) ps (record { count = omega arith; least = λ h. h; begins = λ h. refl })

  -- At most two points come in.
  pub count-insert : length (insert_speed ps s e v) ≤ length ps + 2
  count-insert = kept.count

  -- There is a point then.
  pub insert-some : 0 < length ps → 0 < length (insert_speed ps s e v)
  insert-some = kept.least

  -- The first offset stays, to the bit, if it is at or before the limit's start.
  pub insert-begins : T (Ieee.le (offset_at ps 0) s) → offset_at (insert_speed ps s e v) 0 ≡ offset_at ps 0
  insert-begins = kept.begins
