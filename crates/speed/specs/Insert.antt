-- What laying a speed limit on points gives, R20 to R23: speed_point.rs, `insert_speed`. Total on every list of points. Definitions only.
use Rattle.std.specs.Prelude.{ℕ, zero, suc, ◌-◌, Bool, cond, ◌&&◌, List, [], ◌∷◌, ◌++◌, ltb, length, Float}
use Rattle.std.specs.Float.Ieee as Ieee
use Rattle.ieee.specs.Speed.{min_speed}
use Rattle.column.specs.Entries.{insert_at, remove_at}
use Rattle.speed.specs.Points.{Point, point, offset_at, speed_at, set_speed, set_offset, repeats}

-- A limit goes from s to e at the speed v; m(u) is `min_speed u v`.

-- The last point, at index l, is at or before s, and its speed u is to become w, m(u), which differs from u.
-- Strictly before s: (s, w) and (e, u) are appended. At s, and the point before it has the speed w: the last point moves to e.
-- Otherwise: the last point gets w, and (e, u) is appended.
unfoldable pub append_change : ℕ → Float → Float → Float → Float → List Point → List Point
append_change l s e u w ps =
    cond (Ieee.lt (offset_at ps l) s) (ps ++ point s w ∷ point e u ∷ []) (cond (repeats l w ps) (set_offset l e ps) (set_speed l w ps ++ point e u ∷ []))

-- nothing changes where m(u) = u
unfoldable pub append_limit : Float → Float → Float → List Point → List Point
unfolding append_change
append_limit s e v ps =
    let l = length ps - 1 in
    let u = speed_at ps l in
    let w = min_speed u v in
    cond (Ieee.ne u w) (append_change l s e u w ps) ps

-- the first point at or after s
unfoldable pub first_from : Float → List Point → ℕ
first_from s [] = 0
first_from s (p ∷ ps) = cond (Ieee.lt p.offset s) (suc (first_from s ps)) 0

-- of the points up to k, the last at or before e
unfoldable pub last_from : Float → ℕ → List Point → ℕ
last_from e zero ps = zero
last_from e (suc k) ps = cond (Ieee.lt e (offset_at ps (suc k))) (last_from e k ps) (suc k)

-- if i > 0 and points i - 1 and i have equal speeds, i goes out
unfoldable pub drop_repeat : ℕ → List Point → List Point
drop_repeat i ps = cond (repeats i (speed_at ps i) ps) (remove_at i ps) ps

-- one step at i: the point goes out, or is given its speed and i is raised
abbrev pub next_points : Float → ℕ → List Point → List Point
next_points w i ps = cond (repeats i w ps) (remove_at i ps) (set_speed i w ps)

abbrev pub next_index : Float → ℕ → List Point → ℕ
next_index w i ps = cond (repeats i w ps) i (suc i)

-- k steps from i on, and the last point of the range
unfoldable pub merge : Float → ℕ → ℕ → List Point → List Point
unfolding drop_repeat
merge v zero i ps = drop_repeat i ps
merge v (suc k) i ps = merge v k (next_index (min_speed (speed_at ps i) v) i ps) (next_points (min_speed (speed_at ps i) v) i ps)

-- if point j lies before e and its speed w has m(w) ≠ w, (e, w) goes in after j
abbrev pub ends : Float → Float → ℕ → List Point → Bool
ends e v j ps = Ieee.lt (offset_at ps j) e && Ieee.ne (speed_at ps j) (min_speed (speed_at ps j) v)

unfoldable pub lay_end : Float → Float → ℕ → ℕ → List Point → List Point
unfolding merge
lay_end e v i j ps = cond (ends e v j ps) (merge v (suc j - i) i (insert_at (suc j) (point e (speed_at ps j)) ps)) (merge v (j - i) i ps)

-- if point i lies after s and the speed u of point i - 1 has m(u) ≠ u, (s, m(u)) goes in at i
abbrev pub starts : Float → Float → ℕ → List Point → Bool
starts s v i ps = Ieee.lt s (offset_at ps i) && Ieee.ne (speed_at ps (i - 1)) (min_speed (speed_at ps (i - 1)) v)

unfoldable pub lay_start : Float → Float → Float → ℕ → ℕ → List Point → List Point
unfolding lay_end
lay_start s e v i j ps =
    cond (starts s v i ps) (lay_end e v (suc i) (suc j) (insert_at i (point s (min_speed (speed_at ps (i - 1)) v)) ps)) (lay_end e v i j ps)

-- R23: the limit lies strictly between point i and the one before it. i is the first point at or after s, so that the one before is before s; e is before i.
abbrev pub between : Float → Float → ℕ → List Point → Bool
between s e i ps = ltb 0 i && (Ieee.le s e && Ieee.lt e (offset_at ps i))

-- the limit has a length, and the speed u of point i - 1 has m(u) ≠ u
abbrev pub splits : Float → Float → Float → ℕ → List Point → Bool
splits s e v i ps = Ieee.lt s e && Ieee.ne (speed_at ps (i - 1)) (min_speed (speed_at ps (i - 1)) v)

-- R23: then (s, m(u)) and (e, u) go in at i; no point goes out
unfoldable pub lay_between : Float → Float → Float → ℕ → List Point → List Point
lay_between s e v i ps =
    cond (splits s e v i ps) (insert_at i (point s (min_speed (speed_at ps (i - 1)) v)) (insert_at i (point e (speed_at ps (i - 1))) ps)) ps

unfoldable pub lay_from : Float → Float → Float → ℕ → ℕ → List Point → List Point
unfolding lay_between lay_start
lay_from s e v i j ps = cond (between s e i ps) (lay_between s e v i ps) (lay_start s e v i j ps)

unfoldable pub lay_limit : Float → Float → Float → List Point → List Point
unfolding lay_from first_from last_from
lay_limit s e v ps = lay_from s e v (first_from s ps) (last_from e (length ps - 1) ps) ps

-- R21 where the last point is not after s; otherwise R23 strictly between two points, and R22 elsewhere
unfoldable pub insert_speed : List Point → Float → Float → Float → List Point
unfolding append_limit lay_limit
insert_speed ps s e v = cond (Ieee.le (offset_at ps (length ps - 1)) s) (append_limit s e v ps) (lay_limit s e v ps)
