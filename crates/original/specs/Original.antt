-- The speed points that the original Rust would have: its rules where the port has others (R174, R188), and its run followed in a column. Definitions only.
use Rattle.std.specs.Prelude.{ℕ, suc, ◌+◌, ◌-◌, ◌*◌, Bool, not, ◌&&◌, cond, List, [], ◌∷◌, ltb, leb, length, drop, Float}
use Rattle.std.specs.Float.Ieee as Ieee
use Rattle.ieee.specs.Speed.{min_speed}
use Rattle.column.specs.Entries.{insert_at}
use Rattle.speed.specs.declared.laid.Laid.{Laid}
use Rattle.speed.specs.Points.{Point, point, offset_at, speed_at}
use Rattle.speed.specs.Column.{points}
use Rattle.speed.specs.Insert.{first_from, drop_repeat, between, insert_speed}
use Rattle.speed.specs.Clear.{move_to}

-- A limit goes from s to e at the speed v; m(u) is `min_speed u v`.

-- R188 in the original: strictly between point i and the one before it, whose speed is u, (s, m(u)) goes in at i where m(u) ≠ u, and nothing releases it at
-- e; the point behind goes out where it then has the speed before it
unfoldable pub not_released : Float → Float → ℕ → List Point → List Point
unfolding drop_repeat
not_released s v i ps =
    let u = speed_at ps (i - 1) in
    cond (Ieee.ne u (min_speed u v)) (drop_repeat (suc i) (insert_at i (point s (min_speed u v)) ps)) (drop_repeat i ps)

-- the last point is after s, and the limit lies strictly between two points
abbrev pub strictly_between : Float → Float → List Point → Bool
strictly_between s e ps = not (Ieee.le (offset_at ps (length ps - 1)) s) && between s e (first_from s ps) ps

-- every other limit is laid as the port lays it
unfoldable pub insert_original : List Point → Float → Float → Float → List Point
unfolding not_released first_from
insert_original ps s e v = cond (strictly_between s e ps) (not_released s v (first_from s ps) ps) (insert_speed ps s e v)

-- R174 in the original: the points before X go, and the first at or past X is pulled back to it. Where none is there the original stops: no point is left.
unfoldable pub clear_original : List Point → Float → List Point
unfolding first_from
clear_original ps X = move_to X (drop (first_from X ps) ps)

-- ---- a run followed in a column; no points: it is not followed, or has stopped

-- the n points of a column; none where it is too short for them
unfoldable pub points_in : ℕ → List Float → List Point
points_in n c = cond (leb (2 * n) (length c)) (points n c) []

-- one limit more, where there are points and the column has room for two more
unfoldable pub follow : ℕ → List Point → Float → Float → Float → List Point
unfolding insert_original
follow room ps s e v = cond (ltb 0 (length ps) && leb (2 * (length ps + 2)) room) (insert_original ps s e v) []

-- limits in turn, each from its start to its end with the tail
unfoldable pub follow_all : ℕ → List Laid → List Point → List Point
unfolding follow
follow_all room [] ps = ps
follow_all room (l ∷ ls) ps = follow_all room ls (follow room ps l.start l.end l.value)
