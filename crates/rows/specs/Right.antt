-- What it means that a row is right: the definition that the call's contract cites, at what the row gives, has the row's result, every count and
-- every entry of a column to the bit. The rows hold where `T (every rows)` does. Definitions only.
use Rattle.std.specs.Prelude.{ℕ, Bool, true, false, cond, ◌&&◌, List, [], ◌∷◌, map, eqb, Float}
use Rattle.std.specs.Float.Ieee as Ieee
use Rattle.std.specs.Float.{binary64}
use Rattle.column.specs.Records.{flat}
use Rattle.speed.specs.Points.{Point}
use Rattle.speed.specs.Column.{pair}
use Rattle.speed.specs.Insert.{insert_speed}
use Rattle.lookup.specs.CalcIdx.{Indexed, calc_idx}
use Rattle.answer.specs.Answers.{done}
use Rattle.path.specs.declared.path_tpc.PathTpc.{PathTpc}
use Rattle.path.specs.declared.path_tpc.PathAnswer.{PathAnswer}
use Rattle.path.specs.declared.link_point.LinkPoint.{LinkPoint}
use Rattle.path.specs.Records.{Columns, columns, offset_of}
use Rattle.path.specs.Answers as answers
use Rattle.path_clear.specs.Clear.{Cleared, clear_of}
use Rattle.rows.specs.Rows.{m, Lent, Row, lay, clear, find}

-- the same numbers
unfoldable pub same : List ℕ → List ℕ → Bool
same [] [] = true
same [] (b ∷ bs) = false
same (a ∷ l) [] = false
same (a ∷ l) (b ∷ bs) = eqb a b && same l bs

-- the same lists
unfoldable pub alike : List (List ℕ) → List (List ℕ) → Bool
unfolding same
alike [] [] = true
alike [] (b ∷ bs) = false
alike (a ∷ l) [] = false
alike (a ∷ l) (b ∷ bs) = same a b && alike l bs

-- floats by their bits; no row has a NaN
unfoldable pub bits : List Float → List ℕ
bits xs = map (Ieee.to_bits binary64) xs

-- points as numbers
unfoldable pub points_told : List Point → List ℕ
unfolding bits
points_told ps = bits (flat pair ps)

-- number, place and index of a search
unfoldable pub search_told : Indexed → List ℕ
search_told a = a.number ∷ a.place ∷ a.index ∷ []

-- the record and the columns that a caller holds
unfoldable pub record_of : Lent → PathTpc
record_of l =
    record { link_count = l.n; grade_count = l.n; curve_count = l.n; speed_count = l.k; power_count = 0; is_finished = false }

unfoldable pub columns_of : Lent → Columns
unfolding m
columns_of l = columns (map m l.offsets) l.numbers (map m l.grades) (map m l.grades) (map m l.speeds) [] []

-- "done" with the dropped counts d, and the path l
unfoldable pub leaves : LinkPoint → Lent → Cleared
unfolding record_of columns_of
leaves d l = record { outcome = answers.left (record { answer = done; path = record_of l }) (columns_of l); dropped = d }

-- all that `clear` leaves, as numbers
unfoldable pub answer_told : PathAnswer → List ℕ
answer_told a =
    a.answer.number ∷ a.answer.place ∷ a.path.link_count ∷ a.path.grade_count ∷ a.path.curve_count ∷ a.path.speed_count ∷ a.path.power_count ∷ cond a.path.is_finished 1 0 ∷ []

unfoldable pub dropped_told : LinkPoint → List ℕ
unfolding bits
dropped_told d = d.grade_count ∷ d.curve_count ∷ d.cat_power_count ∷ d.link_idx ∷ bits (offset_of d ∷ [])

unfoldable pub clear_told : Cleared → List (List ℕ)
unfolding bits answer_told dropped_told
clear_told r =
    let c = r.outcome.columns in
    answer_told r.outcome.answer
    ∷ dropped_told r.dropped
    ∷ bits c.offsets
    ∷ c.numbers
    ∷ bits c.grades
    ∷ bits c.curves
    ∷ bits c.speeds
    ∷ bits c.powers
    ∷ c.districts
    ∷ []

unfoldable pub right : Row → Bool
unfolding same alike points_told search_told clear_told record_of columns_of leaves m
right (lay ps s e v qs) = same (points_told (insert_speed ps (m s) (m e) v)) (points_told qs)
right (clear l x d k) = alike (clear_told (clear_of (m x) (record_of l) (columns_of l))) (clear_told (leaves d k))
right (find n col dir x hint a) = same (search_told (calc_idx dir (m x) hint n (map m col))) (search_told a)

unfoldable pub every : List Row → Bool
unfolding right
every [] = true
every (r ∷ rs) = right r && every rs
