-- That two limits may be laid in either order, R187: the statement. Definitions only.
use Rattle.std.specs.Prelude.{List, T, Float}
use Rattle.std.specs.Float.Ieee as Ieee
use Rattle.speed.specs.Points.{Point, offset_at}
use Rattle.speed.specs.Insert.{insert_speed}
use Rattle.speed.specs.Posted.{posted, Sorted}
use Rattle.speed_laws.specs.Words.{Every, Number, MayLay}

-- On all points in order, of numbers, two limits that may be laid on them post the same speed in either order, as a number, at every offset x from the first
-- point on. u stands for what is posted before that point.
abbrev pub EitherOrder : Type 0
EitherOrder =
    (ps : List Point) → Sorted ps → Every Number Number ps → (x u : Float) → T (Ieee.le (offset_at ps 0) x) →
    (s e v t f w : Float) → MayLay (offset_at ps 0) s e v → MayLay (offset_at ps 0) t f w →
    T (Ieee.eq (posted x (insert_speed (insert_speed ps s e v) t f w) u) (posted x (insert_speed (insert_speed ps t f w) s e v) u))
