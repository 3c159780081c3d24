-- Questions 1, 2 and 3 (R104 to R106), as they are put to a path and a train. Definitions only.
use Rattle.std.specs.Prelude.{ℕ, ◌+◌, ◌-◌, ◌*◌, Bool, true, false, not, ◌&&◌, ◌||◌, cond, List, [], ◌∷◌, eqb, leb, length, take, Float}
use Rattle.std.specs.Float.Ieee as Ieee
use Rattle.ieee.specs.Number.{+0, +∞, all_finite}
use Rattle.speed.specs.Points.{Point}
use Rattle.lookup.specs.declared.path_res_coeff.PathResCoeff.{PathResCoeff}
use Rattle.lookup.specs.Coeff.{coeffs_finite, stands_at, offset_at}
use Rattle.link.specs.declared.train_params.TrainParams.{TrainParams}
use Rattle.link.specs.Lists.{every}
use Rattle.link.specs.Train.{length_of, top_speed, towed_mass, mass_per_brake_of, curve0, curve1, curve2}
use Rattle.path.specs.declared.path_tpc.PathTpc.{PathTpc}
use Rattle.answer.specs.declared.Answer.{Answer}
use Rattle.path.specs.declared.link_point.LinkPoint.{LinkPoint}
use Rattle.path.specs.declared.lines.Lines.{Lines}
use Rattle.path.specs.declared.lines.Lines.TheVariants.{Grades, Curves}
use Rattle.path.specs.Records.{Columns, fits_links, fits_grades, fits_curves, fits_speeds, fits_powers, link_point, offset_of, grade_count_of, curve_count_of, power_count_of, number_of, Path, link_point_at, end_point, last_coeff, path_of, record_of}
use Rattle.path.specs.Answers.{ask, in_turn}

-- ---- question 1 (R104): the numbers are finite, a train's length is above 0 and its top speed not below 0

-- R104: the closing offsets of a finished path may be +infinity
unfoldable pub path_finite : PathTpc → Columns → Bool
unfolding all_finite
path_finite p c =
    all_finite (take p.link_count c.offsets)
    && (coeffs_finite p.is_finished p.grade_count c.grades
    && (coeffs_finite p.is_finished p.curve_count c.curves
    && (all_finite (take (2 * p.speed_count) c.speeds) && all_finite (take (3 * p.power_count) c.powers))))

unfoldable pub train_finite : TrainParams → Bool
unfolding all_finite
train_finite train =
    all_finite (length_of train ∷ top_speed train ∷ towed_mass train ∷ mass_per_brake_of train ∷ curve0 train ∷ curve1 train ∷ curve2 train ∷ [])
    && (Ieee.lt +0 (length_of train) && not (Ieee.lt (top_speed train) +0))

-- ---- question 2 (R105): the path is sound

-- R105: one of each record but power limits
unfoldable pub one_of_each : PathTpc → Bool
one_of_each p = leb 1 p.link_count && (leb 1 p.grade_count && (leb 1 p.curve_count && leb 1 p.speed_count))

-- R105: each count within its bound (R12)
unfoldable pub within_bounds : PathTpc → Columns → Bool
within_bounds p c =
    fits_links p.link_count c
    && (fits_grades p.grade_count c && (fits_curves p.curve_count c && (fits_speeds p.speed_count c && fits_powers p.power_count c)))

-- the sum of a figure of each link point
unfoldable pub total : (LinkPoint → ℕ) → List LinkPoint → ℕ
total count [] = 0
total count (p ∷ ps) = count p + total count ps

-- the counts of link points, as a link point with offset 0 and number 0
unfoldable pub totals : List LinkPoint → LinkPoint
unfolding total
totals ps = link_point +0 (total grade_count_of ps) (total curve_count_of ps) (total power_count_of ps) 0

-- R105: counts add up, to one less than the records, two less if finished
abbrev pub spare : Bool → ℕ
spare finished = cond finished 2 1

unfoldable pub add_up : PathTpc → LinkPoint → Bool
add_up p sum =
    eqb (grade_count_of sum + spare p.is_finished) p.grade_count
    && (eqb (curve_count_of sum + spare p.is_finished) p.curve_count && eqb (power_count_of sum) p.power_count)

unfoldable pub counts_add_up : Path → Bool
unfolding add_up totals record_of
counts_add_up path = add_up (record_of path) (totals path.links)

-- R105: a finished path has both closing offsets at +infinity
abbrev pub closes : List PathResCoeff → Bool
closes gs = Ieee.eq (stands_at (last_coeff gs)) +∞

unfoldable pub closed_at_infinity : Path → Bool
closed_at_infinity path = not path.finished || (closes path.grades && closes path.curves)

-- R105: the end point's counts are 0
unfoldable pub end_counts_zero : List LinkPoint → Bool
end_counts_zero ps =
    let p = end_point ps in
    eqb (grade_count_of p) 0 && (eqb (curve_count_of p) 0 && eqb (power_count_of p) 0)

-- R105: link offsets rise strictly; o is the offset before these
unfoldable pub rise_from : Float → List LinkPoint → Bool
rise_from o [] = true
rise_from o (p ∷ ps) = Ieee.lt o (offset_of p) && rise_from (offset_of p) ps

unfoldable pub offsets_rise : List LinkPoint → Bool
unfolding rise_from
offsets_rise [] = true
offsets_rise (p ∷ ps) = rise_from (offset_of p) ps

-- R105: a lone link point has number 0; of several none has, and the end point has the last link's
abbrev pub numbered : LinkPoint → Bool
numbered p = not (eqb (number_of p) 0)

abbrev pub all_numbered : List LinkPoint → Bool
all_numbered ps = every numbered ps

unfoldable pub numbers_real : List LinkPoint → Bool
unfolding every
numbers_real ps =
    cond (eqb (length ps) 1)
    (eqb (number_of (end_point ps)) 0)
    (all_numbered ps && eqb (number_of (end_point ps)) (number_of (link_point_at ps (length ps - 2))))

-- the clauses about link points alone
unfoldable pub links_sound : List LinkPoint → Bool
unfolding end_counts_zero offsets_rise numbers_real
links_sound ps = end_counts_zero ps && (offsets_rise ps && numbers_real ps)

-- R105: speed points begin at the first link point's offset and never fall; o is the offset before these
unfoldable pub never_fall : Float → List Point → Bool
never_fall o [] = true
never_fall o (p ∷ ps) = Ieee.le o p.offset && never_fall p.offset ps

unfoldable pub sorted_from : Float → List Point → Bool
unfolding never_fall
sorted_from o [] = true
sorted_from o (p ∷ ps) = Ieee.eq p.offset o && never_fall p.offset ps

abbrev pub stands_there : List PathResCoeff → ℕ → Float → Bool
stands_there gs at o = Ieee.eq (offset_at gs at) o

-- grades or curves, as the definitions ask for them
abbrev pub is_curves : Lines → Bool
is_curves Grades = false
is_curves Curves = true

-- how many grades, or curves, a link point has
abbrev pub count_of : Bool → LinkPoint → ℕ
count_of curves p = cond curves (curve_count_of p) (grade_count_of p)

-- R105: each link point's first grade and curve stand at its offset; `count` is how many records a link point has, and `at` the first record of the
-- next one
unfoldable pub first_at_offset : (LinkPoint → ℕ) → ℕ → List LinkPoint → List PathResCoeff → Bool
first_at_offset count at [] gs = true
first_at_offset count at (p ∷ ps) gs = stands_there gs at (offset_of p) && first_at_offset count (at + count p) ps gs

unfoldable pub sound_path : Path → Bool
unfolding counts_add_up closed_at_infinity links_sound sorted_from first_at_offset
sound_path path =
    counts_add_up path
    && (closed_at_infinity path
    && (links_sound path.links
    && (sorted_from (offset_of (link_point_at path.links 0)) path.speeds
    && (first_at_offset (count_of false) 0 path.links path.grades && first_at_offset (count_of true) 0 path.links path.curves))))

unfoldable pub sound : PathTpc → Columns → Bool
unfolding one_of_each within_bounds sound_path path_of
sound p c = one_of_each p && (within_bounds p c && sound_path (path_of p c))

-- Every call on a path puts questions 1 and 2 first; `also` is question 1 of its other numbers.
unfoldable pub path_answer : Bool → PathTpc → Columns → Answer
unfolding path_finite sound in_turn
path_answer also p c = in_turn (ask 1 (path_finite p c && also) ∷ ask 2 (sound p c) ∷ [])

-- ---- question 3 (R106): the path is open

abbrev pub is_open : PathTpc → Bool
is_open p = not p.is_finished
