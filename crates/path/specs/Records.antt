-- The path: the record and its columns, as lists of records, and back. Definitions only.
use Rattle.std.specs.Prelude.{ℕ, ◌≡◌, zero, suc, ◌-◌, ◌/◌, Bool, ◌&&◌, List, [], ◌∷◌, map, leb, length, get_or, take, drop, Float}
use Rattle.ieee.specs.Number.{+0}
use Rattle.column.specs.declared.Three.{Three}
use Rattle.column.specs.declared.Four.{Four}
use Rattle.column.specs.Entries.{filled}
use Rattle.column.specs.Records.{flat, record_at, three, four}
use Rattle.speed.specs.Points.{Point}
use Rattle.speed.specs.Column.{pair, points}
use Rattle.lookup.specs.declared.path_res_coeff.PathResCoeff.{PathResCoeff}
use Rattle.lookup.specs.Coeff.{triple, coeffs, no_coeff}
use Rattle.link.specs.Table.{PowerLimit, power_at}
use Rattle.path.specs.declared.columns.PathColumns.{PathColumns}
use Rattle.path.specs.declared.columns.PathColumnsMut.{PathColumnsMut}
use Rattle.path.specs.declared.path_tpc.PathTpc.{PathTpc}
use Rattle.path.specs.declared.link_point.LinkPoint.{LinkPoint}

-- ---- the lent columns

pub record Columns : Type 0 where
  -- link points: the offset, and four numbers (grade, curve and power count, link number)
  pub offsets : List Float
  pub numbers : List ℕ
  -- (offset, coefficient, net value)
  pub grades : List Float
  pub curves : List Float
  -- (offset, speed)
  pub speeds : List Float
  -- (start, end, power)
  pub powers : List Float
  pub districts : List ℕ

abbrev pub columns : List Float → List ℕ → List Float → List Float → List Float → List Float → List ℕ → Columns
columns offsets numbers grades curves speeds powers districts =
    record { offsets = offsets; numbers = numbers; grades = grades; curves = curves; speeds = speeds; powers = powers; districts = districts }

-- the columns as a call reads them
abbrev pub lent : PathColumns → Columns
lent c = columns c.offsets.now c.numbers.now c.grades.now c.curves.now c.speeds.now c.powers.now c.districts.now

-- the columns as a call may write them
abbrev pub held : PathColumnsMut → Columns
held c = columns c.offsets.now c.numbers.now c.grades.now c.curves.now c.speeds.now c.powers.now c.districts.now

-- c becomes d: the same seven columns
pub record Same (c d : PathColumnsMut) : Type 0 where
  pub offsets : d.offsets.ghost_name ≡ c.offsets.ghost_name
  pub numbers : d.numbers.ghost_name ≡ c.numbers.ghost_name
  pub grades : d.grades.ghost_name ≡ c.grades.ghost_name
  pub curves : d.curves.ghost_name ≡ c.curves.ghost_name
  pub speeds : d.speeds.ghost_name ≡ c.speeds.ghost_name
  pub powers : d.powers.ghost_name ≡ c.powers.ghost_name
  pub districts : d.districts.ghost_name ≡ c.districts.ghost_name

-- R12: 1,025 link points, 16,384 grades, 16,384 curves, 4,096 speed points, 1,024 power limits, or what a shorter column holds
-- n is at most each of three figures
abbrev pub is_within_all : ℕ → ℕ → ℕ → ℕ → Bool
is_within_all n bound a b = leb n bound && (leb n a && leb n b)

-- n records of a kind fit
abbrev pub fits_links : ℕ → Columns → Bool
fits_links n c = is_within_all n 1025 (length c.offsets) (length c.numbers / 4)

abbrev pub fits_grades : ℕ → Columns → Bool
fits_grades n c = is_within_all n 16384 (length c.grades / 3) (length c.grades / 3)

abbrev pub fits_curves : ℕ → Columns → Bool
fits_curves n c = is_within_all n 16384 (length c.curves / 3) (length c.curves / 3)

abbrev pub fits_speeds : ℕ → Columns → Bool
fits_speeds n c = is_within_all n 4096 (length c.speeds / 2) (length c.speeds / 2)

abbrev pub fits_powers : ℕ → Columns → Bool
fits_powers n c = is_within_all n 1024 (length c.powers / 3) (length c.districts)

-- ---- link points

abbrev pub link_point : Float → ℕ → ℕ → ℕ → ℕ → LinkPoint
link_point offset grades curves powers number =
    record { offset = record { 0 = offset }; grade_count = grades; curve_count = curves; cat_power_count = powers; link_idx = number }

abbrev pub offset_of : LinkPoint → Float
offset_of p = p.offset.0

abbrev pub grade_count_of : LinkPoint → ℕ
grade_count_of p = p.grade_count

abbrev pub curve_count_of : LinkPoint → ℕ
curve_count_of p = p.curve_count

abbrev pub power_count_of : LinkPoint → ℕ
power_count_of p = p.cat_power_count

abbrev pub number_of : LinkPoint → ℕ
number_of p = p.link_idx

-- the four numbers of a link point
abbrev pub four_of : LinkPoint → Four
four_of p = record { 0 = grade_count_of p; 1 = curve_count_of p; 2 = power_count_of p; 3 = number_of p }

-- link point i of the two columns
abbrev pub point_at : List Float → List ℕ → ℕ → LinkPoint
point_at os ns i = link_point (get_or os i +0) (record_at four ns i).0 (record_at four ns i).1 (record_at four ns i).2 (record_at four ns i).3

-- the first n link points of their two columns
unfoldable pub link_points : ℕ → List Float → List ℕ → List LinkPoint
link_points zero os ns = []
link_points (suc n) os ns = point_at os ns 0 ∷ link_points n (drop 1 os) (drop 4 ns)

-- what stands past the end of a list
abbrev pub no_link_point : LinkPoint
no_link_point = link_point +0 0 0 0 0

abbrev pub link_point_at : List LinkPoint → ℕ → LinkPoint
link_point_at ps k = get_or ps k no_link_point

abbrev pub end_point : List LinkPoint → LinkPoint
end_point ps = link_point_at ps (length ps - 1)

-- the link points that begin a link: all but the end point
abbrev pub beginnings : List LinkPoint → List LinkPoint
beginnings ps = take (length ps - 1) ps

abbrev pub last_coeff : List PathResCoeff → PathResCoeff
last_coeff gs = get_or gs (length gs - 1) no_coeff

-- ---- power limits

-- the three f64 of a power limit
abbrev pub three_of : PowerLimit → Three
three_of p = record { 0 = p.limit.start; 1 = p.limit.end; 2 = p.limit.value }

-- the first n power limits of their two columns
unfoldable pub power_limits : ℕ → List Float → List ℕ → List PowerLimit
power_limits zero ws ds = []
power_limits (suc n) ws ds = power_at ws ds 0 ∷ power_limits n (drop 3 ws) (drop 1 ds)

-- ---- the path as lists of records

pub record Path : Type 0 where
  pub links : List LinkPoint
  pub grades : List PathResCoeff
  pub curves : List PathResCoeff
  pub speeds : List Point
  pub powers : List PowerLimit
  pub finished : Bool

unfoldable pub path_of : PathTpc → Columns → Path
unfolding link_points power_limits
path_of p c =
    record {
      links = link_points p.link_count c.offsets c.numbers;
      grades = coeffs p.grade_count c.grades;
      curves = coeffs p.curve_count c.curves;
      speeds = points p.speed_count c.speeds;
      powers = power_limits p.power_count c.powers c.districts;
      finished = p.is_finished;
    }

-- R14: past the counts all entries are zero, +0 for f64
unfoldable pub columns_of : Columns → Path → Columns
columns_of c path =
    record {
      offsets = filled +0 (length c.offsets) (map offset_of path.links);
      numbers = filled 0 (length c.numbers) (flat four (map four_of path.links));
      grades = filled +0 (length c.grades) (flat triple path.grades);
      curves = filled +0 (length c.curves) (flat triple path.curves);
      speeds = filled +0 (length c.speeds) (flat pair path.speeds);
      powers = filled +0 (length c.powers) (flat three (map three_of path.powers));
      districts = filled 0 (length c.districts) (map (λ p. p.district) path.powers);
    }

-- the path's record: the counts, and whether it is finished
unfoldable pub record_of : Path → PathTpc
record_of path =
    record {
      link_count = length path.links;
      grade_count = length path.grades;
      curve_count = length path.curves;
      speed_count = length path.speeds;
      power_count = length path.powers;
      is_finished = path.finished;
    }
