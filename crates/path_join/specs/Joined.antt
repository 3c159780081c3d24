-- Links joined to a path's end, R38 to R47: path_tpc.rs (`extend`). Definitions only.
use Rattle.std.specs.Prelude.{ℕ, ◌-◌, Bool, true, false, cond, eqb, List, [], ◌∷◌, ◌++◌, map, length, set, Float}
use Rattle.ieee.specs.Number.{◌⊕◌}
use Rattle.lookup.specs.declared.path_res_coeff.PathResCoeff.{PathResCoeff}
use Rattle.lookup.specs.Coeff.{res_coeff_record, stands_at, coefficient_of, net_of}
use Rattle.link.specs.declared.train_params.TrainParams.{TrainParams}
use Rattle.link.specs.Train.{length_of}
use Rattle.link.specs.Table.{LinkTable, Sample, PowerLimit, numbers_of}
use Rattle.path.specs.declared.link_point.LinkPoint.{LinkPoint}
use Rattle.path.specs.Records.{Path, link_point, offset_of, end_point, last_coeff}
use Rattle.path_speeds.specs.Limits.{sets_of, lay_all, laying_at}
use Rattle.path_stretches.specs.Stretches.{stretches, lay_stretches}
use Rattle.path_stretches.specs.Powers.{placed_power}
use Rattle.path_join.specs.Listed.{Rises, rises_of, length_at, elevs_at, samples_at, powers_at, grades_in, curves_in, powers_in}

-- ---- one link

-- the end point becomes the link's point, and a new end point follows, with the link's number too
unfoldable pub join_point : List ℕ → List Float → List LinkPoint → ℕ → List LinkPoint
join_point links lengths ps n =
    let number = (numbers_of links n).idx_curr in
    let base = offset_of (end_point ps) in
    set ps (length ps - 1) (link_point base (grades_in links n) (curves_in links n) (powers_in links n) number) ++ link_point (length_at lengths n ⊕ base) 0 0 0 number ∷ []

-- its grades or curves, from base on
unfoldable pub join_records : Bool → TrainParams → Rises → List Float → Float → List PathResCoeff → ℕ → List PathResCoeff
join_records curves train r headings base rs n = lay_stretches rs (stretches curves train base (net_of (last_coeff rs)) (length_at r.lengths n) (samples_at curves r headings n))

-- its power limits
unfoldable pub join_powers : List ℕ → List Float → List ℕ → Float → List PowerLimit → ℕ → List PowerLimit
join_powers links pool districts base ls n = ls ++ map (placed_power base) (powers_at links pool districts n)

-- R39: base is the end point's offset, and for grades, curves and power limits the last grade's
unfoldable pub join : TrainParams → LinkTable → Path → ℕ → Path
unfolding join_point join_records join_powers
join train t path n =
    let base = stands_at (last_coeff path.grades) in
    record {
      links = join_point t.links t.lengths path.links n;
      grades = join_records false train (rises_of t) t.headings base path.grades n;
      curves = join_records true train (rises_of t) t.headings base path.curves n;
      speeds = lay_all path.speeds (laying_at train (length_of train) (sets_of t) (offset_of (end_point path.links)) n);
      powers = join_powers t.links t.powers t.districts base path.powers n;
      finished = path.finished;
    }

-- ---- the listed links

unfoldable pub join_all : TrainParams → LinkTable → Path → List ℕ → Path
unfolding join
join_all train t path [] = path
join_all train t path (n ∷ ns) = join_all train t (join train t path n) ns

-- R43: with one grade as the call begins, the first listed link's first elevation, where it has any, is the starting net value
abbrev pub first_value : Float → List Sample → Float
first_value net [] = net
first_value net (s ∷ ss) = s.value

unfoldable pub starting_net : List ℕ → List Float → ℕ → Float → List ℕ → Float
starting_net links elevs m net [] = net
starting_net links elevs m net (n ∷ ns) = cond (eqb m 1) (first_value net (elevs_at links elevs n)) net

-- the last grade with another net value
abbrev pub with_net : Float → PathResCoeff → PathResCoeff
with_net net g = res_coeff_record (stands_at g) (coefficient_of g) net

unfoldable pub start_net : List ℕ → List Float → List PathResCoeff → List ℕ → List PathResCoeff
unfolding starting_net
start_net links elevs gs ns = set gs (length gs - 1) (with_net (starting_net links elevs (length gs) (net_of (last_coeff gs)) ns) (last_coeff gs))

-- the path as `extend` begins with it
unfoldable pub started : LinkTable → Path → List ℕ → Path
unfolding start_net
started t path ns =
    record {
      links = path.links;
      grades = start_net t.links t.elevs path.grades ns;
      curves = path.curves;
      speeds = path.speeds;
      powers = path.powers;
      finished = path.finished;
    }
