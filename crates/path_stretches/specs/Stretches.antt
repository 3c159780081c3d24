-- Grades and curves, R42 to R46: what each neighbouring pair of elevations or headings adds to the records. path_tpc.rs. Definitions only.
use Rattle.std.specs.Prelude.{ℕ, ◌-◌, Bool, ◌&&◌, cond, List, [], ◌∷◌, ◌++◌, ◌≡◌, eqb, set, Float, Option, Some, None}
use Rattle.std.proofs.Math.ListN as list
use Rattle.std.specs.Float.Ieee as Ieee
use Rattle.std.specs.Float.{binary64}
use Rattle.std.specs.Float.Ieee.{of_bits}
use Rattle.std.specs.Float.Ieee.Scale.{finite}
use Rattle.ieee.specs.Number.{+0, size, ◌⊕◌, ◌⊖◌, ◌⊗◌, ◌⊘◌, all_finite}
use Rattle.si.specs.declared.Ratio.{Ratio}
use Rattle.si.specs.Constants.{rev, half_rev, one_degree_per100ft}
use Rattle.lookup.specs.declared.path_res_coeff.PathResCoeff.{PathResCoeff}
use Rattle.column.specs.Entries.{filled}
use Rattle.column.specs.Records.{flat}
use Rattle.lookup.specs.Coeff.{triple, res_coeff_record, stands_at, net_of}
use Rattle.link.specs.declared.train_params.TrainParams.{TrainParams}
use Rattle.link.specs.Lists.{every}
use Rattle.link.specs.Train.{curve0, curve1, curve2}
use Rattle.link.specs.Table.{Sample}
use Rattle.path.specs.Records.{last_coeff}
use Rattle.path_stretches.specs.declared.stretch.Stretch.{Stretch}
use Rattle.path_stretches.specs.declared.stretch.Reached.{Reached}
use Rattle.path_stretches.specs.declared.stretch.StretchEnd.{StretchEnd}

-- A stretch gives the record before it a coefficient, or leaves it its own, and adds a record with the coefficient 0 at the stretch's end.
-- `finite` says that every result on the way is, as question 8 asks.
abbrev pub stretch_of : Float → Float → Float → Bool → Stretch
stretch_of coefficient offset net finite =
    record { coefficient = Some (record { 0 = coefficient }); offset = record { 0 = offset }; net = record { 0 = net }; finite = finite }

-- ---- grades

-- R42: one record for each neighbouring pair of elevations
unfoldable pub grade_stretch : Float → Float → Sample → Sample → Stretch
grade_stretch base net prior current =
    let rise = current.value ⊖ prior.value in
    let run = current.offset ⊖ prior.offset in
    let slope = rise ⊘ run in
    let raised = net ⊕ current.value in
    let after = raised ⊖ prior.value in
    let offset = base ⊕ current.offset in
    stretch_of slope offset after (all_finite (rise ∷ run ∷ slope ∷ raised ∷ after ∷ offset ∷ []))

-- ---- curves

-- RADPM, 1.0
abbrev pub radpm : Float
radpm = of_bits binary64 0x3ff0_0000_0000_0000

-- a curve's resistance, and whether every result on the way is finite
pub record Worked : Type 0 where
  pub value : Ratio
  pub finite : Bool

-- below one degree per 100 ft
abbrev pub gentle : Float → Float → Worked
gentle c0 curvature = let c = c0 ⊗ curvature in record { value = record { 0 = c }; finite = finite c }

-- from one degree per 100 ft on
abbrev pub sharp : Float → Float → Float → Float → Worked
sharp c0 c1 c2 curvature =
    let over = curvature ⊖ one_degree_per100ft in
    let a = c0 ⊗ one_degree_per100ft in
    let b = c1 ⊗ over in
    let ab = a ⊕ b in
    let q = c2 ⊗ over in
    let qq = q ⊗ over in
    let c = qq ⊘ radpm in
    record { value = record { 0 = ab ⊕ c }; finite = all_finite (over ∷ a ∷ b ∷ ab ∷ q ∷ qq ∷ c ∷ ab ⊕ c ∷ []) }

unfoldable pub curve_work : Float → Float → Float → Float → Worked
curve_work c0 c1 c2 curvature = cond (Ieee.lt curvature one_degree_per100ft) (gentle c0 curvature) (sharp c0 c1 c2 curvature)

-- R45: the turn between two headings, by a remainder that keeps the sign of its left side, over the run
unfoldable pub bend_of : Float → Float
bend_of turn = Ieee.neg half_rev ⊕ Ieee.rem binary64 (turn ⊕ half_rev) rev

abbrev pub curvature_of : Float → Float → Float
curvature_of turn run = size (bend_of turn) ⊘ run

-- the results on the way to it are finite
unfoldable pub turn_finite : Float → Float → Bool
unfolding bend_of
turn_finite turn run =
    let shifted = turn ⊕ half_rev in
    all_finite (run ∷ turn ∷ shifted ∷ Ieee.rem binary64 shifted rev ∷ bend_of turn ∷ curvature_of turn run ∷ [])

unfoldable pub curve_stretch : TrainParams → Float → Float → Sample → Sample → Stretch
unfolding bend_of turn_finite curve_work
curve_stretch train base net prior current =
    let run = current.offset ⊖ prior.offset in
    let turn = current.value ⊖ prior.value in
    let work = curve_work (curve0 train) (curve1 train) (curve2 train) (curvature_of turn run) in
    let coefficient = work.value.0 ⊘ radpm in
    let rise = coefficient ⊗ run in
    let after = net ⊕ rise in
    let offset = base ⊕ current.offset in
    stretch_of coefficient offset after (turn_finite turn run && (work.finite && all_finite (coefficient ∷ rise ∷ after ∷ offset ∷ [])))

-- ---- the stretches of a link

-- of the curves, or of the grades
abbrev pub stretch_step : Bool → TrainParams → Float → Float → Sample → Sample → Stretch
stretch_step curves train base net prior current = cond curves (curve_stretch train base net prior current) (grade_stretch base net prior current)

-- the net value goes from one stretch to the next
unfoldable pub stretches_from : (Float → Sample → Sample → Stretch) → Float → Sample → List Sample → List Stretch
stretches_from step net prior [] = []
stretches_from step net prior (current ∷ rest) = step net prior current ∷ stretches_from step (step net prior current).net.0 current rest

-- R44: without elevations or headings one flat record
abbrev pub flat_stretch : Float → Float → Float → Stretch
flat_stretch base net length =
    record { coefficient = None; offset = record { 0 = base ⊕ length }; net = record { 0 = net }; finite = finite (base ⊕ length) }

unfoldable pub stretches : Bool → TrainParams → Float → Float → Float → List Sample → List Stretch
unfolding stretches_from grade_stretch curve_stretch
stretches curves train base net length [] = flat_stretch base net length ∷ []
stretches curves train base net length (s ∷ ss) = stretches_from (stretch_step curves train base) net s ss

-- how many they are, of so many samples
abbrev pub record_count : ℕ → ℕ
record_count n = cond (eqb n 0) 1 (n - 1)

abbrev pub stretch_count : List Sample → ℕ
stretch_count ss = record_count (list.length ss)

-- ---- what they come to

-- the offset and the net value after them
unfoldable pub offset_after : Float → List Stretch → Float
offset_after offset [] = offset
offset_after offset (s ∷ ss) = offset_after s.offset.0 ss

unfoldable pub net_after : Float → List Stretch → Float
net_after net [] = net
net_after net (s ∷ ss) = net_after s.net.0 ss

abbrev pub is_finite : Stretch → Bool
is_finite s = s.finite

unfoldable pub reached : Float → Float → List Stretch → Reached
unfolding offset_after net_after
reached offset net ss = record { finite = every is_finite ss; offset = record { 0 = offset_after offset ss }; net = record { 0 = net_after net ss } }

-- where they end, if every result on the way is finite
abbrev pub end_of : Reached → Option StretchEnd
end_of r = cond r.finite (Some (record { offset = r.offset; net = r.net })) None

-- ---- laid on records

-- a record with the coefficient given, or as it is
abbrev pub given : Option Ratio → PathResCoeff → PathResCoeff
given None g = g
given (Some c) g = res_coeff_record (stands_at g) c.0 (net_of g)

abbrev pub with_coefficient : Stretch → PathResCoeff → PathResCoeff
with_coefficient s g = given s.coefficient g

abbrev pub lay_stretch : List PathResCoeff → Stretch → List PathResCoeff
lay_stretch gs s = set gs (list.length gs - 1) (with_coefficient s (last_coeff gs)) ++ res_coeff_record s.offset.0 +0 s.net.0 ∷ []

unfoldable pub lay_stretches : List PathResCoeff → List Stretch → List PathResCoeff
lay_stretches gs [] = gs
lay_stretches gs (s ∷ ss) = lay_stretches (lay_stretch gs s) ss

-- what is left of a column of n entries: the records gs, zeros after them, and their count r
pub record Laid (column : List Float) (r : ℕ) (n : ℕ) (gs : List PathResCoeff) : Type 0 where
  pub count : r ≡ list.length gs
  pub is : column ≡ filled +0 n (flat triple gs)
