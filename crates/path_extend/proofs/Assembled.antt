-- The listed links joined, column by column, make the path with these links.
use Prim.Native.Nat.{ℕ, ◌+◌, ◌-◌, ◌*◌, ◌≤◌, ◌<◌}
use native.Mathlib.Omega.{arith}
use mathlib.Core.Path.{◌≡◌, sym, ap, ap₂, ◌∙◌}
use mathlib.Core.Bool.{true, false}
use mathlib.Core.List.{List, [], ◌∷◌}
use lib.ListN.{length, get_or, set, take, drop, length-set}
use lib.Seq.{get_or-set_same}
use lib.Ieee.{Float}
use Rattle.ieee.specs.Number.{+0}
use Rattle.column.specs.Entries.{filled}
use Rattle.column.specs.Records.{flat, record_at}
use Rattle.column.proofs.Filling.{length-filled}
use Rattle.column.proofs.Bridge.{length-records, length-flat, records-flat}
use Rattle.speed.specs.Column.{points, Leaves}
use Rattle.lookup.specs.declared.path_res_coeff.PathResCoeff.{PathResCoeff}
use Rattle.lookup.specs.Coeff.{triple, coeffs, no_coeff, stands_at, net_of}
use Rattle.lookup.proofs.Coeffs.{triple-lawful}
use Rattle.link.specs.declared.train_params.TrainParams.{TrainParams}
use Rattle.link.specs.Lists.{every, up_from}
use Rattle.link.specs.Train.{length_of}
use Rattle.link.specs.Table.{LinkTable, link_at}
use Rattle.link.specs.Questions.{well_formed}
use Rattle.link.proofs.Known.{and_both, formed}
use Rattle.path.specs.declared.path_tpc.PathTpc.{PathTpc}
use Rattle.path.specs.declared.link_point.LinkPoint.{LinkPoint}
use Rattle.path.specs.Records.{Columns, columns, Path, link_points, point_at, end_point, last_coeff, power_limits, path_of, columns_of, record_of}
use Rattle.path.specs.Answers.{left, changed}
use Rattle.path.specs.Sound.{sound}
use Rattle.path.proofs.LinkPoints.{length-links}
use Rattle.path.proofs.Numbers.{links-range}
use Rattle.path.proofs.Clauses.{sound-within, some-link, some-records}
use Rattle.path_speeds.specs.Limits.{sets_of, lay_links}
use Rattle.path_stretches.specs.Stretches.{Laid}
use Rattle.path_join.specs.Listed.{rises_of}
use Rattle.path_join.specs.Joined.{starting_net, with_net, start_net, started, join_all}
use Rattle.path_join.specs.ByKind.{joined_points, joined_records, joined_powers, HoldsPoints, PowersLaid}
use Rattle.path_extend.specs.Ready.{done_with}
use Rattle.path_extend.proofs.Columnwise.{links-joined, grades-joined, curves-joined, powers-joined, finished-joined}
use Rattle.path_extend.proofs.NewPoints.{new_points, Own, drop-joined, length-joined, speeds-joined}
use Rattle.path.proofs.Counts.{last-record}
use Rattle.path_join.proofs.OnPoints.{points-held}
use Rattle.link.proofs.Loops.{take_range, drop-range}

-- a range of them
pub range-held : (os : List Float) (ns : List ℕ) (ps : List LinkPoint) (s k : ℕ) → HoldsPoints os ns ps → s + k ≤ length ps → up_from (point_at os ns) s k ≡ take k (drop s ps)
range-held os ns ps s k h r =
    let at = point_at os ns in
    let whole : up_from at 0 (length ps) ≡ ps = sym (links-range os ns (length ps)) ∙ points-held h in
    let z : 0 + s ≡ s = omega arith in
    sym
    (ap (λ (l : List LinkPoint). take k (drop s l)) (sym whole)
    ∙ ap (take k) (drop-range at s (length ps) 0 (omega arith))
    ∙ take_range at k (length ps - s) (0 + s) (omega arith)
    ∙ ap (λ (i : ℕ). up_from at i k) z)

-- ---- the first net value
module _ (links : List ℕ) (elevs : List Float) (gs : List PathResCoeff) (ns : List ℕ) where
  pub length-start : length (start_net links elevs gs ns) ≡ length gs
  unfolding start_net
  length-start = length-set gs (length gs - 1) (with_net (starting_net links elevs (length gs) (net_of (last_coeff gs)) ns) (last_coeff gs))

  pub last-start : 0 < length gs → last_coeff (start_net links elevs gs ns) ≡ with_net (starting_net links elevs (length gs) (net_of (last_coeff gs)) ns) (last_coeff gs)
  unfolding start_net
  last-start h =
      let g = with_net (starting_net links elevs (length gs) (net_of (last_coeff gs)) ns) (last_coeff gs) in
      ap (λ (k : ℕ). get_or (set gs (length gs - 1) g) (k - 1) no_coeff) (length-set gs (length gs - 1) g)
      ∙ get_or-set_same gs (length gs - 1) g no_coeff (omega arith)

  pub stands-start : 0 < length gs → stands_at (last_coeff (start_net links elevs gs ns)) ≡ stands_at (last_coeff gs)
  stands-start h = ap stands_at (last-start h)

-- a column of records that is filled with gs
pub records-held : (c : List Float) (n : ℕ) (gs : List PathResCoeff) → c ≡ filled +0 n (flat triple gs) → coeffs (length gs) c ≡ gs
unfolding filled
records-held c n gs e = ap (coeffs (length gs)) e ∙ records-flat triple triple-lawful gs _

-- ---- a link that question 6 has passed has its own number
pub own-numbers : (t : LinkTable) (ns : List ℕ) → every (well_formed t) ns ≡ true → Own t.links t.lengths ns
unfolding every link_at
own-numbers t [] e = tt
own-numbers t (n ∷ ns) e =
    let b = and_both (well_formed t n) _ e in
    ((formed t n b.0).own, own-numbers t ns b.1)

-- ---- the whole path
module _ (train : TrainParams) (t : LinkTable) (ns : List ℕ) (p : PathTpc) (c : Columns) (known : sound p c ≡ true) (own : every (well_formed t) ns ≡ true) where
  abbrev begun : Path
  begun = started t (path_of p c) ns

  abbrev pub after : Path
  after = join_all train t begun ns

  abbrev pub old_points : List LinkPoint
  old_points = link_points p.link_count c.offsets c.numbers

  abbrev pub all_points : List LinkPoint
  all_points = joined_points t.links t.lengths old_points ns

  abbrev pub old_grades : List PathResCoeff
  old_grades = coeffs p.grade_count c.grades

  abbrev pub first_grades : List PathResCoeff
  first_grades = start_net t.links t.elevs old_grades ns

  pub counts : (0 < p.link_count) × (0 < p.grade_count) × (0 < p.curve_count) × (0 < p.speed_count)
  counts =
      let w = (sound-within p c known).0 in
      let r = some-records p c w in
      (some-link p c w, r.0, r.1, r.2)

  some-points : 0 < length old_points
  some-points = omega (arith, counts.0, length-links p.link_count c.offsets c.numbers)

  pub points-after : after.links ≡ all_points
  unfolding started path_of
  points-after = links-joined train t begun ns

  pub points-count : length all_points ≡ p.link_count + length ns
  points-count = length-joined t.links t.lengths old_points ns some-points ∙ ap (λ (k : ℕ). k + length ns) (length-links p.link_count c.offsets c.numbers)

  -- ---- the grades begin where the last one stands
  grades-some : 0 < length old_grades
  grades-some = omega (arith, counts.1, length-records triple triple-lawful p.grade_count c.grades)

  pub first_count : length first_grades ≡ p.grade_count
  first_count = length-start t.links t.elevs old_grades ns ∙ length-records triple triple-lawful p.grade_count c.grades

  last-grade : last_coeff old_grades ≡ record_at triple c.grades (p.grade_count - 1)
  last-grade = last-record p.grade_count c.grades counts.1

  pub begins : {o : Float} → o ≡ stands_at (record_at triple c.grades (p.grade_count - 1)) → o ≡ stands_at (last_coeff first_grades)
  begins e = e ∙ ap stands_at (sym last-grade) ∙ sym (stands-start t.links t.elevs old_grades ns grades-some)

  -- the column after the first net value is set
  module _ {g : List Float} (e : g ≡ filled +0 (length c.grades) (flat triple first_grades)) where
    pub first-records : coeffs p.grade_count g ≡ first_grades
    first-records = ap (λ (k : ℕ). coeffs k g) (sym first_count) ∙ records-held g (length c.grades) first_grades e

    pub first-length : 3 * p.grade_count ≤ length c.grades → length g ≡ length c.grades
    first-length h = ap length e ∙ length-filled +0 (length c.grades) (flat triple first_grades) (omega (arith, length-flat triple triple-lawful first_grades, first_count))

    pub first-held : 3 * p.grade_count ≤ length c.grades → g ≡ filled +0 (length g) (flat triple (coeffs p.grade_count g))
    first-held h = e ∙ sym (ap₂ (λ (n : ℕ) (gs : List PathResCoeff). filled +0 n (flat triple gs)) (first-length h) first-records)

  -- ---- the limits of the new points
  module _ {os : List Float} {nums : List ℕ} (held : HoldsPoints os nums all_points) where
    pub new-range : up_from (point_at os nums) (p.link_count - 1) (length ns) ≡ take (length ns) (new_points t.links t.lengths (end_point old_points) ns)
    new-range =
        let n = length-links p.link_count c.offsets c.numbers in
        range-held os nums all_points (p.link_count - 1) (length ns) held (omega (arith, points-count, counts.0))
        ∙ ap (λ (k : ℕ). take (length ns) (drop (k - 1) all_points)) (sym n)
        ∙ ap (take (length ns)) (drop-joined t.links t.lengths old_points ns some-points)

    pub limits-after : lay_links train (length_of train) (sets_of t) (points p.speed_count c.speeds) (up_from (point_at os nums) (p.link_count - 1) (length ns)) ≡ after.speeds
    unfolding started path_of
    limits-after =
        ap (lay_links train (length_of train) (sets_of t) (points p.speed_count c.speeds)) new-range
        ∙ sym (speeds-joined train t begun ns some-points (own-numbers t ns own))

  -- ---- as the code has it
  pub assembled :
      {os gs ks ss ws g : List Float} {nums ds : List ℕ} {o : Float} {rs rg rk rp : ℕ}
      → o ≡ stands_at (record_at triple c.grades (p.grade_count - 1))
      → HoldsPoints os nums all_points
      → length os ≡ length c.offsets
      → length nums ≡ length c.numbers
      → Leaves ss rs (lay_links train (length_of train) (sets_of t) (points p.speed_count c.speeds) (up_from (point_at os nums) (p.link_count - 1) (length ns)))
      → length ss ≡ length c.speeds
      → g ≡ filled +0 (length c.grades) (flat triple first_grades)
      → length g ≡ length c.grades
      → Laid gs rg (length g) (joined_records false train (rises_of t) t.headings o (coeffs p.grade_count g) ns)
      → Laid ks rk (length c.curves) (joined_records true train (rises_of t) t.headings o (coeffs p.curve_count c.curves) ns)
      → PowersLaid ws ds rp (joined_powers (rises_of t) t.powers t.districts o (power_limits p.power_count c.powers c.districts) ns)
      → length ws ≡ length c.powers
      → length ds ≡ length c.districts
      → left
      (done_with (record { link_count = p.link_count + length ns; grade_count = rg; curve_count = rk; speed_count = rs; power_count = rp; is_finished = p.is_finished }))
      (columns os nums gs ks ss ws ds)
      ≡ changed c after
  unfolding changed columns_of record_of started path_of
  assembled {os} {gs} {ks} {ss} {ws} {g} {nums} {ds} {o} {rs} {rg} {rk} {rp} e held lo ln laid ls eg lg slopes bends drawn lw ld =
      let base = begins e in
      let gr : joined_records false train (rises_of t) t.headings o (coeffs p.grade_count g) ns ≡ after.grades =
      ap₂ (λ (x : Float) (l : List PathResCoeff). joined_records false train (rises_of t) t.headings x l ns) base (first-records eg) ∙ sym (grades-joined train t begun ns) in
      let cu : joined_records true train (rises_of t) t.headings o (coeffs p.curve_count c.curves) ns ≡ after.curves =
      ap (λ (x : Float). joined_records true train (rises_of t) t.headings x (coeffs p.curve_count c.curves) ns) base ∙ sym (curves-joined train t begun ns) in
      let po : joined_powers (rises_of t) t.powers t.districts o (power_limits p.power_count c.powers c.districts) ns ≡ after.powers =
      ap (λ (x : Float). joined_powers (rises_of t) t.powers t.districts x (power_limits p.power_count c.powers c.districts) ns) base ∙ sym (powers-joined train t begun ns) in
      let sp = limits-after held in
      let li = points-after in
      cc (
        points-count,
        ap length li,
        li,
        gr,
        cu,
        po,
        sp,
        finished-joined train t begun ns,
        held.offsets,
        held.numbers,
        lo,
        ln,
        laid.count,
        laid.holds.is,
        ls,
        slopes.count,
        slopes.is,
        lg,
        bends.count,
        bends.is,
        drawn.count,
        drawn.holds.powers,
        drawn.holds.districts,
        lw,
        ld,
      )
