-- `extend` leaves a path finite and sound.
use Rattle.std.specs.Prelude.{None}
use Prim.Native.Nat.{ℕ, suc, ◌+◌, ◌-◌, ◌*◌, ◌≤◌, ◌<◌}
use native.Mathlib.Omega.{arith}
use mathlib.Core.Path.{◌≡◌, refl, sym, ap, ap₂, ◌∙◌}
use mathlib.Core.Bool.{Bool, true, false, not, ◌&&◌, cond}
use mathlib.Core.List.{List, [], ◌∷◌, ◌++◌, map, map-append, map-id, append_assoc}
use lib.Dec.{eqb}
use lib.ListN.{length, set, take, drop, length-append, length-map, length-set, drop_of_length-le}
use lib.Seq.{take_all, set_split, get_or_at, length-take-le}
use lib.Ieee as Ieee
use lib.Ieee.{Float}
use lib.Ieee.Scale.{finite}
use borrow.Author.Tests.{eqb-true, not-true}
use Rattle.ieee.specs.Number.{+0, all_finite, ◌⊕◌}
use Rattle.column.specs.Records.{flat, three}
use Rattle.column.proofs.Bridge.{three-lawful, flat_append}
use Rattle.column.proofs.Finite.{finite-append}
use Rattle.speed.specs.Points.{Point}
use Rattle.lookup.specs.declared.path_res_coeff.PathResCoeff.{PathResCoeff}
use Rattle.lookup.specs.Coeff.{no_coeff, stands_at, coefficient_of, net_of}
use Rattle.link.specs.declared.train_params.TrainParams.{TrainParams}
use Rattle.link.specs.Lists.{every, first_no}
use Rattle.link.specs.Train.{length_of, top_speed}
use Rattle.link.specs.Table.{LinkTable, Sample, PowerLimit, sample_at, power_at, numbers_of, link_at, in_table}
use Rattle.link.specs.Questions.{real_in, limit_formed, power_formed, samples_formed, sample_finite, well_formed, question4, question6, question7}
use Rattle.link.proofs.Known.{and_both, none-fails, all-formed, formed}
use Rattle.link.proofs.Loops.{length-range}
use Rattle.path.specs.declared.path_tpc.PathTpc.{PathTpc}
use Rattle.path.specs.declared.link_point.LinkPoint.{LinkPoint}
use Rattle.path.specs.Records.{Columns, link_point, offset_of, grade_count_of, curve_count_of, power_count_of, number_of, no_link_point, link_point_at, end_point, beginnings, last_coeff, Path, path_of, record_of}
use Rattle.path.specs.Answers.{ask, ask_each, links_answer}
use Rattle.path.specs.Sound.{path_answer, train_finite, is_open, within_bounds, total, closed_at_infinity, end_counts_zero, numbered, all_numbered, numbers_real}
use Rattle.path.proofs.InTurn.{turn-done, first_done, judged-done, links-done, each-done}
use Rattle.path.proofs.Counts.{total-next}
use Rattle.path.proofs.ReadBack.{counted}
use Rattle.path_speeds.specs.Limits.{sets_of, set_of, finite_at, lay_all, laying_at, count_at}
use Rattle.path_speeds.proofs.Lowered.{length-laying, count-laid}
use Rattle.path_speeds.proofs.Applying.{laying-by, count_by}
use Rattle.path_stretches.specs.Stretches.{stretches, record_count, is_finite, lay_stretches}
use Rattle.path_stretches.specs.Powers.{placed_power, power_finite}
use Rattle.path_join.specs.Listed.{rises_of, length_at, elevs_at, samples_at, powers_at, grades_in, curves_in, powers_in, records_in, sum_of}
use Rattle.path_join.specs.Joined.{join_point, join_records, join_powers, join, join_all, first_value, starting_net, with_net, start_net, started}
use Rattle.path_join.specs.declared.path_end.PathEnd.{PathEnd}
use Rattle.path_join.specs.Sums.{path_end_of, grades_at, curves_at, end_at, path_end_after, sums_finite, sums_from}
use Rattle.path_extend.specs.Extend.{followed, sums_answer, extend_answer}
use Rattle.path_join.specs.Fit.{records_fit}
use Rattle.book.specs.Book.{Book}
use Rattle.book.specs.Claims.{Claims}
use Rattle.book.proofs.Matching.{Matched, Grounded}
use Rattle.path.proofs.Written.{values_finite, records_finite, power_numbers}
use Rattle.path.proofs.Lasts.{last_more, every_append, every_take, every_set, every-last, total-append, real-many, whole_finite, open-finite}
use Rattle.book.proofs.LaidStretches.{stretches-lay, finite-laid}
use Rattle.path.proofs.WrittenSound.{Own, Stays, NoMore, fewer-within, Before, before}
use Rattle.book.proofs.Staying.{stays}
use Rattle.path_extend.proofs.PathEnds.{path-end-join}
use Rattle.path_stretches.proofs.Ended.{length-laid, length-stretches}

-- ---- link points

-- the beginnings count what all points count, if the end point counts nothing
begin-total : (count : LinkPoint → ℕ) (ps : List LinkPoint) → 0 < length ps → count (end_point ps) ≡ 0 → total count (beginnings ps) ≡ total count ps
begin-total count ps h e =
    let k = length ps - 1 in
    let whole : take (suc k) ps ≡ ps = take_all (suc k) ps (omega arith) in
    omega (arith, total-next count k ps (omega arith), ap (total count) whole, e)

begin-numbered : (ps : List LinkPoint) → numbers_real ps ≡ true → all_numbered (beginnings ps) ≡ true
unfolding numbers_real every
begin-numbered ps e = go (eqb (length ps) 1) refl e
  where
    go : (b : Bool) → eqb (length ps) 1 ≡ b → cond b (eqb (number_of (end_point ps)) 0) (all_numbered ps && eqb (number_of (end_point ps)) (number_of (link_point_at ps (length ps - 2)))) ≡ true → all_numbered (beginnings ps) ≡ true
    go true t e =
        let z : length ps - 1 ≡ 0 = omega (arith, eqb-true (length ps) 1 t) in
        ap (λ (k : ℕ). all_numbered (take k ps)) z
    go false t e = every_take numbered (length ps - 1) ps (and_both (all_numbered ps) _ e).0

module _ (links : List ℕ) (lengths : List Float) (ps : List LinkPoint) (n : ℕ) where
  abbrev number : ℕ
  number = (numbers_of links n).idx_curr

  abbrev link_begin : LinkPoint
  link_begin = link_point (offset_of (end_point ps)) (grades_in links n) (curves_in links n) (powers_in links n) number

  abbrev link_end : LinkPoint
  link_end = link_point (length_at lengths n ⊕ offset_of (end_point ps)) 0 0 0 number

  end-joined : end_point (join_point links lengths ps n) ≡ link_end
  unfolding join_point
  end-joined = last_more no_link_point (set ps (length ps - 1) link_begin) link_end

  length-joined : length (join_point links lengths ps n) ≡ length ps + 1
  unfolding join_point
  length-joined = length-append (set ps (length ps - 1) link_begin) (link_end ∷ []) ∙ omega (arith, length-set ps (length ps - 1) link_begin)

  module _ (h : 0 < length ps) where
    joined_is : join_point links lengths ps n ≡ beginnings ps ++ link_begin ∷ link_end ∷ []
    unfolding join_point
    joined_is =
        let past : length ps ≤ suc (length ps - 1) = omega arith in
        let none : drop (suc (length ps - 1)) ps ≡ [] = drop_of_length-le ps past in
        ap (λ (l : List LinkPoint). l ++ link_end ∷ [])
        (set_split ps (length ps - 1) link_begin (omega arith) ∙ ap (λ (l : List LinkPoint). beginnings ps ++ link_begin ∷ l) none)
        ∙ append_assoc (beginnings ps) (link_begin ∷ []) (link_end ∷ [])

    total-joined : power_count_of (end_point ps) ≡ 0 → total power_count_of (join_point links lengths ps n) ≡ total power_count_of ps + powers_in links n
    unfolding total
    total-joined e =
        ap (total power_count_of) joined_is ∙ total-append power_count_of (beginnings ps) (link_begin ∷ link_end ∷ []) ∙ omega (arith, begin-total power_count_of ps h e)

    numbers-joined : numbered link_end ≡ true → numbers_real ps ≡ true → numbers_real (join_point links lengths ps n) ≡ true
    unfolding every
    numbers-joined e was =
        let bs = beginnings ps in
        let k : length bs ≡ length ps - 1 = length-take-le (length ps - 1) ps (omega arith) in
        let all = every_append numbered bs (link_begin ∷ link_end ∷ []) ∙ ap₂ ◌&&◌ (begin-numbered ps was) (ap₂ ◌&&◌ e (ap₂ ◌&&◌ e refl)) in
        let long : length (bs ++ link_begin ∷ link_end ∷ []) ≡ suc (suc (length bs)) = length-append bs (link_begin ∷ link_end ∷ []) ∙ omega arith in
        let before-end = get_or_at bs link_begin (link_end ∷ []) no_link_point (length bs) refl in
        let at-end : link_point_at (bs ++ link_begin ∷ link_end ∷ []) (suc (length bs)) ≡ link_end =
        ap (λ (l : List LinkPoint). link_point_at l (suc (length bs))) (sym (append_assoc bs (link_begin ∷ []) (link_end ∷ [])))
        ∙ get_or_at (bs ++ link_begin ∷ []) link_end [] no_link_point (suc (length bs)) (length-append bs (link_begin ∷ []) ∙ omega arith) in
        ap numbers_real joined_is ∙ real-many (bs ++ link_begin ∷ link_end ∷ []) (length bs) long all (ap number_of at-end ∙ sym (ap number_of before-end))

-- ---- power limits

powers-append : (xs ys : List PowerLimit) → all_finite (power_numbers (xs ++ ys)) ≡ (all_finite (power_numbers xs) && all_finite (power_numbers ys))
powers-append xs ys =
    ap (λ l. all_finite (flat three l)) (map-append _ xs ys)
    ∙ ap all_finite (flat_append three three-lawful _ _)
    ∙ finite-append (power_numbers xs) (power_numbers ys)

placed-finite : (base : Float) (ls : List PowerLimit) → every power_formed ls ≡ true → every (power_finite base) ls ≡ true → all_finite (power_numbers (map (placed_power base) ls)) ≡ true
unfolding every all_finite flat limit_formed
placed-finite base [] f g = refl
placed-finite base (l ∷ ls) f g =
    let a = and_both (power_formed l) _ f in
    let b = and_both (power_finite base l) _ g in
    let s = and_both (finite l.limit.start) _ a.0 in
    let e = and_both (finite l.limit.end) _ s.1 in
    let v = and_both (finite l.limit.value) (Ieee.le +0 l.limit.start && Ieee.le l.limit.start l.limit.end) e.1 in
    let p = and_both (finite (base ⊕ l.limit.start)) (finite (base ⊕ l.limit.end)) b.0 in
    ap₂ ◌&&◌ p.0 (ap₂ ◌&&◌ p.1 (ap₂ ◌&&◌ v.0 (placed-finite base ls a.1 b.1)))

-- ---- one link

-- what questions 4, 6 and 8 settle of a link that is joined where the path stands as `at` says, for a train of this length
pub record JoinedWell (train : TrainParams) (long : Float) (t : LinkTable) (at : PathEnd) (n : ℕ) : Type 0 where
  pub real-number : not (eqb n 0) ≡ true
  pub well-formed : well_formed t n ≡ true
  pub sums : sums_finite train long t at n ≡ true

record SumsGood (train : TrainParams) (t : LinkTable) (at : PathEnd) (n : ℕ) : Type 0 where
  grades : every is_finite (grades_at train t at n) ≡ true
  curves : every is_finite (curves_at train t at n) ≡ true
  powers : every (power_finite at.grade.0) (powers_at t.links t.powers t.districts n) ≡ true

sums-good : (train : TrainParams) (long : Float) (t : LinkTable) (at : PathEnd) (n : ℕ) → sums_finite train long t at n ≡ true → SumsGood train t at n
unfolding sums_finite
sums-good train long t at n e =
    let grades? = every is_finite (grades_at train t at n) in
    let curves? = every is_finite (curves_at train t at n) in
    let powers? = every (power_finite at.grade.0) (powers_at t.links t.powers t.districts n) in
    let a = and_both (finite_at train long (sets_of t) at.link.0 n) _ e in
    let b = and_both (finite (end_at t at n) && Ieee.lt at.link.0 (end_at t at n)) (grades? && (curves? && powers?)) a.1 in
    let c = and_both grades? (curves? && powers?) b.1 in
    let d = and_both curves? powers? c.1 in
    record { grades = c.0; curves = d.0; powers = d.1 }

net-finite : (rs : List PathResCoeff) → every whole_finite rs ≡ true → finite (net_of (last_coeff rs)) ≡ true
net-finite rs each =
    let last = every-last whole_finite no_coeff rs refl each in
    (and_both (finite (coefficient_of (last_coeff rs))) (finite (net_of (last_coeff rs))) (and_both (finite (stands_at (last_coeff rs))) (values_finite (last_coeff rs)) last).1).1

-- its grades, or its curves
records-joined : (curves : Bool) (train : TrainParams) (t : LinkTable) (base : Float) (rs : List PathResCoeff) (n : ℕ)
    → every is_finite (stretches curves train base (net_of (last_coeff rs)) (length_at t.lengths n) (samples_at curves (rises_of t) t.headings n)) ≡ true
    → records_finite false rs ≡ true → records_finite false (join_records curves train (rises_of t) t.headings base rs n) ≡ true
unfolding join_records
records-joined curves train t base rs n e was =
    let each = sym (open-finite rs) ∙ was in
    let ss = stretches curves train base (net_of (last_coeff rs)) (length_at t.lengths n) (samples_at curves (rises_of t) t.headings n) in
    open-finite (lay_stretches rs ss)
    ∙ finite-laid rs ss each (stretches-lay curves train base (net_of (last_coeff rs)) (length_at t.lengths n) (samples_at curves (rises_of t) t.headings n) (net-finite rs each) e)

module _ (train : TrainParams) (long : Float) (t : LinkTable) (path : Path) (n : ℕ) where
  abbrev base : Float
  base = stands_at (last_coeff path.grades)

  pub own-join : path.finished ≡ false → 0 < length path.links → Own path → JoinedWell train long t (path_end_of path) n → Own (join train t path n)
  unfolding join join_powers closed_at_infinity end_counts_zero path_end_of link_at
  own-join opened some own well =
      let links = t.links in
      let ps = path.links in
      let is-formed = formed t n well.well-formed in
      let good = sums-good train long t (path_end_of path) n well.sums in
      let placed = map (placed_power base) (powers_at links t.powers t.districts n) in
      let p = end_point ps in
      let ended = and_both (eqb (curve_count_of p) 0) (eqb (power_count_of p) 0) (and_both (eqb (grade_count_of p) 0) _ own.end-zero).1 in
      let was : (rs : List PathResCoeff) → records_finite path.finished rs ≡ true → records_finite false rs ≡ true = λ rs e. ap (λ (b : Bool). records_finite b rs) (sym opened) ∙ e in
      let is : (rs : List PathResCoeff) → records_finite false rs ≡ true → records_finite path.finished rs ≡ true = λ rs e. ap (λ (b : Bool). records_finite b rs) opened ∙ e in
      record {
        powers-counted = total-joined links t.lengths ps n some (eqb-true (power_count_of p) 0 ended.1) ∙ omega (arith, own.powers-counted, length-append path.powers placed, length-map (powers_at links t.powers t.districts n) (placed_power base), length-range (power_at t.powers t.districts) (numbers_of links n).powers_first (powers_in links n));
        closed = rw opened;
        end-zero = ap (λ (q : LinkPoint). eqb (grade_count_of q) 0 && (eqb (curve_count_of q) 0 && eqb (power_count_of q) 0)) (end-joined links t.lengths ps n);
        numbers = numbers-joined links t.lengths ps n some (ap (λ (k : ℕ). not (eqb k 0)) is-formed.own ∙ well.real-number) own.numbers;
        grades-finite = is _ (records-joined false train t base path.grades n good.grades (was path.grades own.grades-finite));
        curves-finite = is _ (records-joined true train t base path.curves n good.curves (was path.curves own.curves-finite));
        powers-finite = powers-append path.powers placed ∙ ap₂ ◌&&◌ own.powers-finite (placed-finite base (powers_at links t.powers t.districts n) is-formed.powers good.powers);
      }

-- ---- the listed links

abbrev pub AllJoinedWell : TrainParams → Float → LinkTable → PathEnd → List ℕ → Type 0
AllJoinedWell train long t at [] = Unit
AllJoinedWell train long t at (n ∷ ns) = JoinedWell train long t at n × AllJoinedWell train long t (path_end_after train t at n) ns

all-joined-well : (train : TrainParams) (long : Float) (t : LinkTable) (at : PathEnd) (ns : List ℕ) → every (real_in t.links t.lengths t.sets) ns ≡ true → every (well_formed t) ns ≡ true
    → every (λ (b : Bool). b) (sums_from train long t at ns) ≡ true → AllJoinedWell train long t at ns
unfolding every sums_from real_in
all-joined-well train long t at [] four six eight = tt
all-joined-well train long t at (n ∷ ns) four six eight =
    let r = and_both (real_in t.links t.lengths t.sets n) _ four in
    let w = and_both (well_formed t n) _ six in
    let s = and_both (sums_finite train long t at n) _ eight in (
      record { real-number = (and_both (not (eqb n 0)) (in_table t.links t.lengths t.sets n) r.0).0; well-formed = w.0; sums = s.0 },
      all-joined-well train long t (path_end_after train t at n) ns r.1 w.1 s.1,
    )

own-all : (train : TrainParams) (long : Float) (t : LinkTable) (path : Path) (ns : List ℕ) → path.finished ≡ false → 0 < length path.links → Own path → AllJoinedWell train long t (path_end_of path) ns
    → Own (join_all train t path ns)
unfolding join_all
own-all train long t path [] opened some own well = own
own-all train long t path (n ∷ ns) opened some own well =
    let links = join_point t.links t.lengths path.links n in
    let more : 0 < length links = omega (arith, length-joined t.links t.lengths path.links n) in
    own-all train long t (join train t path n) ns (unfold join in opened) (unfold join in more) (own-join train long t path n opened some own well.0) (rw (path-end-join train t path n) well.1)

-- ---- the starting net value

first-finite : (net : Float) (ss : List Sample) → finite net ≡ true → every sample_finite ss ≡ true → finite (first_value net ss) ≡ true
unfolding every sample_finite
first-finite net [] h e = h
first-finite net (s ∷ ss) h e = (and_both (finite s.offset) (finite s.value) (and_both (sample_finite s) _ e).0).1

starting-finite : (t : LinkTable) (m : ℕ) (net : Float) (ns : List ℕ) → finite net ≡ true → every (well_formed t) ns ≡ true → finite (starting_net t.links t.elevs m net ns) ≡ true
unfolding starting_net every link_at samples_formed
starting-finite t m net [] h six = h
starting-finite t m net (n ∷ ns) h six = pick (eqb m 1)
  where
    first : finite (first_value net (elevs_at t.links t.elevs n)) ≡ true
    first = first-finite net (elevs_at t.links t.elevs n) h (and_both (every sample_finite (elevs_at t.links t.elevs n)) _ (formed t n (and_both (well_formed t n) _ six).0).elevs).0

    pick : (b : Bool) → finite (cond b (first_value net (elevs_at t.links t.elevs n)) net) ≡ true
    pick true = first
    pick false = h

own-started : (t : LinkTable) (path : Path) (ns : List ℕ) → path.finished ≡ false → every (well_formed t) ns ≡ true → Own path → Own (started t path ns)
unfolding started start_net closed_at_infinity
own-started t path ns opened six own =
    let gs = path.grades in
    let g = last_coeff gs in
    let each = sym (open-finite gs) ∙ ap (λ (b : Bool). records_finite b gs) (sym opened) ∙ own.grades-finite in
    let net = starting-finite t (length gs) (net_of g) ns (net-finite gs each) six in
    let new = with_net (starting_net t.links t.elevs (length gs) (net_of g) ns) g in
    let last = and_both (finite (stands_at g)) (values_finite g) (every-last whole_finite no_coeff gs refl each) in
    let whole = ap₂ ◌&&◌ last.0 (ap₂ ◌&&◌ (and_both (finite (coefficient_of g)) (finite (net_of g)) last.1).0 net) in
    record {
      powers-counted = own.powers-counted;
      closed = rw opened;
      end-zero = own.end-zero;
      numbers = own.numbers;
      grades-finite = ap (λ (b : Bool). records_finite b (set gs (length gs - 1) new)) opened ∙ open-finite (set gs (length gs - 1) new) ∙ every_set whole_finite gs (length gs - 1) new each whole;
      curves-finite = own.curves-finite;
      powers-finite = own.powers-finite;
    }

own-extended : (train : TrainParams) (long : Float) (t : LinkTable) (path : Path) (ns : List ℕ) → path.finished ≡ false → 0 < length path.links → every (well_formed t) ns ≡ true → Own path
    → AllJoinedWell train long t (path_end_of (started t path ns)) ns → Own (join_all train t (started t path ns) ns)
unfolding started
own-extended train long t path ns opened some six own well = own-all train long t (started t path ns) ns opened some (own-started t path ns opened six own) well

-- ---- how many records there are after

record Grown (train : TrainParams) (t : LinkTable) (ns : List ℕ) (path after : Path) : Type 0 where
  links : length after.links ≤ length path.links + length ns
  grades : length after.grades ≤ length path.grades + sum_of (grades_in t.links) ns
  curves : length after.curves ≤ length path.curves + sum_of (curves_in t.links) ns
  speeds : length after.speeds ≤ length path.speeds + 2 * sum_of (count_at train (sets_of t)) ns
  powers : length after.powers ≤ length path.powers + sum_of (powers_in t.links) ns

samples-count : (curves : Bool) (t : LinkTable) (n : ℕ) → record_count (length (samples_at curves (rises_of t) t.headings n)) ≡ records_in curves t.links n
samples-count true t n = let m = numbers_of t.links n in ap record_count (length-range (sample_at t.headings) m.headings_first m.headings_count)
samples-count false t n = let m = numbers_of t.links n in ap record_count (length-range (sample_at t.elevs) m.elevs_first m.elevs_count)

records-more : (curves : Bool) (train : TrainParams) (t : LinkTable) (base : Float) (rs : List PathResCoeff) (n : ℕ)
    → length (join_records curves train (rises_of t) t.headings base rs n) ≡ length rs + records_in curves t.links n
unfolding join_records
records-more curves train t base rs n =
    let ss = samples_at curves (rises_of t) t.headings n in
    let long = length_at t.lengths n in
    length-laid rs (stretches curves train base (net_of (last_coeff rs)) long ss)
    ∙ ap (λ (k : ℕ). length rs + k) (length-stretches curves train base (net_of (last_coeff rs)) long ss ∙ samples-count curves t n)

speeds-more : (train : TrainParams) (long : Float) (t : LinkTable) (base : Float) (ps : List Point) (n : ℕ)
    → length (lay_all ps (laying_at train long (sets_of t) base n)) ≤ length ps + 2 * count_at train (sets_of t) n
speeds-more train long t base ps n =
    let q = sets_of t in
    let f = set_of train q n in
    let e = ap length (laying-by train q n f refl base long) ∙ length-laying (top_speed train) base long q.limits f ∙ sym (count_by train q n f refl) in
    omega (arith, count-laid ps (laying_at train long q base n), e)

grown-one : (train : TrainParams) (t : LinkTable) (path : Path) (n : ℕ) → Grown train t (n ∷ []) path (join train t path n)
unfolding join join_powers sum_of
grown-one train t path n =
    let base = stands_at (last_coeff path.grades) in
    let limits = powers_at t.links t.powers t.districts n in
    record {
      links = omega (arith, length-joined t.links t.lengths path.links n);
      grades = omega (arith, records-more false train t base path.grades n);
      curves = omega (arith, records-more true train t base path.curves n);
      speeds = omega (arith, speeds-more train (length_of train) t (offset_of (end_point path.links)) path.speeds n);
      powers = omega (arith, length-append path.powers (map (placed_power base) limits), length-map limits (placed_power base), length-range (power_at t.powers t.districts) (numbers_of t.links n).powers_first (powers_in t.links n));
    }

grown-all : (train : TrainParams) (t : LinkTable) (path : Path) (ns : List ℕ) → Grown train t ns path (join_all train t path ns)
unfolding join_all sum_of
grown-all train t path [] = record { links = omega arith; grades = omega arith; curves = omega arith; speeds = omega arith; powers = omega arith }
grown-all train t path (n ∷ ns) =
    let one = grown-one train t path n in
    let rest = grown-all train t (join train t path n) ns in
    record {
      links = omega (arith, one.links, rest.links);
      grades = omega (arith, one.grades, rest.grades);
      curves = omega (arith, one.curves, rest.curves);
      speeds = omega (arith, one.speeds, rest.speeds);
      powers = omega (arith, one.powers, rest.powers);
    }

-- question 9's record: as many of each kind as there may be
abbrev needed : TrainParams → LinkTable → List ℕ → PathTpc → PathTpc
needed train t ns p =
    record {
      link_count = p.link_count + length ns;
      grade_count = p.grade_count + sum_of (grades_in t.links) ns;
      curve_count = p.curve_count + sum_of (curves_in t.links) ns;
      speed_count = p.speed_count + 2 * sum_of (count_at train (sets_of t)) ns;
      power_count = p.power_count + sum_of (powers_in t.links) ns;
      is_finished = p.is_finished;
    }

needed-within : (train : TrainParams) (t : LinkTable) (ns : List ℕ) (p : PathTpc) (c : Columns) → records_fit train t ns p c ≡ true → within_bounds (needed train t ns p) c ≡ true
unfolding within_bounds records_fit
needed-within train t ns p c e = e

-- p is the record before
extended-most : (train : TrainParams) (t : LinkTable) (ns : List ℕ) (path : Path) (p : PathTpc) → record_of path ≡ p → NoMore (record_of (join_all train t (started t path ns) ns)) (needed train t ns p)
unfolding record_of started start_net
extended-most train t ns path p e =
    let g = grown-all train t (started t path ns) ns in
    let gs = path.grades in
    let same = length-set gs (length gs - 1) (with_net (starting_net t.links t.elevs (length gs) (net_of (last_coeff gs)) ns) (last_coeff gs)) in
    record {
      links = omega (arith, g.links, ap (λ (q : PathTpc). q.link_count) e);
      grades = omega (arith, g.grades, same, ap (λ (q : PathTpc). q.grade_count) e);
      curves = omega (arith, g.curves, ap (λ (q : PathTpc). q.curve_count) e);
      speeds = omega (arith, g.speeds, ap (λ (q : PathTpc). q.speed_count) e);
      powers = omega (arith, g.powers, ap (λ (q : PathTpc). q.power_count) e);
    }

-- ---- the call

real-links : (t : LinkTable) (ns : List ℕ) → question4 t.links t.lengths t.sets ns ≡ None → every (real_in t.links t.lengths t.sets) ns ≡ true
unfolding question4
real-links t ns e = none-fails (real_in t.links t.lengths t.sets) ns e

-- what the questions settle
record Asked (train : TrainParams) (t : LinkTable) (ns : List ℕ) (p : PathTpc) (c : Columns) : Type 0 where
  was : Before (path_of p c) c
  opened : p.is_finished ≡ false
  well : every (well_formed t) ns ≡ true
  joined : AllJoinedWell train (length_of train) t (path_end_of (started t (path_of p c) ns)) ns
  fit : records_fit train t ns p c ≡ true

asked : (train : TrainParams) (t : LinkTable) (ns : List ℕ) (p : PathTpc) (c : Columns) → (extend_answer train t ns p c).number ≡ 0 → Asked train t ns p c
unfolding extend_answer sums_answer
asked train t ns p c e =
    let fifth = followed t.links (path_of p c).links ns in
    let type = train.train_type in
    let at = path_end_of (started t (path_of p c) ns) in
    let links = links_answer t type fifth ns in
    let sums = sums_answer train (length_of train) t ns p c in
    let two = turn-done (path_answer (train_finite train) p c) (ask 3 (is_open p) ∷ links ∷ sums ∷ []) e in
    let good = judged-done (train_finite train) p c refl two.0 in
    let three = first_done 2 (links ∷ sums ∷ []) (is_open p) two.1 in
    let seven = turn-done links (sums ∷ []) three.1 in
    let four = turn-done (ask_each 4 (question4 t.links t.lengths t.sets ns)) (ask_each 5 fifth ∷ ask_each 6 (question6 t ns) ∷ ask_each 7 (question7 t.sets type ns) ∷ []) (unfold links_answer in seven.0) in
    let well = all-formed t ns (links-done t type fifth ns seven.0).0 in
    let listed = sums_from train (length_of train) t at ns in
    let eighth = first_no listed in
    let nine = turn-done (ask_each 8 eighth) (ask 9 (records_fit train t ns p c) ∷ []) (turn-done sums [] seven.1).0 in
    let eight = none-fails (λ (b : Bool). b) listed (ap first_no (map-id listed) ∙ each-done 7 eighth nine.0) in
    record {
      was = before p c good.1 good.2;
      opened = not-true p.is_finished three.0;
      well = well;
      joined = all-joined-well train (length_of train) t at ns (real-links t ns (each-done 3 _ four.0)) well eight;
      fit = (first_done 8 [] (records_fit train t ns p c) nine.1).0;
    }

pub stays-extend : (train : TrainParams) (b : Book) (t : LinkTable) (ns : List ℕ) (p : PathTpc) (c : Columns) → (extend_answer train t ns p c).number ≡ 0
    → Claims train b → Matched (join_all train t (started t (path_of p c) ns) ns) b → Grounded (join_all train t (started t (path_of p c) ns) ns) b
    → Stays c (join_all train t (started t (path_of p c) ns) ns)
stays-extend train b t ns p c e claims matched grounded =
    let path = path_of p c in
    let q = asked train t ns p c e in
    let is : record_of path ≡ p = counted p c in
    let begun = started t path ns in
    let own = own-extended train (length_of train) t path ns (unfold path_of in q.opened) q.was.some-link q.well q.was.own q.joined in
    let room = needed-within train t ns p c q.fit in
    stays train b (join_all train t begun ns) claims matched grounded own c (fewer-within (record_of (join_all train t begun ns)) (needed train t ns p) c (extended-most train t ns path p is) room)
