-- `recalc_speeds`: its questions, refused, and done.
use Rattle.std.specs.Prelude.{None}
use Prim.Native.Nat.{ℕ, ◌+◌, ◌-◌, ◌*◌, ◌/◌, ◌≤◌, ◌<◌}
use native.Mathlib.Omega.{arith}
use mathlib.Core.Path.{◌≡◌, refl, sym, ap, ap₂, ◌∙◌}
use mathlib.Core.Bool.{Bool, true}
use mathlib.Core.List.{List, [], ◌∷◌, map}
use lib.ListN.{length}
use lib.Ieee.{Float}
use Rattle.ieee.specs.Number.{+0}
use Rattle.column.specs.Entries.{filled}
use Rattle.column.specs.Records.{flat}
use Rattle.column.proofs.Filling.{length-filled}
use Rattle.column.proofs.Bridge.{length-flat}
use Rattle.speed.specs.Column.{pair, points, Leaves}
use Rattle.speed.proofs.PointColumn.{pair-lawful, length-points, leaves_at}
use Rattle.link.specs.declared.train_params.TrainParams.{TrainParams}
use Rattle.link.specs.Lists.{every, up_from, first_no}
use Rattle.link.specs.Train.{length_of}
use Rattle.link.specs.Table.{LinkTable}
use Rattle.link.specs.Questions.{numbers}
use Rattle.path.specs.declared.path_tpc.PathTpc.{PathTpc}
use Rattle.answer.specs.declared.Answer.{Answer}
use Rattle.path.specs.declared.link_point.LinkPoint.{LinkPoint}
use Rattle.path.specs.Records.{Columns, columns, Path, is_within_all, number_of, point_at, link_point_at, beginnings, path_of, columns_of, record_of}
use Rattle.answer.specs.Answers.{done}
use Rattle.path.specs.Answers.{ask, ask_each, in_turn, links_answer, left}
use Rattle.path.specs.Sound.{sound, one_of_each, within_bounds, path_answer, train_finite, total}
use Rattle.path.proofs.ReadBack.{counted, read_again}
use Rattle.path.proofs.InTurn.{turn-no, turn-yes, turn-done, turn-none, first_done, last_one, links-done, judged-done, outcome-done, turn_last}
use Rattle.path.proofs.Clauses.{within_all, times, sound-within, some-link, bounds, room}
use Rattle.path_speeds.specs.Limits.{SpeedSets, sets_of, point_finite, point_count, point_few}
use Rattle.path_speeds.specs.Recalc.{laid_anew, recalced_speeds, recalced_path, limits_answer, recalc_answer, recalc_of}
use Rattle.path_speeds.proofs.Few.{points-few}
use Rattle.path.proofs.Numbers.{present-range, present-numbers, first-point}

-- ---- questions 8 and 9

-- the first point and two for each limit
abbrev pub points_laid : TrainParams → SpeedSets → List LinkPoint → ℕ
points_laid train q present = 1 + 2 * total (point_count train q) present

module _ (train : TrainParams) (long : Float) (q : SpeedSets) (present : List LinkPoint) (n : ℕ) where
  abbrev eighth : Answer
  eighth = ask_each 8 (first_no (map (point_finite train long q) present))

  abbrev fits : Bool
  fits = is_within_all (points_laid train q present) 4096 (n / 2) (n / 2)

  -- r is the code's answer to question 8
  module _ {r : Answer} (e : r ≡ eighth) where
    pub limits-8 : (r.number ≡ 0 → ⊥) → limits_answer train long q present n ≡ r
    unfolding limits_answer
    limits-8 h = turn-no eighth (ask 9 fits ∷ []) e h

    pub limits-9 : r.number ≡ 0 → limits_answer train long q present n ≡ ask 9 fits
    unfolding limits_answer
    limits-9 h = turn-yes eighth (ask 9 fits ∷ []) e h ∙ last_one 8 fits

  limits-last : in_turn (limits_answer train long q present n ∷ []) ≡ limits_answer train long q present n
  unfolding limits_answer
  limits-last = turn_last (eighth ∷ ask 9 fits ∷ [])

  limits-room : (limits_answer train long q present n).number ≡ 0 → 2 * points_laid train q present ≤ n
  unfolding limits_answer
  limits-room h = times 2 (points_laid train q present) n (within_all (points_laid train q present) 4096 (n / 2) (n / 2) (first_done 8 [] fits (turn-done eighth (ask 9 fits ∷ []) h).1).0).1

-- the path's record with another count of speed points, and columns with other speed points
abbrev with_count : ℕ → PathTpc → PathTpc
with_count n p =
    record {
      link_count = p.link_count;
      grade_count = p.grade_count;
      curve_count = p.curve_count;
      speed_count = n;
      power_count = p.power_count;
      is_finished = p.is_finished;
    }

abbrev with_speeds : List Float → Columns → Columns
with_speeds ss l = columns l.offsets l.numbers l.grades l.curves ss l.powers l.districts

-- ---- all the questions
module _ (train : TrainParams) (t : LinkTable) (p : PathTpc) (c : Columns) where
  -- the link points that begin a link, and as the columns have them
  abbrev present : List LinkPoint
  present = beginnings (path_of p c).links

  abbrev as_range : List LinkPoint
  as_range = up_from (point_at c.offsets c.numbers) 0 (p.link_count - 1)

  abbrev own : Answer
  own = path_answer (train_finite train) p c

  abbrev of_links : Answer
  of_links = links_answer t train.train_type None (map number_of present)

  abbrev of_limits : Answer
  of_limits = limits_answer train (length_of train) (sets_of t) present (length c.speeds)

  few-links : of_links.number ≡ 0 → every (point_few train (sets_of t)) present ≡ true
  few-links h = points-few train t present (links-done t train.train_type None (map number_of present) h).0

  -- r is the code's answer to questions 1 and 2
  module _ {r : Answer} (e : r ≡ own) where
    pub recalc-first : (r.number ≡ 0 → ⊥) → recalc_answer train t p c ≡ r
    unfolding recalc_answer
    recalc-first h = turn-no own (of_links ∷ of_limits ∷ []) e h

    module _ (h : r.number ≡ 0) where
      pub link-bounds : (0 < p.link_count) × (p.link_count ≤ 1025)
      link-bounds =
          let w = sound-within p c (judged-done (train_finite train) p c e h).2 in
          (some-link p c w.0, (bounds p c w.1).0)

      -- s is its answer to questions 4 to 7
      module _ {s : Answer} (f : s ≡ links_answer t train.train_type None (numbers true c.numbers (p.link_count - 1))) where
        of-links : s ≡ of_links
        of-links = f ∙ ap (links_answer t train.train_type None) (sym (present-numbers p c))

        pub recalc-links : (s.number ≡ 0 → ⊥) → recalc_answer train t p c ≡ s
        unfolding recalc_answer
        recalc-links k = turn-yes own (of_links ∷ of_limits ∷ []) e h ∙ turn-no of_links (of_limits ∷ []) of-links k

        module _ (k : s.number ≡ 0) where
          pub range-few : every (point_few train (sets_of t)) as_range ≡ true
          range-few = sym (ap (every (point_few train (sets_of t))) (present-range p c)) ∙ few-links (ap (λ (a : Answer). a.number) (sym of-links) ∙ k)

          pub recalc-limits : recalc_answer train t p c ≡ limits_answer train (length_of train) (sets_of t) as_range (length c.speeds)
          unfolding recalc_answer
          recalc-limits =
              turn-yes own (of_links ∷ of_limits ∷ []) e h
              ∙ turn-yes of_links (of_limits ∷ []) of-links k
              ∙ limits-last train (length_of train) (sets_of t) present (length c.speeds)
              ∙ ap (λ (ps : List LinkPoint). limits_answer train (length_of train) (sets_of t) ps (length c.speeds)) (present-range p c)

  -- what a call that is not refused knows
  recalc-done : (recalc_answer train t p c).number ≡ 0 → (sound p c ≡ true) × (every (point_few train (sets_of t)) present ≡ true) × (2 * points_laid train (sets_of t) present ≤ length c.speeds) × (recalc_answer train t p c ≡ done)
  unfolding recalc_answer
  recalc-done e =
      let a = turn-done own (of_links ∷ of_limits ∷ []) e in
      let b = turn-done of_links (of_limits ∷ []) a.1 in
      let d = turn-done of_limits [] b.1 in
      ((judged-done (train_finite train) p c refl a.0).2, few-links b.0, limits-room train (length_of train) (sets_of t) present (length c.speeds) d.0, turn-none (own ∷ of_links ∷ of_limits ∷ []) e)

  counts : record_of (recalced_path train t (path_of p c)) ≡ with_count (length (recalced_speeds train (length_of train) t (path_of p c).links)) p
  unfolding record_of recalced_path
  counts = ap (with_count (length (recalced_speeds train (length_of train) t (path_of p c).links))) (counted p c)

  -- ---- what is left

  -- no question refuses
  module _ (e : done ≡ recalc_answer train t p c) where
    done-number : (recalc_answer train t p c).number ≡ 0
    done-number = ap (λ (a : Answer). a.number) (sym e)

    sizes : (one_of_each p ≡ true) × (within_bounds p c ≡ true)
    sizes = sound-within p c (recalc-done done-number).0

    pub within : within_bounds p c ≡ true
    within = sizes.1

    pub some-points : 0 < p.link_count
    some-points = some-link p c sizes.0

    -- the columns after `zero_rest`
    module _ {os gs ks ss ws : List Float} {ns ds : List ℕ} (zeroed : columns os ns gs ks ss ws ds ≡ columns_of c (path_of p c)) where
      same-links : (path_of p (columns os ns gs ks ss ws ds)).links ≡ (path_of p c).links
      same-links = ap (λ (path : Path). path.links) (read_again p c zeroed)

      same-range : up_from (point_at os ns) 0 (p.link_count - 1) ≡ present
      same-range = sym (present-range p (columns os ns gs ks ss ws ds)) ∙ ap beginnings same-links

      same_first : point_at os ns 0 ≡ link_point_at (path_of p c).links 0
      same_first = sym (first-point p (columns os ns gs ks ss ws ds) some-points) ∙ ap (λ (ps : List LinkPoint). link_point_at ps 0) same-links

      same_length : length ss ≡ length c.speeds
      unfolding columns_of path_of
      same_length =
          let ps = points p.speed_count c.speeds in
          ap (λ (l : Columns). length l.speeds) zeroed
          ∙ length-filled +0 (length c.speeds) (flat pair ps) (omega (arith, length-flat pair pair-lawful ps, length-points p.speed_count c.speeds, (room p c within).speeds))

      pub ready :
          (p.link_count - 1 ≤ 1025)
          × ((every (point_few train (sets_of t)) (up_from (point_at os ns) 0 (p.link_count - 1)) ≡ true)
          × (2 * points_laid train (sets_of t) (up_from (point_at os ns) 0 (p.link_count - 1)) ≤ length ss))
      ready =
          let known = recalc-done done-number in
          let most = (bounds p c within).0 in
          (omega arith, (ap (every (point_few train (sets_of t))) same-range ∙ known.1, omega (arith, known.2, ap (points_laid train (sets_of t)) same-range, same_length)))

      pub recalced :
          {ss' : List Float} {n : ℕ}
          → length ss' ≡ length ss
          → Leaves ss' n (laid_anew train (length_of train) (sets_of t) (up_from (point_at os ns) 0 (p.link_count - 1)) (point_at os ns 0))
          → left (record { answer = done; path = with_count n p }) (columns os ns gs ks ss' ws ds) ≡ recalc_of train t p c
      unfolding recalc_of columns_of recalced_path
      recalced {ss' = ss'} {n = n} kept laid =
          let anew = recalced_speeds train (length_of train) t (path_of p c).links in
          let l = leaves_at ss' n _ anew laid (ap₂ (laid_anew train (length_of train) (sets_of t)) same-range same_first) in
          let speeds = l.holds.is ∙ ap (λ (k : ℕ). filled +0 k (flat pair anew)) (kept ∙ same_length) in
          let cols = ap (with_speeds ss') zeroed ∙ ap (λ (ss : List Float). with_speeds ss (columns_of c (path_of p c))) speeds in
          let answer = ap (λ (q : PathTpc). record { answer = done; path = q }) (ap (λ (k : ℕ). with_count k p) l.count ∙ sym counts) in
          ap₂ left answer cols ∙ sym (outcome-done (recalc_answer train t p c) p c (recalced_path train t (path_of p c)) done-number)
