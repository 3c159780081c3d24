-- `extend`: its questions in turn, and what an answer that is done has settled.
use Rattle.std.specs.Prelude.{Option, Some, None}
use Prim.Native.Nat.{ℕ, ◌+◌, ◌-◌, ◌*◌, ◌≤◌, ◌<◌}
use native.Mathlib.Omega.{arith}
use mathlib.Core.Path.{◌≡◌, refl, sym, ap, ap₂, ◌∙◌}
use mathlib.Core.Bool.{Bool, true, false, cond}
use mathlib.Core.List.{List, [], ◌∷◌}
use lib.Dec.{leb}
use lib.ListN.{length}
use lib.Ieee.{Float}
use borrow.Author.Tests.{le-leb, lt-leb}
use Rattle.column.proofs.Bridge.{length-records}
use Rattle.lookup.specs.Coeff.{triple, coeffs, stands_at, net_of}
use Rattle.lookup.proofs.Coeffs.{triple-lawful}
use Rattle.link.specs.declared.train_params.TrainParams.{TrainParams}
use Rattle.link.specs.Lists.{every, first_no}
use Rattle.link.specs.Train.{length_of}
use Rattle.link.specs.Table.{LinkTable}
use Rattle.link.specs.Questions.{numbers, question5, well_formed}
use Rattle.link.proofs.Known.{and_both, all-formed, numbers-plain}
use Rattle.path.specs.declared.path_tpc.PathTpc.{PathTpc}
use Rattle.answer.specs.declared.Answer.{Answer}
use Rattle.path.specs.declared.link_point.LinkPoint.{LinkPoint}
use Rattle.path.specs.Records.{Columns, offset_of, number_of, link_points, point_at, no_link_point, link_point_at, path_of, fits_links, fits_grades, fits_curves, fits_speeds, fits_powers}
use Rattle.answer.specs.Answers.{done}
use Rattle.path.specs.Answers.{ask, ask_each, in_turn, links_answer}
use Rattle.path.specs.Sound.{train_finite, sound, path_answer, is_open}
use Rattle.path.proofs.LinkPoints.{length-links, link_at, end-at}
use Rattle.path.proofs.InTurn.{turn-no, turn-yes, turn-done, turn-none, first-no, first-yes, first_done, last_one, judged-done, links-done, turn_last}
use Rattle.path.proofs.Clauses.{within_all, times, sound-within, some-link, some-records}
use Rattle.path_speeds.specs.Limits.{sets_of, count_at}
use Rattle.path_join.specs.Listed.{grades_in, curves_in, powers_in, sum_of}
use Rattle.path_join.specs.Joined.{starting_net, started}
use Rattle.path_join.specs.Sums.{path_end_of, sums_from}
use Rattle.path_extend.specs.Extend.{followed, sums_answer, extend_answer}
use Rattle.path_join.specs.Fit.{records_fit}
use Rattle.path_extend.specs.Ready.{start_path_end}
use Rattle.path_extend.proofs.Assembled.{last-start}
use Rattle.path.proofs.Counts.{last-record}
use Rattle.path_extend.proofs.PathEnds.{same-path-end}

-- ---- question 5
module _ (links : List ℕ) (os : List Float) (nums : List ℕ) (n : ℕ) (list : List ℕ) where
  pub follows-none : {j : Option ℕ} → n < 2 → j ≡ question5 links None (numbers false list (length list)) → j ≡ followed links (link_points n os nums) list
  unfolding followed
  follows-none h e =
      let few : leb 2 (length (link_points n os nums)) ≡ false = lt-leb 2 (length (link_points n os nums)) (omega (arith, length-links n os nums)) in
      e ∙ ap (question5 links None) (numbers-plain list) ∙ ap (λ (b : Bool). question5 links (cond b (Some (number_of (link_point_at (link_points n os nums) (length (link_points n os nums) - 2)))) None) list) (sym few)

  pub follows-last : {j : Option ℕ} {q : LinkPoint} → 2 ≤ n → q ≡ point_at os nums (n - 2) → j ≡ question5 links (Some (number_of q)) (numbers false list (length list)) → j ≡ followed links (link_points n os nums) list
  unfolding followed
  follows-last h f e =
      let l = length-links n os nums in
      let many : leb 2 (length (link_points n os nums)) ≡ true = le-leb 2 (length (link_points n os nums)) (omega arith) in
      let at : number_of (link_point_at (link_points n os nums) (length (link_points n os nums) - 2)) ≡ number_of (point_at os nums (n - 2)) =
      ap (λ (k : ℕ). number_of (link_point_at (link_points n os nums) (k - 2))) l ∙ ap number_of (link_at n os nums (n - 2) no_link_point (omega arith)) in
      e
      ∙ ap₂ (λ (k : ℕ) (ms : List ℕ). question5 links (Some k) ms) (ap number_of f ∙ sym at) (numbers-plain list)
      ∙ ap (λ (b : Bool). question5 links (cond b (Some (number_of (link_point_at (link_points n os nums) (length (link_points n os nums) - 2)))) None) list) (sym many)

module _ (train : TrainParams) (t : LinkTable) (ns : List ℕ) (p : PathTpc) (c : Columns) where
  -- ---- where the path stands
  pub path-end-start : sound p c ≡ true → start_path_end p t.links t.elevs ns c.offsets c.grades c.curves ≡ path_end_of (started t (path_of p c) ns)
  unfolding start_path_end path_end_of started path_of
  path-end-start known =
      let w = (sound-within p c known).0 in
      let some = some-records p c w in
      let gs = coeffs p.grade_count c.grades in
      let ks = coeffs p.curve_count c.curves in
      let lg = length-records triple triple-lawful p.grade_count c.grades in
      let lk = length-records triple triple-lawful p.curve_count c.curves in
      let e₁ = ap offset_of (end-at p.link_count c.offsets c.numbers (some-link p c w)) in
      let e₂ = last-record p.grade_count c.grades some.0 in
      let e₃ = last-record p.curve_count c.curves some.1 in
      let e₄ = last-start t.links t.elevs gs ns (omega (arith, lg, some.0)) in
      same-path-end
      (sym e₁)
      (ap stands_at (sym e₂) ∙ sym (ap stands_at e₄))
      (ap₂ (λ (k : ℕ) (x : Float). starting_net t.links t.elevs k x ns) (sym lg) (ap net_of (sym e₂)) ∙ sym (ap net_of e₄))
      (ap net_of (sym e₃))

-- ---- questions 8 and 9
module _ (train : TrainParams) (own : Float) (t : LinkTable) (ns : List ℕ) (p : PathTpc) (c : Columns) where
  abbrev summed : Option ℕ
  summed = first_no (sums_from train own t (path_end_of (started t (path_of p c) ns)) ns)

  module _ {r : Answer} (e : r ≡ ask_each 8 summed) where
    pub sums-8 : (r.number ≡ 0 → ⊥) → sums_answer train own t ns p c ≡ r
    unfolding sums_answer
    sums-8 h = turn-no (ask_each 8 summed) (ask 9 (records_fit train t ns p c) ∷ []) e h

    pub sums-9 : r.number ≡ 0 → sums_answer train own t ns p c ≡ ask 9 (records_fit train t ns p c)
    unfolding sums_answer
    sums-9 h = turn-yes (ask_each 8 summed) (ask 9 (records_fit train t ns p c) ∷ []) e h ∙ last_one 8 (records_fit train t ns p c)

  sums-last : in_turn (sums_answer train own t ns p c ∷ []) ≡ sums_answer train own t ns p c
  unfolding sums_answer
  sums-last = turn_last (ask_each 8 summed ∷ ask 9 (records_fit train t ns p c) ∷ [])

-- ---- all questions
module _ (train : TrainParams) (t : LinkTable) (ns : List ℕ) (p : PathTpc) (c : Columns) where
  abbrev first2 : Answer
  first2 = path_answer (train_finite train) p c

  abbrev named : Answer
  named = links_answer t train.train_type (followed t.links (link_points p.link_count c.offsets c.numbers) ns) ns

  abbrev after3 : List Answer
  after3 = named ∷ sums_answer train (length_of train) t ns p c ∷ []

  abbrev after2 : List Answer
  after2 = ask 3 (is_open p) ∷ after3

  module _ {r : Answer} (e : r ≡ first2) where
    pub extend-first : (r.number ≡ 0 → ⊥) → extend_answer train t ns p c ≡ r
    unfolding extend_answer path_of
    extend-first h = turn-no first2 after2 e h

    module _ (h : r.number ≡ 0) where
      pub known-sound : sound p c ≡ true
      known-sound = (judged-done (train_finite train) p c e h).2

      pub extend-3 : is_open p ≡ false → extend_answer train t ns p c ≡ ask 3 false
      unfolding extend_answer path_of
      extend-3 z = turn-yes first2 after2 e h ∙ first-no 2 after3 z

      module _ (open-path : is_open p ≡ true) {l : Answer} (f : l ≡ named) where
        pub extend-named : (l.number ≡ 0 → ⊥) → extend_answer train t ns p c ≡ l
        unfolding extend_answer path_of
        extend-named k = turn-yes first2 after2 e h ∙ first-yes 2 after3 open-path ∙ turn-no named (sums_answer train (length_of train) t ns p c ∷ []) f k

        pub extend-sums : l.number ≡ 0 → extend_answer train t ns p c ≡ sums_answer train (length_of train) t ns p c
        unfolding extend_answer path_of
        extend-sums k = turn-yes first2 after2 e h ∙ first-yes 2 after3 open-path ∙ turn-yes named (sums_answer train (length_of train) t ns p c ∷ []) f k ∙ sums-last train (length_of train) t ns p c

        pub named-formed : l.number ≡ 0 → every (well_formed t) ns ≡ true
        named-formed k =
            let q = links-done t train.train_type (followed t.links (link_points p.link_count c.offsets c.numbers) ns) ns (ap (λ (a : Answer). a.number) (sym f) ∙ k) in
            all-formed t ns q.0

  -- what a call that is not refused knows
  pub record Settled : Type 0 where
    pub path : sound p c ≡ true
    pub still_open : is_open p ≡ true
    pub formed : every (well_formed t) ns ≡ true
    pub fit : records_fit train t ns p c ≡ true
    pub is-done : extend_answer train t ns p c ≡ done

  pub settled : (extend_answer train t ns p c).number ≡ 0 → Settled
  unfolding extend_answer sums_answer path_of
  settled h =
      let a = turn-done first2 after2 h in
      let b = first_done 2 after3 (is_open p) a.1 in
      let l = turn-done named (sums_answer train (length_of train) t ns p c ∷ []) b.1 in
      let s = turn-done (sums_answer train (length_of train) t ns p c) [] l.1 in
      let w = turn-done (ask_each 8 (summed train (length_of train) t ns p c)) (ask 9 (records_fit train t ns p c) ∷ []) s.0 in
      record {
        path = (judged-done (train_finite train) p c refl a.0).2;
        still_open = b.0;
        formed = named-formed refl a.0 b.0 refl l.0;
        fit = (first_done 8 [] (records_fit train t ns p c) w.1).0;
        is-done = turn-none (first2 ∷ after2) h;
      }

  -- ---- what question 9 says of each kind
  pub record Fit : Type 0 where
    pub links : p.link_count + length ns ≤ 1025
    pub offsets : p.link_count + length ns ≤ length c.offsets
    pub numbers : 4 * (p.link_count + length ns) ≤ length c.numbers
    pub grades : 3 * (p.grade_count + sum_of (grades_in t.links) ns) ≤ length c.grades
    pub curves : 3 * (p.curve_count + sum_of (curves_in t.links) ns) ≤ length c.curves
    pub speeds : 2 * (p.speed_count + 2 * sum_of (count_at train (sets_of t)) ns) ≤ length c.speeds
    pub powers : 3 * (p.power_count + sum_of (powers_in t.links) ns) ≤ length c.powers
    pub districts : p.power_count + sum_of (powers_in t.links) ns ≤ length c.districts

  pub fit_all : records_fit train t ns p c ≡ true → Fit
  unfolding records_fit
  fit_all h =
      let a = and_both (fits_links (p.link_count + length ns) c) _ h in
      let b = and_both (fits_grades (p.grade_count + sum_of (grades_in t.links) ns) c) _ a.1 in
      let d = and_both (fits_curves (p.curve_count + sum_of (curves_in t.links) ns) c) _ b.1 in
      let f = and_both (fits_speeds (p.speed_count + 2 * sum_of (count_at train (sets_of t)) ns) c) (fits_powers (p.power_count + sum_of (powers_in t.links) ns) c) d.1 in
      let l = within_all _ _ _ _ a.0 in
      let w = within_all _ _ _ _ f.1 in
      record {
        links = l.0;
        offsets = l.1;
        numbers = times 4 _ _ l.2;
        grades = times 3 _ _ (within_all _ _ _ _ b.0).1;
        curves = times 3 _ _ (within_all _ _ _ _ d.0).1;
        speeds = times 2 _ _ (within_all _ _ _ _ f.0).1;
        powers = times 3 _ _ w.1;
        districts = w.2;
      }
