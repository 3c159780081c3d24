-- `new`, `finish` and `clear` leave a path finite and sound.
use Prim.Native.Nat.{◌+◌}
use native.Mathlib.Omega.{arith}
use mathlib.Core.Path.{◌≡◌, refl, sym, ap, ap₂, ◌∙◌}
use mathlib.Core.Bool.{Bool, true, false, ◌&&◌}
use mathlib.Core.List.{List, [], ◌∷◌}
use lib.Dec.{leb}
use lib.ListN.{length, length-append}
use lib.Ieee as Ieee
use lib.Ieee.{Float}
use lib.Ieee.Bits.{is_true}
use lib.Ieee.Scale.{finite}
use borrow.Author.Tests.{not-true, leb-true}
use Rattle.ieee.specs.Number.{+∞, all_finite}
use Rattle.ieee.proofs.Order.{eq_refl, of-true}
use Rattle.column.specs.Records.{flat}
use Rattle.lookup.specs.declared.path_res_coeff.PathResCoeff.{PathResCoeff}
use Rattle.lookup.specs.Coeff.{no_coeff, net_of}
use Rattle.link.specs.declared.train_params.TrainParams.{TrainParams}
use Rattle.link.proofs.Known.{and_both}
use Rattle.path.specs.declared.path_tpc.PathTpc.{PathTpc}
use Rattle.path.specs.Records.{Columns, fits_links, fits_grades, fits_curves, fits_speeds, fits_powers, offset_of, link_point_at, end_point, last_coeff, Path, path_of, record_of}
use Rattle.path.specs.Answers.{ask}
use Rattle.path.specs.Sound.{path_answer, train_finite, is_open, within_bounds, total, closes, closed_at_infinity, end_counts_zero, numbers_real}
use Rattle.path.proofs.InTurn.{turn-done, first_done, judged-done}
use Rattle.path.proofs.Clauses.{sound-within}
use Rattle.path.proofs.ReadBack.{counted}
use Rattle.path_ends.specs.New.{new_path, start, new_answer}
use Rattle.path_ends.specs.Finish.{closing_after, closing, finished_path, closed_record, finish_answer}
use Rattle.path_clear.specs.Clear.{drop_count, cleared_path, in_range, clear_answer}
use Rattle.path_clear.proofs.WithoutLinks.{two-left, own-clear}
use Rattle.book.specs.Book.{Book}
use Rattle.book.specs.Claims.{Claims}
use Rattle.book.proofs.Matching.{Matched, Grounded}
use Rattle.path.proofs.Written.{records_finite}
use Rattle.path.proofs.Lasts.{last_more, every-last, whole_finite, open-finite, close-finite}
use Rattle.path.proofs.WrittenSound.{Own, Stays, NoMore, fewer-within, before}
use Rattle.book.proofs.Staying.{stays}

-- ---- new

own_new : (train : TrainParams) → Own (new_path train)
unfolding new_path total closed_at_infinity end_counts_zero numbers_real records_finite all_finite flat
own_new train =
    record {
      powers-counted = refl;
      closed = refl;
      end-zero = refl;
      numbers = refl;
      grades-finite = refl;
      curves-finite = refl;
      powers-finite = refl;
    }

pub stays-new : (train : TrainParams) (b : Book) (c : Columns) → (new_answer train c).number ≡ 0 → Claims train b → Matched (new_path train) b → Grounded (new_path train) b → Stays c (new_path train)
unfolding new_answer
stays-new train b c e claims matched grounded =
    let one = first_done 0 (ask 9 (within_bounds start c) ∷ []) (train_finite train) e in
    let nine = first_done 8 [] (within_bounds start c) one.1 in
    stays train b (new_path train) claims matched grounded (own_new train) c (unfold new_path record_of in nine.0)

-- ---- finish

closed-last : (gs : List PathResCoeff) → closes (closing gs) ≡ true
closed-last gs = ap (λ (g : PathResCoeff). Ieee.eq g.offset.0 +∞) (last_more no_coeff gs (closing_after (last_coeff gs))) ∙ is_true (Ieee.eq +∞ +∞) (eq_refl +∞ tt)

closed-finite : (gs : List PathResCoeff) → records_finite false gs ≡ true → records_finite true (closing gs) ≡ true
closed-finite gs e =
    let each = sym (open-finite gs) ∙ e in
    let last = every-last whole_finite no_coeff gs refl each in
    let net = (and_both (finite (last_coeff gs).res_coeff.0) (finite (net_of (last_coeff gs))) (and_both (finite (last_coeff gs).offset.0) _ last).1).1 in
    close-finite true gs (closing_after (last_coeff gs)) each (ap₂ ◌&&◌ (is_true (Ieee.eq +∞ +∞) (eq_refl +∞ tt)) net)

own-finish : (path : Path) → path.finished ≡ false → Own path → Own (finished_path path)
unfolding finished_path closed_at_infinity
own-finish path e own =
    record {
      powers-counted = own.powers-counted;
      closed = ap₂ ◌&&◌ (closed-last path.grades) (closed-last path.curves);
      end-zero = own.end-zero;
      numbers = own.numbers;
      grades-finite = closed-finite path.grades (ap (λ (b : Bool). records_finite b path.grades) (sym e) ∙ own.grades-finite);
      curves-finite = closed-finite path.curves (ap (λ (b : Bool). records_finite b path.curves) (sym e) ∙ own.curves-finite);
      powers-finite = own.powers-finite;
    }

within-closed : (p : PathTpc) (c : Columns) → within_bounds p c ≡ true → fits_grades (p.grade_count + 1) c ≡ true → fits_curves (p.curve_count + 1) c ≡ true → within_bounds (closed_record p) c ≡ true
unfolding within_bounds
within-closed p c e g k =
    let links = and_both (fits_links p.link_count c) _ e in
    let grades = and_both (fits_grades p.grade_count c) _ links.1 in
    let curves = and_both (fits_curves p.curve_count c) (fits_speeds p.speed_count c && fits_powers p.power_count c) grades.1 in
    ap₂ ◌&&◌ links.0 (ap₂ ◌&&◌ g (ap₂ ◌&&◌ k curves.1))

-- p is the record before
closed-more : (path : Path) (p : PathTpc) → record_of path ≡ p → NoMore (record_of (finished_path path)) (closed_record p)
unfolding finished_path record_of
closed-more path p e =
    record {
      links = omega (arith, ap (λ (q : PathTpc). q.link_count) e);
      grades = omega (arith, length-append path.grades (closing_after (last_coeff path.grades) ∷ []), ap (λ (q : PathTpc). q.grade_count) e);
      curves = omega (arith, length-append path.curves (closing_after (last_coeff path.curves) ∷ []), ap (λ (q : PathTpc). q.curve_count) e);
      speeds = omega (arith, ap (λ (q : PathTpc). q.speed_count) e);
      powers = omega (arith, ap (λ (q : PathTpc). q.power_count) e);
    }

pub stays-finish : (train : TrainParams) (b : Book) (p : PathTpc) (c : Columns) → (finish_answer p c).number ≡ 0
    → Claims train b → Matched (finished_path (path_of p c)) b → Grounded (finished_path (path_of p c)) b → Stays c (finished_path (path_of p c))
unfolding finish_answer
stays-finish train b p c e claims matched grounded =
    let fits? = fits_grades (p.grade_count + 1) c && fits_curves (p.curve_count + 1) c in
    let two = turn-done (path_answer true p c) (ask 3 (is_open p) ∷ ask 9 fits? ∷ []) e in
    let good = judged-done true p c refl two.0 in
    let three = first_done 2 (ask 9 fits? ∷ []) (is_open p) two.1 in
    let nine = and_both (fits_grades (p.grade_count + 1) c) (fits_curves (p.curve_count + 1) c) (first_done 8 [] fits? three.1).0 in
    let path = path_of p c in
    let was = before p c good.1 good.2 in
    let is : record_of path ≡ p = counted p c in
    let open? : path.finished ≡ false = unfold path_of in not-true p.is_finished three.0 in
    let room = within-closed p c (sound-within p c good.2).1 nine.0 nine.1 in
    stays train b (finished_path path) claims matched grounded (own-finish path open? was.own) c (fewer-within (record_of (finished_path path)) (closed_record p) c (closed-more path p is) room)

-- ---- clear

pub stays-clear : (train : TrainParams) (b : Book) (x : Float) (p : PathTpc) (c : Columns) → (clear_answer x p c).number ≡ 0
    → Claims train b → Matched (cleared_path (drop_count x (path_of p c).links) (path_of p c)) b → Grounded (cleared_path (drop_count x (path_of p c).links) (path_of p c)) b
    → Stays c (cleared_path (drop_count x (path_of p c).links) (path_of p c))
unfolding clear_answer
stays-clear train b x p c e claims matched grounded =
    let path = path_of p c in
    let ps = path.links in
    let twelve? = ask 12 (leb 2 p.link_count) ∷ [] in
    let two = turn-done (path_answer (finite x) p c) (ask 10 (in_range x ps) ∷ twelve?) e in
    let good = judged-done (finite x) p c refl two.0 in
    let ten = first_done 9 twelve? (in_range x ps) two.1 in
    let range = and_both (Ieee.le (offset_of (link_point_at ps 0)) x) (Ieee.le x (offset_of (end_point ps))) ten.0 in
    let twelve = leb-true 2 p.link_count (first_done 11 [] (leb 2 p.link_count) ten.1).0 in
    let long : length ps ≡ p.link_count = unfold record_of in ap (λ (q : PathTpc). q.link_count) (counted p c) in
    let left = own-clear (drop_count x ps) path (two-left x ps (omega arith) (of-true range.1)) c (before p c good.1 good.2) in
    stays train b (cleared_path (drop_count x ps) path) claims matched grounded left.0 c left.1
