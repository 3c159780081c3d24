-- From call to call, and over any list of calls, the path goes with the book of the calls and passes questions 1 and 2.
use mathlib.Core.Path.{◌≡◌, refl, sym, ap, ◌∙◌, subst}
use Prim.Native.Nat.{◌+◌}
use mathlib.Core.Bool.{Bool, true, false, ◌&&◌}
use mathlib.Core.List.{List, [], ◌∷◌}
use lib.Dec.{eqb}
use borrow.Author.Tests.{eqb-true, eqb-false, not-true}
use Rattle.link.specs.declared.train_params.TrainParams.{TrainParams}
use Rattle.link.specs.Train.{length_of}
use Rattle.path.specs.declared.path_tpc.PathTpc.{PathTpc}
use Rattle.answer.specs.declared.Answer.{Answer}
use Rattle.path.specs.Records.{Columns, Path, fits_grades, fits_curves, path_of, columns_of, record_of}
use Rattle.path.specs.Answers.{is_done, ask, Outcome, outcome}
use Rattle.path.specs.Sound.{path_finite, train_finite, within_bounds, sound, path_answer, is_open}
use Rattle.path.proofs.InTurn.{turn-done, first_done, outcome-refused, outcome-done}
use Rattle.path.proofs.ReadBack.{read_back}
use Rattle.path_ends.specs.New.{new_path, start, new_answer, no_path, new_of}
use Rattle.path_ends.specs.Finish.{finished_path, finish_answer, finish_of}
use Rattle.path_clear.specs.Clear.{drop_count, cleared_path, clear_answer, clear_of}
use Rattle.path_reindex.specs.Reindex.{reindexed_path, reindex_answer, reindex_of}
use Rattle.path_join.specs.Joined.{join_all, started}
use Rattle.path_extend.specs.Extend.{extend_answer, extend_of}
use Rattle.path_extend.proofs.Asked.{settled}
use Rattle.book.specs.Book.{Call, Told, Book, new_book, enter_call, enter, book_from, book_of}
use Rattle.book.specs.Book.Call.{extend, clear, reindex, finish}
use Rattle.book.proofs.Good.{GoodCall}
use Rattle.book.specs.Claims.{Claims}
use Rattle.book.specs.Demand.{call_of, run, CallF64, CallsF64, ran_from_new}
use Rattle.book.proofs.Matching.{Matched, Grounded}
use Rattle.book.proofs.BookAlone.{new-claims, call-claims}
use Rattle.book.proofs.Entering.{joined-matched}
use Rattle.book.proofs.Leaving.{clear-matched, reindex-matched, finish-matched, new-matched}
use Rattle.book.proofs.DoneCalls.{extend-good, clear-good}
use Rattle.book.proofs.Grounding.{new-grounded, joined-grounded, clear-grounded, reindex-grounded, finish-grounded}
use Rattle.path.proofs.WrittenSound.{Stays, before}
use Rattle.book.proofs.StayTrimmed.{stays-new, stays-finish, stays-clear}
use Rattle.book.proofs.StayRenumbered.{stays-reindex}
use Rattle.book.proofs.StayJoined.{stays-extend}

-- a path that goes with its book
pub record Goes (train : TrainParams) (p : PathTpc) (c : Columns) (b : Book) : Type 0 where
  pub matched : Matched (path_of p c) b
  pub claims : Claims train b
  pub grounded : Grounded (path_of p c) b
  pub is_finite : path_finite p c ≡ true
  pub is-sound : sound p c ≡ true

-- what the book is told of a call that left o
abbrev pub told_of : Call → Outcome → Told
told_of call o = record { call = call; was_done = is_done o.answer.answer }

-- what a call leaves goes with the book that is told of it
abbrev pub LeftBy : TrainParams → Call → Book → Outcome → Type 0
LeftBy train call b o = Goes train o.answer.path o.columns (enter train (told_of call o) b)

-- a path that is written to its columns
written : (train : TrainParams) (c : Columns) (after : Path) (b : Book) → Claims train b → Matched after b → Grounded after b → Stays c after → Goes train (record_of after) (columns_of c after) b
written train c after b k m g s =
    record {
      matched = rw (read_back c after) m;
      claims = k;
      grounded = rw (read_back c after) g;
      is_finite = s.0;
      is-sound = s.1;
    }

-- ---- an open path
opened : (p : PathTpc) (c : Columns) → is_open p ≡ true → (path_of p c).finished ≡ false
unfolding path_of
opened p c e = not-true _ e

finish-open : (p : PathTpc) (c : Columns) → (finish_answer p c).number ≡ 0 → is_open p ≡ true
unfolding finish_answer
finish-open p c e =
    let room = ask 9 (fits_grades (p.grade_count + 1) c && fits_curves (p.curve_count + 1) c) ∷ [] in
    (first_done 2 room (is_open p) (turn-done (path_answer true p c) (ask 3 (is_open p) ∷ room) e).1).0

module _ (train : TrainParams) (fin : train_finite train ≡ true) where
  -- ---- one call
  module _ (call : Call) (a : Answer) (p : PathTpc) (c : Columns) (after : Path) (b : Book) where
    -- the book after it
    abbrev told : Book
    told = enter_call train call b

    refused : (a.number ≡ 0 → ⊥) → is_done a ≡ false → Goes train p c b → LeftBy train call b (outcome a p c after)
    unfolding enter
    refused h e g = subst (LeftBy train call b) (sym (outcome-refused a p c after h)) (rw e g)

    changes : a.number ≡ 0 → Goes train (record_of after) (columns_of c after) told → LeftBy train call b (outcome a p c after)
    unfolding enter
    changes h g = subst (LeftBy train call b) (sym (outcome-done a p c after h)) g

    outcome-goes :
        (a.number ≡ 0 → Matched after told × GoodCall train call b × Grounded after told)
        → (a.number ≡ 0 → Claims train told → Matched after told → Grounded after told → Stays c after)
        → Goes train p c b
        → LeftBy train call b (outcome a p c after)
    outcome-goes f s g = pick (eqb a.number 0) refl
      where
        pick : (t : Bool) → eqb a.number 0 ≡ t → LeftBy train call b (outcome a p c after)
        pick true e =
            let z = eqb-true a.number 0 e in
            let k = call-claims train fin call b g.claims (f z).1 in
            changes z (written train c after told k (f z).0 (f z).2 (s z k (f z).0 (f z).2))
        pick false e = refused (eqb-false a.number 0 e) e g

  pub step-goes : (call : Call) (p : PathTpc) (c : Columns) (b : Book) → CallF64 call → Goes train p c b → LeftBy train call b (call_of train call p c)
  unfolding call_of enter_call extend_of clear_of reindex_of finish_of
  step-goes (extend t ns) p c b f64 g =
      let path = path_of p c in
      outcome-goes (extend t ns) (extend_answer train t ns p c) p c (join_all train t (started t path ns) ns) b
      (λ h.
      let good = (extend-good train t ns p c b g.matched h).1 in
      let ends = (before p c g.is_finite g.is-sound).own.end-zero in (
        joined-matched train t path b ns g.claims.some_end g.matched,
        good,
        joined-grounded train (length_of train) t f64 path b ns (opened p c (settled train t ns p c h).still_open) ends g.claims.some_end good g.matched g.grounded,
      ))
      (λ h. stays-extend train (enter_call train (extend t ns) b) t ns p c h) g
  step-goes (clear x) p c b f64 g =
      let path = path_of p c in
      outcome-goes (clear x) (clear_answer x p c) p c (cleared_path (drop_count x path.links) path) b
      (λ h. (clear-matched train x path b g.claims g.matched, clear-good x p c b g.matched h, clear-grounded x path b g.matched g.grounded))
      (λ h. stays-clear train (enter_call train (clear x) b) x p c h) g
  step-goes (reindex new) p c b f64 g =
      let path = path_of p c in
      outcome-goes (reindex new) (reindex_answer new p c) p c (reindexed_path new path) b
      (λ h. (reindex-matched new path b g.matched, tt, reindex-grounded new path b g.grounded))
      (λ h. stays-reindex train (enter_call train (reindex new) b) new p c h) g
  step-goes finish p c b f64 g =
      let path = path_of p c in
      outcome-goes finish (finish_answer p c) p c (finished_path path) b
      (λ h. (finish-matched path b g.matched, tt, finish-grounded path b (opened p c (finish-open p c h)) g.grounded))
      (λ h. stays-finish train (enter_call train finish b) p c h) g

  -- ---- calls in turn
  pub run-goes : (calls : List Call) (p : PathTpc) (c : Columns) (b : Book) → CallsF64 calls → Goes train p c b
      → Goes train (run train calls p c).path (run train calls p c).columns (book_from train (run train calls p c).told b)
  unfolding run book_from
  run-goes [] p c b f64 g = g
  run-goes (x ∷ xs) p c b f64 g =
      let o = call_of train x p c in
      run-goes xs o.answer.path o.columns (enter train (told_of x o) b) f64.1 (step-goes x p c b f64.0 g)

-- ---- from `new` on

-- a call that leaves done has passed its questions
was-done : (a : Answer) (p : PathTpc) (c : Columns) (after : Path) → is_done (outcome a p c after).answer.answer ≡ true → a.number ≡ 0
was-done a p c after e = pick (eqb a.number 0) refl
  where
    pick : (t : Bool) → eqb a.number 0 ≡ t → a.number ≡ 0
    pick true k = eqb-true a.number 0 k
    pick false k = eqb-true a.number 0 (ap (λ (o : Outcome). is_done o.answer.answer) (sym (outcome-refused a p c after (eqb-false a.number 0 k))) ∙ e)

new-passed : (train : TrainParams) (columns : Columns) → (new_answer train columns).number ≡ 0 → train_finite train ≡ true
unfolding new_answer
new-passed train columns h = (first_done 0 (ask 9 (within_bounds start columns) ∷ []) (train_finite train) h).0

pub new-goes : (train : TrainParams) (columns : Columns) → is_done (new_of train columns).answer.answer ≡ true
    → (train_finite train ≡ true) × Goes train (new_of train columns).answer.path (new_of train columns).columns (new_book train)
unfolding new_of
new-goes train columns e =
    let h = was-done (new_answer train columns) no_path columns (new_path train) e in
    let fin = new-passed train columns h in
    let k = new-claims train fin in
    let m = new-matched train in
    let g = new-grounded train in
    (fin, rw (outcome-done (new_answer train columns) no_path columns (new_path train) h) (written train columns (new_path train) (new_book train) k m g (stays-new train (new_book train) columns h k m g)))

pub goes : (train : TrainParams) (columns : Columns) (calls : List Call) → CallsF64 calls → is_done (new_of train columns).answer.answer ≡ true
    → Goes train (ran_from_new train columns calls).path (ran_from_new train columns calls).columns (book_of train (ran_from_new train columns calls).told)
goes train columns calls f64 e =
    let s = new-goes train columns e in
    run-goes train s.0 calls (new_of train columns).answer.path (new_of train columns).columns (new_book train) f64 s.1
