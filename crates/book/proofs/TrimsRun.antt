-- A list of trims leaves what so many trims leave; on a path of demand 3 it leaves the path that demand 3 speaks of.
use Prim.Native.Nat.{ℕ, ◌+◌}
use mathlib.Core.Path.{◌≡◌, refl, sym, ap, ap₂, ◌∙◌, subst}
use mathlib.Core.Bool.{Bool, true, false, cond}
use mathlib.Core.List.{List, [], ◌∷◌, ◌++◌, append-nil}
use lib.Ieee.{Float}
use borrow.Author.Tests.{eqb-true, eqb-false}
use Rattle.link.specs.declared.train_params.TrainParams.{TrainParams}
use Rattle.path.specs.declared.path_tpc.PathTpc.{PathTpc}
use Rattle.answer.specs.declared.Answer.{Answer}
use Rattle.path.specs.declared.link_point.LinkPoint.{LinkPoint}
use Rattle.path.specs.Records.{Columns, no_link_point, Path, path_of}
use Rattle.answer.specs.Answers.{done}
use Rattle.path.specs.Answers.{is_done, Outcome, left, changed}
use Rattle.path.proofs.ReadBack.{counted}
use Rattle.path_ends.specs.New.{new_of}
use Rattle.path_clear.specs.Clear.{Cleared, clear_of}
use Rattle.path_clear.specs.Trims.{trims_answer, both, trims_leave, list_answer, list_leaves, clear_each}
use Rattle.book.specs.Book.{Call, book_of}
use Rattle.book.specs.Book.Call.{clear}
use Rattle.book.specs.Demand.{call_of, Ran, run, CallsF64, Kept, ran_from_new}
use Rattle.book.specs.Trims.{clears, all_done, trimmed_by, TrimsAsCalls, stands_for, Demand3Trims, KeptByTrims}
use Rattle.book.proofs.DemandThree.{demand-3}
use Rattle.book.proofs.Tidy.{ran-tidy}

-- ---- trims in turn, none refused

-- a path after these trims, each done, as a call left it
abbrev ran_as : Outcome → List Float → Ran
ran_as o xs = record { path = o.answer.path; columns = o.columns; told = all_done xs }

module _ (train : TrainParams) where
  trims-run : (xs : List Float) (k : ℕ) (dropped : LinkPoint) (p : PathTpc) (c : Columns) → (trims_answer k xs p c).number ≡ 0 → run train (clears xs) p c ≡ ran_as (trims_leave dropped xs p c).outcome xs
  unfolding run call_of trims_answer trims_leave
  trims-run [] k dropped p c z = refl
  trims-run (x ∷ xs) k dropped p c z =
      go (is_done (clear_of x p c).outcome.answer.answer) refl
      (trims-run xs (k + 1) (both dropped (clear_of x p c).dropped) (clear_of x p c).outcome.answer.path (clear_of x p c).outcome.columns)
    where
      o : Outcome
      o = (clear_of x p c).outcome

      after : Cleared
      after = trims_leave (both dropped (clear_of x p c).dropped) xs o.answer.path o.columns

      go : (b : Bool) → is_done o.answer.answer ≡ b
          → ((trims_answer (k + 1) xs o.answer.path o.columns).number ≡ 0 → run train (clears xs) o.answer.path o.columns ≡ ran_as after.outcome xs)
          → run train (clears (x ∷ xs)) p c ≡ ran_as after.outcome (x ∷ xs)
      go true e more =
          ap₂ (λ (b : Bool) (s : Ran). record { path = s.path; columns = s.columns; told = record { call = clear x; was_done = b } ∷ s.told }) e (more (rw e at z))
      go false e more = absurd (eqb-false o.answer.answer.number 0 e (rw e at z))

  -- ---- one list of calls after another
  run-append : (a b : List Call) (p : PathTpc) (c : Columns)
      → ((run train (a ++ b) p c).path ≡ (run train b (run train a p c).path (run train a p c).columns).path)
      × ((run train (a ++ b) p c).columns ≡ (run train b (run train a p c).path (run train a p c).columns).columns)
  unfolding run
  run-append [] b p c = (refl, refl)
  run-append (x ∷ a) b p c = run-append a b (call_of train x p c).answer.path (call_of train x p c).columns

-- ---- what a list of trims answers, and leaves
leave-done : (xs : List Float) (dropped : LinkPoint) (p : PathTpc) (c : Columns) → (trims_leave dropped xs p c).outcome.answer.answer ≡ done
unfolding trims_leave
leave-done [] dropped p c = refl
leave-done (x ∷ xs) dropped p c = leave-done xs (both dropped (clear_of x p c).dropped) (clear_of x p c).outcome.answer.path (clear_of x p c).outcome.columns

leaves-done : (xs : List Float) (p : PathTpc) (c : Columns) → is_done (list_leaves xs p c).outcome.answer.answer ≡ true
unfolding list_leaves changed
leaves-done [] p c = refl
leaves-done (x ∷ xs) p c = ap is_done (leave-done (x ∷ xs) no_link_point p c)

module _ (xs : List Float) (p : PathTpc) (c : Columns) where
  abbrev answer : Answer
  answer = list_answer xs p c

  abbrev decided : Bool → Outcome
  decided b = (cond b (list_leaves xs p c) (record { outcome = left (record { answer = answer; path = p }) c; dropped = no_link_point })).outcome

  each-is : {b : Bool} → is_done answer ≡ b → trimmed_by xs p c ≡ decided b
  unfolding clear_each
  each-is e = ap decided e

  -- a list is done where its questions are
  same_answer : is_done (trimmed_by xs p c).answer.answer ≡ is_done answer
  same_answer = go (is_done answer) refl
    where
      go : (b : Bool) → is_done answer ≡ b → is_done (trimmed_by xs p c).answer.answer ≡ is_done answer
      go true e = ap (λ (o : Outcome). is_done o.answer.answer) (each-is e) ∙ leaves-done xs p c ∙ sym e
      go false e = ap (λ (o : Outcome). is_done o.answer.answer) (each-is e)

pub trims-as-calls : TrimsAsCalls
unfolding list_answer list_leaves
trims-as-calls train x xs p c e =
    let t = sym (same_answer (x ∷ xs) p c) ∙ e in
    trims-run train (x ∷ xs) 0 no_link_point p c (eqb-true (list_answer (x ∷ xs) p c).number 0 t)
    ∙ ap (λ (o : Outcome). ran_as o (x ∷ xs)) (sym (each-is (x ∷ xs) p c t))

-- ---- on a path of demand 3
module _ (train : TrainParams) (columns : Columns) (calls : List Call) where
  abbrev ran : Ran
  ran = ran_from_new train columns calls

  -- o leaves what the calls leave with more calls behind them
  abbrev LeftBy : Outcome → List Call → Type 0
  LeftBy o more = (o.answer.path ≡ (ran_from_new train columns (calls ++ more)).path) × (o.columns ≡ (ran_from_new train columns (calls ++ more)).columns)

  as_it_was : (o : Outcome) → o.answer.path ≡ ran.path → o.columns ≡ ran.columns → LeftBy o []
  as_it_was o e f =
      let same : ran ≡ ran_from_new train columns (calls ++ []) = ap (ran_from_new train columns) (sym (append-nil calls)) in
      (e ∙ ap (λ (r : Ran). r.path) same, f ∙ ap (λ (r : Ran). r.columns) same)

  done-leaves : (xs : List Float) → is_done (new_of train columns).answer.answer ≡ true → is_done (trimmed_by xs ran.path ran.columns).answer.answer ≡ true → LeftBy (trimmed_by xs ran.path ran.columns) (clears xs)
  unfolding list_leaves changed
  done-leaves [] new e =
      let o : trimmed_by [] ran.path ran.columns ≡ changed ran.columns (path_of ran.path ran.columns) = each-is [] ran.path ran.columns (sym (same_answer [] ran.path ran.columns) ∙ e) in
      as_it_was (trimmed_by [] ran.path ran.columns)
      (ap (λ (y : Outcome). y.answer.path) o ∙ counted ran.path ran.columns)
      (ap (λ (y : Outcome). y.columns) o ∙ ran-tidy train columns calls new)
  done-leaves (x ∷ xs) new e =
      let run_is = trims-as-calls train x xs ran.path ran.columns e in
      let both = run-append train calls (clears (x ∷ xs)) (new_of train columns).answer.path (new_of train columns).columns in
      (sym (both.0 ∙ ap (λ (r : Ran). r.path) run_is), sym (both.1 ∙ ap (λ (r : Ran). r.columns) run_is))

pub demand-3-trims : Demand3Trims
demand-3-trims train columns calls xs new = go (is_done (trimmed_by xs p c).answer.answer) refl
  where
    p : PathTpc
    p = (ran train columns calls).path

    c : Columns
    c = (ran train columns calls).columns

    go : (b : Bool) → is_done (trimmed_by xs p c).answer.answer ≡ b → LeftBy train columns calls (trimmed_by xs p c) (cond b (clears xs) [])
    go true e = done-leaves train columns calls xs new e
    go false e =
        let o = each-is xs p c (sym (same_answer xs p c) ∙ e) in
        as_it_was train columns calls (trimmed_by xs p c) (ap (λ (y : Outcome). y.answer.path) o) (ap (λ (y : Outcome). y.columns) o)

calls-after : (a b : List Call) → CallsF64 a → CallsF64 b → CallsF64 (a ++ b)
calls-after [] b h k = k
calls-after (x ∷ a) b h k = (h.0, calls-after a b h.1 k)

clears-f64 : (xs : List Float) → CallsF64 (clears xs)
clears-f64 [] = tt
clears-f64 (x ∷ xs) = (tt, clears-f64 xs)

stands-f64 : (b : Bool) (xs : List Float) → CallsF64 (cond b (clears xs) [])
stands-f64 true xs = clears-f64 xs
stands-f64 false xs = tt

pub kept-by-trims : KeptByTrims
kept-by-trims train columns calls xs f64 new =
    let after = calls ++ stands_for xs (ran train columns calls) in
    let fits = calls-after calls (stands_for xs (ran train columns calls)) f64 (stands-f64 (is_done (trimmed_by xs (ran train columns calls).path (ran train columns calls).columns).answer.answer) xs) in
    let is = demand-3-trims train columns calls xs new in
    subst (λ (p : Path). Kept train p (book_of train (ran_from_new train columns after).told)) (sym (ap₂ path_of is.0 is.1)) (demand-3 train columns after fits new)
