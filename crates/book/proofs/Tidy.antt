-- On every path of demand 3 the columns have zeros past the counts.
use mathlib.Core.Path.{◌≡◌, refl, sym, ap, ◌∙◌}
use mathlib.Core.Bool.{Bool, true, false}
use mathlib.Core.List.{List, [], ◌∷◌}
use lib.Dec.{eqb}
use borrow.Author.Tests.{eqb-true, eqb-false}
use Rattle.link.specs.declared.train_params.TrainParams.{TrainParams}
use Rattle.path.specs.declared.path_tpc.PathTpc.{PathTpc}
use Rattle.answer.specs.declared.Answer.{Answer}
use Rattle.path.specs.Records.{Columns, Path, path_of, columns_of}
use Rattle.path.specs.Answers.{is_done, Outcome, outcome, changed}
use Rattle.path.proofs.InTurn.{outcome-refused, outcome-changed}
use Rattle.path.proofs.ReadBack.{read_back}
use Rattle.path.proofs.Tidied.{written-again}
use Rattle.path_ends.specs.New.{new_path, new_answer, no_path, new_of}
use Rattle.path_ends.specs.Finish.{finished_path, finish_answer, finish_of}
use Rattle.path_clear.specs.Clear.{drop_count, cleared_path, clear_answer, clear_of}
use Rattle.path_reindex.specs.Reindex.{reindexed_path, reindex_answer, reindex_of}
use Rattle.path_join.specs.Joined.{join_all, started}
use Rattle.path_extend.specs.Extend.{extend_answer, extend_of}
use Rattle.book.specs.Book.{Call}
use Rattle.book.specs.Book.Call.{extend, clear, reindex, finish}
use Rattle.book.specs.Demand.{call_of, run, ran_from_new}

-- zeros past the counts
abbrev pub Tidy : PathTpc → Columns → Type 0
Tidy p c = columns_of c (path_of p c) ≡ c

abbrev TidyLeft : Outcome → Type 0
TidyLeft o = Tidy o.answer.path o.columns

changed-tidy : (c : Columns) (after : Path) → TidyLeft (changed c after)
unfolding changed
changed-tidy c after = ap (columns_of (columns_of c after)) (read_back c after) ∙ written-again c after

outcome-tidy : (a : Answer) (p : PathTpc) (c : Columns) (after : Path) → (is_done a ≡ false → Tidy p c) → TidyLeft (outcome a p c after)
outcome-tidy a p c after tidy = go (eqb a.number 0) refl
  where
    go : (b : Bool) → eqb a.number 0 ≡ b → TidyLeft (outcome a p c after)
    go true e = rw (outcome-changed a p c after (eqb-true a.number 0 e)) (changed-tidy c after)
    go false e = rw (outcome-refused a p c after (eqb-false a.number 0 e)) (tidy e)

step-tidy : (train : TrainParams) (call : Call) (p : PathTpc) (c : Columns) → Tidy p c → TidyLeft (call_of train call p c)
unfolding call_of extend_of clear_of reindex_of finish_of
step-tidy train (extend t ns) p c h = outcome-tidy (extend_answer train t ns p c) p c (join_all train t (started t (path_of p c) ns) ns) (λ e. h)
step-tidy train (clear x) p c h = outcome-tidy (clear_answer x p c) p c (cleared_path (drop_count x (path_of p c).links) (path_of p c)) (λ e. h)
step-tidy train (reindex new) p c h = outcome-tidy (reindex_answer new p c) p c (reindexed_path new (path_of p c)) (λ e. h)
step-tidy train finish p c h = outcome-tidy (finish_answer p c) p c (finished_path (path_of p c)) (λ e. h)

run-tidy : (train : TrainParams) (calls : List Call) (p : PathTpc) (c : Columns) → Tidy p c → Tidy (run train calls p c).path (run train calls p c).columns
unfolding run
run-tidy train [] p c h = h
run-tidy train (x ∷ xs) p c h = run-tidy train xs (call_of train x p c).answer.path (call_of train x p c).columns (step-tidy train x p c h)

new-tidy : (train : TrainParams) (columns : Columns) → is_done (new_of train columns).answer.answer ≡ true → TidyLeft (new_of train columns)
unfolding new_of
new-tidy train columns e =
    outcome-tidy (new_answer train columns) no_path columns (new_path train)
    (λ n. absurd (eqb-false (new_answer train columns).number 0 n (eqb-true (new_answer train columns).number 0 (ap (λ (o : Outcome). is_done o.answer.answer) (sym (outcome-refused (new_answer train columns) no_path columns (new_path train) (eqb-false (new_answer train columns).number 0 n))) ∙ e))))

pub ran-tidy : (train : TrainParams) (columns : Columns) (calls : List Call) → is_done (new_of train columns).answer.answer ≡ true
    → Tidy (ran_from_new train columns calls).path (ran_from_new train columns calls).columns
ran-tidy train columns calls e = run-tidy train calls (new_of train columns).answer.path (new_of train columns).columns (new-tidy train columns e)
