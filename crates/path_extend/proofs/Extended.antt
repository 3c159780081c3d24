-- `extend`: refused, and done.
use Prim.Native.Nat.{ℕ}
use mathlib.Core.Path.{◌≡◌, sym, ap, ◌∙◌}
use mathlib.Core.Bool.{true}
use mathlib.Core.List.{List}
use Rattle.link.specs.declared.train_params.TrainParams.{TrainParams}
use Rattle.link.specs.Table.{LinkTable}
use Rattle.path.specs.declared.path_tpc.PathTpc.{PathTpc}
use Rattle.answer.specs.declared.Answer.{Answer}
use Rattle.path.specs.Records.{Columns, Path, path_of, columns_of}
use Rattle.path.specs.Answers.{left, changed}
use Rattle.path.specs.Sound.{sound, within_bounds}
use Rattle.path.proofs.InTurn.{outcome-changed}
use Rattle.path.proofs.Clauses.{sound-within}
use Rattle.path_speeds.proofs.Few.{all-few}
use Rattle.path_join.specs.Joined.{started, join_all}
use Rattle.path_extend.specs.Extend.{extend_answer, extend_of}
use Rattle.path_join.specs.Fit.{records_fit}
use Rattle.path_extend.specs.Ready.{Ready, done_with}
use Rattle.path_extend.proofs.Asked.{Settled, settled}
use Rattle.path.proofs.Tidied.{Long, changed-long, tidy-long, tidy-again, tidy-sound}
use Rattle.path.proofs.ReadBack.{read_again}

-- question 9 asks for the columns' lengths alone
fit-long : {l c : Columns} → Long l c → (train : TrainParams) (t : LinkTable) (ns : List ℕ) (p : PathTpc) → records_fit train t ns p l ≡ records_fit train t ns p c
unfolding records_fit
fit-long e train t ns p = rw (e.offsets, e.numbers, e.grades, e.curves, e.speeds, e.powers, e.districts)

module _ (train : TrainParams) (t : LinkTable) (ns : List ℕ) (p : PathTpc) (c : Columns) where
  -- the path with the listed links joined
  abbrev after : Path
  after = join_all train t (started t (path_of p c) ns) ns

  -- a is the code's answer to the questions
  module _ {a : Answer} (asked : a ≡ extend_answer train t ns p c) where
    module _ (z : a.number ≡ 0) where
      zero-answer : (extend_answer train t ns p c).number ≡ 0
      zero-answer = ap (λ (b : Answer). b.number) (sym asked) ∙ z

      known : Settled train t ns p c
      known = settled train t ns p c zero-answer

      pub within : within_bounds p c ≡ true
      within = (sound-within p c known.path).1

      -- l is the columns after `zero_rest`
      module _ {l : Columns} (e : l ≡ columns_of c (path_of p c)) where
        pub ready-sound : sound p l ≡ true
        ready-sound = tidy-sound p c within e ∙ known.path

        pub ready : Ready train t ns p l
        ready =
            record {
              tidy = tidy-again p c within e;
              few = all-few train t ns known.formed;
              fit = fit-long (tidy-long p c within e) train t ns p ∙ known.fit;
              own = known.formed;
            }

        pub extended : {q : PathTpc} {m : Columns} → left (done_with q) m ≡ changed l (join_all train t (started t (path_of p l) ns) ns) → left (record { answer = a; path = q }) m ≡ extend_of train t ns p c
        unfolding extend_of
        extended {q} {m} h =
            ap (λ (b : Answer). left (record { answer = b; path = q }) m) (asked ∙ known.is-done)
            ∙ h
            ∙ changed-long (tidy-long p c within e) (join_all train t (started t (path_of p l) ns) ns)
            ∙ ap (λ (x : Path). changed c (join_all train t (started t x ns) ns)) (read_again p c e)
            ∙ sym (outcome-changed (extend_answer train t ns p c) p c after zero-answer)
