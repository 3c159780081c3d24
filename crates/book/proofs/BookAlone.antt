-- Demand 3's claims of a book: they stand at `new`, and each call that was rightly done keeps them.
use native.Mathlib.Omega.{arith}
use mathlib.Core.Path.{◌≡◌, refl}
use mathlib.Core.Bool.{true, false}
use mathlib.Core.List.Memᴰ
use lib.Ieee.{nan, binary64}
use Rattle.ieee.specs.Number.{+0}
use Rattle.ieee.proofs.Order.{le_refl, eq_refl}
use Rattle.ieee.proofs.Same.{zero-fits}
use Rattle.ieee.proofs.Sum.{finite-real}
use Rattle.speed.specs.Points.{point}
use Rattle.speed.proofs.Reached.{passes}
use Rattle.link.specs.declared.train_params.TrainParams.{TrainParams}
use Rattle.link.specs.Train.{length_of, top_speed}
use Rattle.path.specs.Sound.{train_finite}
use Rattle.book.specs.Book.{Call, Book, new_book, enter_call}
use Rattle.book.specs.Book.Call.{extend, clear, reindex, finish}
use Rattle.book.proofs.Good.{GoodCall}
use Rattle.book.specs.Claims.{Offset, Claims}
use Rattle.book.proofs.FiniteTrain.{train-good}
use Rattle.book.proofs.Joined.{links-claims}
use Rattle.book.proofs.Trimmed.{drop-claims}

-- ---- `new`

pub new-claims : (train : TrainParams) → train_finite train ≡ true → Claims train (new_book train)
new-claims train fin =
    let good = train-good train fin in
    let zero : Offset +0 = record { is_finite = tt; is-f64 = zero-fits binary64 false; not_negative = le_refl +0 tt; no_sign = refl } in
    record {
      some_end = omega arith;
      ends-good = (zero, tt);
      ends-rise = tt;
      starts = refl;
      in_order = tt;
      points-good = (zero, good.top-finite, tt);
      limits-good = λ l m. absurd (Memᴰ.not-nil m);
      speeds = λ x h. rw (passes x (point +0 (top_speed train)) nan h) (eq_refl (top_speed train) (finite-real (top_speed train) good.top-finite));
    }

-- ---- the calls

pub call-claims : (train : TrainParams) → train_finite train ≡ true → (call : Call) (b : Book) → Claims train b → GoodCall train call b → Claims train (enter_call train call b)
unfolding enter_call
call-claims train fin (extend t ns) b c g = links-claims train fin (length_of train) (train-good train fin).length-from-zero t b ns c g
call-claims train fin (clear x) b c g = drop-claims train x b c g
call-claims train fin (reindex new) b c g = c
call-claims train fin finish b c g = c
