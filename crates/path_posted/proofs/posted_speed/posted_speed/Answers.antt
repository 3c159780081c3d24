-- `posted_speed`: refused, or the speed that the search finds.
use native.Mathlib.Omega.{arith}
use mathlib.Core.Path.{◌≡◌, sym, ap, subst, ◌∙◌}
use mathlib.Core.Bool.{true}
use mathlib.Core.List.{List}
use lib.Ieee as Ieee
use Rattle.ieee.specs.Number.{+0}
use Rattle.speed.specs.Points.{Point, offset_at}
use Rattle.speed.specs.Posted.{posted, Sorted}
use Rattle.path.specs.Records.{lent}
use Rattle.path.proofs.Told.{told-err, told-ok}
use Rattle.path_posted.proofs.Answered.{no-speed, searchable, speed-handed}
use Rattle.path_posted.proofs.posted_speed.posted_speed.Goals as goal

pub returns-in_err-posted_answer : goal.returns-in_err-posted_answer
returns-in_err-posted_answer c =
    let a = c.args in
    no-speed a.x.0 a.p (lent a.cols.now) _ _ (told-err c.posted_answer.ensures c.in_err-posted_answer.was) c.from_residual.ensures.1

pub new-requires : goal.new-requires
new-requires c =
    let a = c.args in
    (searchable a.x.0 a.p (lent a.cols.now) (told-ok c.posted_answer.ensures c.in_ok-posted_answer.was)).1.0

pub posted_at-requires : goal.posted_at-requires
posted_at-requires c =
    let a = c.args in
    let known = searchable a.x.0 a.p (lent a.cols.now) (told-ok c.posted_answer.ensures c.in_ok-posted_answer.was) in
    let are = sym c.new.ensures.are in
    record {
      some = omega (arith, known.0, c.new.ensures.count);
      sorted = subst Sorted are known.1.1.0;
      x_value = subst (λ (ps : List Point). Ieee.le (offset_at ps 0) a.x.0 ≡ true) are known.1.1.1;
    }

pub returns : goal.returns
returns c =
    let a = c.args in
    speed-handed a.x.0 a.p (lent a.cols.now) (told-ok c.posted_answer.ensures c.in_ok-posted_answer.was) (c.posted_at.ensures ∙ ap (λ (ps : List Point). posted a.x.0 ps +0) c.new.ensures.are)
