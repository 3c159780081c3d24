-- Demand 3: after every list of calls on a path made by a `new` that is done, the path is as the book of the calls says; and it passes questions 1 and 2.
use Prim.Native.Nat.{ℕ}
use native.Mathlib.Omega.{arith}
use mathlib.Core.Path.{sym, ap, ◌∙◌, subst}
use mathlib.Core.Bool.{Bool, true, false}
use mathlib.Core.List.{List}
use lib.Ieee.{Float}
use Rattle.speed.specs.Points.{Point, offset_at}
use Rattle.speed.specs.Posted.{Sorted}
use Rattle.lookup.specs.declared.path_res_coeff.PathResCoeff.{PathResCoeff}
use Rattle.path.specs.declared.link_point.LinkPoint.{LinkPoint}
use Rattle.path.specs.Records.{path_of}
use Rattle.path.specs.Sound.{spare, count_of}
use Rattle.path.proofs.Counts.{total-fewer}
use Rattle.path.proofs.WrittenSound.{spare-some}
use Rattle.book.specs.Book.{book_of}
use Rattle.book.specs.Claims.{posted_at, PostedRight}
use Rattle.book.specs.Demand.{BeginAtEnds, ran_from_new, Demand3, StaysSound}
use Rattle.book.proofs.Matching.{Begun}
use Rattle.book.proofs.FiniteTrain.{train-good}
use Rattle.book.proofs.Posted.{posted-right}
use Rattle.book.proofs.Running.{new-goes, goes}

-- each link's first record is inside the list
within : (count : LinkPoint → ℕ) (links : List LinkPoint) (rs : List PathResCoeff) (ends : List Float) (finished : Bool) → Begun count links rs ends (spare finished)
    → BeginAtEnds count links rs ends
within count links rs ends finished g k h = (omega (arith, g.counted, spare-some finished, total-fewer count k links), g.begin k h)

pub demand-3 : Demand3
demand-3 train columns calls f64 e =
    let g = goes train columns calls f64 e in
    let ran = ran_from_new train columns calls in
    let path = path_of ran.path ran.columns in
    let b = book_of train ran.told in
    let same = g.matched.points in
    let good = train-good train (new-goes train columns e).0 in
    record {
      some_end = g.claims.some_end;
      links = g.matched.links;
      points = same;
      begins = ap (λ (ps : List Point). offset_at ps 0) same ∙ g.claims.starts;
      sorted = subst Sorted (sym same) g.claims.in_order;
      speeds = λ x h. subst (λ (ps : List Point). PostedRight train b x (posted_at ps x)) (sym same) (posted-right train good b g.claims x h);
      grades = within (count_of false) path.links path.grades b.ends path.finished g.grounded.grades;
      curves = within (count_of true) path.links path.curves b.ends path.finished g.grounded.curves;
    }

pub stays-sound : StaysSound
stays-sound train columns calls f64 e =
    let g = goes train columns calls f64 e in
    (g.is_finite, g.is-sound)
