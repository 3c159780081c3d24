-- What holds a stretch is always a limit that covers it or the top speed.
use mathlib.Core.Logic.{inl, inr}
use lib.Dec.{T}
use lib.Ieee as Ieee
use lib.Ieee.{Float}
use Rattle.ieee.specs.Number.{size}
use Rattle.ieee.proofs.Order.{eq-sym}
use Rattle.link.specs.Train.{top_speed}
use Rattle.link.specs.Table as table
use Rattle.path.specs.Records.{path_of}
use Rattle.book.specs.Claims.{posted_at, covers_at}
use Rattle.book.specs.Demand.{ran_from_new}
use Rattle.book.proofs.LimitsEnd.{exact}
use Rattle.speed.specs.declared.laid.Laid.{Laid}
use Rattle.view.specs.Holders.{holds}
use Rattle.view.proofs.HeldBy.{holds_of, held-some}
use Rattle.view_laws.specs.Named.{Tells, AlwaysNamed}

-- a limit that covers x with the size of u holds it, by the record that tells of it
told-holds : (r : Laid) (l : table.Limit) (x u : Float) → Tells r l → T (covers_at l x) → T (Ieee.eq (size u) (size l.value)) → T (holds x u r)
told-holds r l x u t c e = holds_of x u r (rw (t.start, t.end) c) (rw t.value (eq-sym (size u) (size l.value) e))

pub always-named : AlwaysNamed
always-named train columns calls f64 e laid told x h unlisted =
    let ran = ran_from_new train columns calls in
    let u = posted_at (path_of ran.path ran.columns).speeds x in
    elim (exact train columns calls f64 e x h).held [
      | inl i ↦ held-some laid x u (top_speed train) (inr i) unlisted
      | inr i ↦ let k = told i.0 i.1 i.2 in held-some laid x u (top_speed train) (inl (k.0, k.1, told-holds k.0 i.0 x u k.2 i.3 i.4)) unlisted
    ]
