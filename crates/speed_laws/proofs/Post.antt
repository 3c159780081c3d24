-- The posted speed of a list in parts, and of a list with a point that posts nothing new.
use mathlib.Core.Path.{◌≡◌, refl, sym, ap, ◌∙◌}
use mathlib.Core.Bool.{Bool, true, false, cond}
use mathlib.Core.List.{List, [], ◌∷◌, ◌++◌}
use lib.Dec.{T}
use lib.Ieee as Ieee
use lib.Ieee.{Float}
use Rattle.ieee.proofs.Order.{le_trans, of-true}
use Rattle.speed.specs.Points.{Point, point}
use Rattle.speed.specs.Posted.{passed, posted}
use Rattle.speed.proofs.Reached.{passes}

-- What the first part posts counts where the second has no point yet.
pub posted-append : (x u : Float) (ps qs : List Point) → posted x (ps ++ qs) u ≡ posted x qs (posted x ps u)
posted-append x u [] qs = refl
posted-append x u (p ∷ ps) qs = posted-append x (passed x p u) ps qs

-- A point that comes in after q, not before it, with the speed posted there, changes no posted speed.
pub posted-enter : (x u : Float) (ps : List Point) (q : Point) (o : Float) (qs : List Point) → T (Ieee.le q.offset o)
    → posted x (ps ++ q ∷ point o q.speed ∷ qs) u ≡ posted x (ps ++ q ∷ qs) u
posted-enter x u ps q o qs h =
    posted-append x u ps (q ∷ point o q.speed ∷ qs) ∙ ap (posted x qs) (same (Ieee.le o x) refl) ∙ sym (posted-append x u ps (q ∷ qs))
  where
    w : Float
    w = passed x q (posted x ps u)

    same : (b : Bool) → Ieee.le o x ≡ b → cond b q.speed w ≡ w
    same true e = sym (passes x q (posted x ps u) (le_trans q.offset o x h (of-true e)))
    same false e = refl
