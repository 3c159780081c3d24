-- The ends of a book: one more, and some fewer.
use Prim.Native.Nat.{ℕ, suc, ◌-◌, ◌<◌}
use native.Mathlib.Nat.{not-suc-le-zero}
use native.Mathlib.Omega.{arith}
use mathlib.Core.Path.{◌≡◌, refl, ap}
use mathlib.Core.Bool.{Bool, true, false, cond}
use mathlib.Core.List.{List, [], ◌∷◌, ◌++◌}
use lib.Dec.{T}
use lib.ListN.{length, get_or, length-append}
use lib.Ieee as Ieee
use lib.Ieee.{Float, nan}
use Rattle.ieee.proofs.Order.{le_trans, le_refl, lt→le}
use Rattle.ieee.proofs.Sum.{finite-real}
use Rattle.book.specs.Book.{first_end, last_end, drop_ends_from, drop_ends}
use Rattle.book.specs.Claims.{Offset, Offsets, RisingFrom, Rising}

-- ---- the last

pub last-next : (e f : Float) (es : List Float) → last_end (e ∷ f ∷ es) ≡ last_end (f ∷ es)
last-next e f es =
    let i : length (e ∷ f ∷ es) - 1 ≡ suc (length (f ∷ es) - 1) = omega arith in
    ap (λ (k : ℕ). get_or (e ∷ f ∷ es) k nan) i

-- it is an offset, and not before the first
pub last-offset : (es : List Float) → 0 < length es → Offsets es → Offset (last_end es)
last-offset [] z h = absurd (not-suc-le-zero z)
last-offset (e ∷ []) z h = h.0
last-offset (e ∷ f ∷ es) z h = rw (last-next e f es) (last-offset (f ∷ es) (omega arith) h.1)

pub first-last : (es : List Float) → 0 < length es → Offsets es → Rising es → T (Ieee.le (first_end es) (last_end es))
first-last [] z h r = absurd (not-suc-le-zero z)
first-last (e ∷ []) z h r = le_refl e (finite-real e h.0.is_finite)
first-last (e ∷ f ∷ es) z h r =
    rw (last-next e f es) (le_trans e f (last_end (f ∷ es)) (lt→le e f r.0) (first-last (f ∷ es) (omega arith) h.1 r.1))

pub first-offset : (es : List Float) → 0 < length es → Offsets es → Offset (first_end es)
first-offset [] z h = absurd (not-suc-le-zero z)
first-offset (e ∷ es) z h = h.0

-- ---- one more

pub first_more : (es : List Float) (n : Float) → 0 < length es → first_end (es ++ n ∷ []) ≡ first_end es
first_more [] n z = absurd (not-suc-le-zero z)
first_more (e ∷ es) n z = refl

pub some_more : (es : List Float) (n : Float) → 0 < length (es ++ n ∷ [])
some_more es n = omega (arith, length-append es (n ∷ []))

pub offsets-more : (es : List Float) (n : Float) → Offsets es → Offset n → Offsets (es ++ n ∷ [])
offsets-more [] n h k = (k, tt)
offsets-more (e ∷ es) n h k = (h.0, offsets-more es n h.1 k)

rising-on : (e : Float) (es : List Float) (n : Float) → RisingFrom e es → T (Ieee.lt (last_end (e ∷ es)) n) → RisingFrom e (es ++ n ∷ [])
rising-on e [] n h l = (l, tt)
rising-on e (f ∷ es) n h l = (h.0, rising-on f es n h.1 (rw (last-next e f es) at l))

pub rising-more : (es : List Float) (n : Float) → Rising es → T (Ieee.lt (last_end es) n) → Rising (es ++ n ∷ [])
rising-more [] n h l = tt
rising-more (e ∷ es) n h l = rising-on e es n h l

-- ---- some fewer

-- what is left of ends that began at e
pub record Left (e : Float) (es : List Float) : Type 0 where
  pub some : 0 < length es
  pub offsets : Offsets es
  pub rises : Rising es
  pub on : T (Ieee.le e (first_end es))

left-from : (x e : Float) (es : List Float) → Offsets (e ∷ es) → RisingFrom e es → Left e (drop_ends_from x e es)
unfolding drop_ends_from
left-from x e [] h r = record { some = omega arith; offsets = h; rises = r; on = le_refl e (finite-real e h.0.is_finite) }
left-from x e (f ∷ es) h r = pick (Ieee.lt f x) (left-from x f es h.1 r.1)
  where
    pick : (b : Bool) → Left f (drop_ends_from x f es) → Left e (cond b (drop_ends_from x f es) (e ∷ f ∷ es))
    pick true d = record { some = d.some; offsets = d.offsets; rises = d.rises; on = le_trans e f (first_end (drop_ends_from x f es)) (lt→le e f r.0) d.on }
    pick false d = record { some = omega arith; offsets = h; rises = r; on = le_refl e (finite-real e h.0.is_finite) }

pub ends-left : (x : Float) (es : List Float) → 0 < length es → Offsets es → Rising es → Left (first_end es) (drop_ends x es)
unfolding drop_ends
ends-left x [] z h r = absurd (not-suc-le-zero z)
ends-left x (e ∷ es) z h r = left-from x e es h r
