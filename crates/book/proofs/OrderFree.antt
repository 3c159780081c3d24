-- The order of limits does not matter to the smallest of what holds, to the bit.
use mathlib.Core.Path.{◌≡◌, refl, sym, ap, ◌∙◌, subst}
use mathlib.Core.Bool.{Bool, true, false, cond, ◌&&◌}
use mathlib.Core.List.{List, ◌∷◌, Permᴰ}
use lib.Dec.{T}
use lib.Ieee.{Float, binary64, fits}
use Rattle.ieee.specs.Number.{real}
use Rattle.ieee.specs.Speed.{min_speed}
use Rattle.ieee.proofs.Speed.{min_speed-real, min_speed-assoc, min_speed-flip}
use Rattle.link.specs.Table.{Limit}
use Rattle.path_speeds.specs.Limits.{lowers, cons_if}
use Rattle.book.specs.Claims.{covers_at, holding_at, smallest_of}
use Rattle.book.specs.LimitsEnd.{SpeedsF64, OrderFree}

-- a speed that is a number of binary64
abbrev SpeedF64 : Limit → Type 0
SpeedF64 l = T (fits binary64 l.value) × T (real l.value)

-- two speeds, in either order
swapped : (u : Float) (k l : Limit) → T (real u) → SpeedF64 k → SpeedF64 l
    → min_speed (min_speed u k.value) l.value ≡ min_speed (min_speed u l.value) k.value
swapped u k l h a b =
    let v = k.value in
    let w = l.value in
    min_speed-assoc u v w h a.1 b.1
    ∙ ap (min_speed u) (min_speed-flip binary64 v w a.0 b.0 a.1 b.1)
    ∙ sym (min_speed-assoc u w v h b.1 a.1)

-- limits keep their speeds in another order
speeds-perm : {ls ms : List Limit} → Permᴰ ls ms → SpeedsF64 ls → SpeedsF64 ms
speeds-perm Permᴰ.nil s = s
speeds-perm (Permᴰ.cons e d) s = (subst SpeedF64 e s.0, speeds-perm d s.1)
speeds-perm (Permᴰ.swap e f) s = (subst SpeedF64 f s.1.0, (subst SpeedF64 e s.0, s.1.1))
speeds-perm (Permᴰ.trans d e) s = speeds-perm e (speeds-perm d s)

module _ (top x : Float) where
  -- the smallest of u and of what holds
  abbrev from : Float → List Limit → Float
  from u ls = smallest_of u (holding_at top ls x)

  -- the first limit, if it holds
  abbrev first : Bool → Float → Limit → Float
  first b u l = cond b (min_speed u l.value) u

  first-real : (b : Bool) (u : Float) (l : Limit) → T (real u) → SpeedF64 l → T (real (first b u l))
  first-real true u l h s = min_speed-real u l.value h s.1
  first-real false u l h s = h

  abbrev holds : Limit → Bool
  holds l = lowers top l && covers_at l x

  one : (u : Float) (l : Limit) (ls : List Limit) → from u (l ∷ ls) ≡ from (first (holds l) u l) ls
  one u l ls = pick (holds l)
    where
      pick : (b : Bool) → smallest_of u (cons_if b l (holding_at top ls x)) ≡ smallest_of (first b u l) (holding_at top ls x)
      pick true = refl
      pick false = refl

  first-swap : (a b : Bool) (u : Float) (k l : Limit) → T (real u) → SpeedF64 k → SpeedF64 l → first b (first a u k) l ≡ first a (first b u l) k
  first-swap true true u k l h s t = swapped u k l h s t
  first-swap true false u k l h s t = refl
  first-swap false true u k l h s t = refl
  first-swap false false u k l h s t = refl

  reordered : {ls ms : List Limit} → Permᴰ ls ms → SpeedsF64 ls → (u : Float) → T (real u) → from u ls ≡ from u ms
  reordered Permᴰ.nil s u h = refl
  reordered (Permᴰ.cons {a = k} {b = l} {l₁ = ls} {l₂ = ms} e d) s u h =
      one u k ls ∙ reordered d s.1 (first (holds k) u k) (first-real (holds k) u k h s.0)
      ∙ ap (λ (m : Limit). from (first (holds m) u m) ms) e ∙ sym (one u l ms)
  reordered (Permᴰ.swap {a = k} {b = l} {a' = l'} {l = ls} e f) s u h =
      one u k (l ∷ ls) ∙ one (first (holds k) u k) l ls
      ∙ ap (λ (y : Float). from y ls) (first-swap (holds k) (holds l) u k l h s.0 s.1.0)
      ∙ sym (one (first (holds l) u l) k ls) ∙ sym (one u l (k ∷ ls))
      ∙ ap (λ (m : Limit). from u (m ∷ k ∷ ls)) f ∙ ap (λ (m : Limit). from u (l' ∷ m ∷ ls)) e
  reordered (Permᴰ.trans d e) s u h = reordered d s u h ∙ reordered e (speeds-perm d s) u h

pub order-free : OrderFree
order-free top h ls ms s d x = reordered top x d s top h
