-- The smallest of what holds at an offset: with one limit more, and what its size is.
use mathlib.Core.Path.{◌≡◌, refl, sym, ap, ◌∙◌, subst}
use mathlib.Core.Logic.{◌⊎◌, inl, inr}
use mathlib.Core.Bool.{Bool, true, false, cond, ◌&&◌}
use mathlib.Core.List.{List, [], ◌∷◌, ◌++◌, Memᴰ}
use lib.Dec.{T}
use lib.Ieee as Ieee
use lib.Ieee.{Float}
use lib.Ieee.Bits.{is_true}
use Rattle.ieee.specs.Number.{real, size}
use Rattle.ieee.specs.Speed.{min_speed}
use Rattle.ieee.proofs.Order.{le_trans, le_refl, of-true}
use Rattle.ieee.proofs.Sizes.{real-size}
use Rattle.ieee.proofs.Speed.{min_speed-real, min_speed-le-l, min_speed-le-r, min_speed-is}
use Rattle.speed_laws.specs.Words.{held_to}
use Rattle.link.specs.Table.{Limit}
use Rattle.path_speeds.specs.Limits.{lowers, cons_if}
use Rattle.book.specs.Claims.{covers_at, holding_at, smallest_of, smallest_at}

-- ---- one limit more

module _ (top x : Float) where
  abbrev holds : Limit → Bool
  holds l = lowers top l && covers_at l x

  holding-append : (ls ms : List Limit) → holding_at top (ls ++ ms) x ≡ holding_at top ls x ++ holding_at top ms x
  holding-append [] ms = refl
  holding-append (l ∷ ls) ms = pick (holds l) (holding-append ls ms)
    where
      pick : (b : Bool) → holding_at top (ls ++ ms) x ≡ holding_at top ls x ++ holding_at top ms x
          → cons_if b l (holding_at top (ls ++ ms) x) ≡ cons_if b l (holding_at top ls x) ++ holding_at top ms x
      pick true h = ap (λ (k : List Limit). l ∷ k) h
      pick false h = h

  smallest-append : (u : Float) (ls ms : List Limit) → smallest_of u (ls ++ ms) ≡ smallest_of (smallest_of u ls) ms
  smallest-append u [] ms = refl
  smallest-append u (l ∷ ls) ms = smallest-append (min_speed u l.value) ls ms

  module _ (ls : List Limit) (l : Limit) where
    smallest-more : smallest_at top (ls ++ l ∷ []) x ≡ smallest_of (smallest_at top ls x) (holding_at top (l ∷ []) x)
    smallest-more = ap (smallest_of top) (holding-append ls (l ∷ [])) ∙ smallest-append top (holding_at top ls x) (holding_at top (l ∷ []) x)

    -- it is laid, or not
    pub smallest-laid : lowers top l ≡ true → smallest_at top (ls ++ l ∷ []) x ≡ held_to l.start l.end l.value x (smallest_at top ls x)
    smallest-laid h = smallest-more ∙ rw h (pick (covers_at l x) (smallest_at top ls x))
      where
        pick : (b : Bool) (m : Float) → smallest_of m (cons_if b l []) ≡ cond b (min_speed m l.value) m
        pick true m = refl
        pick false m = refl

    pub smallest-passed : lowers top l ≡ false → smallest_at top (ls ++ l ∷ []) x ≡ smallest_at top ls x
    smallest-passed h = smallest-more ∙ rw h

  -- ---- what holds

  pub holding-in : (l : Limit) (ls : List Limit) → Memᴰ l ls → T (lowers top l) → T (covers_at l x) → Memᴰ l (holding_at top ls x)
  holding-in l [] m b c = elim m [ ]
  holding-in l (k ∷ ls) (Memᴰ.head e) b c =
      let below = is_true (lowers top k) (subst (λ (m : Limit). T (lowers top m)) e b) in
      let covered = is_true (covers_at k x) (subst (λ (m : Limit). T (covers_at m x)) e c) in
      rw (below, covered) (Memᴰ.head e)
  holding-in l (k ∷ ls) (Memᴰ.tail m) b c = pick (holds k) (holding-in l ls m b c)
    where
      pick : (t : Bool) → Memᴰ l (holding_at top ls x) → Memᴰ l (cons_if t k (holding_at top ls x))
      pick true h = Memᴰ.tail h
      pick false h = h

  pub holding-out : (l : Limit) (ls : List Limit) → Memᴰ l (holding_at top ls x) → Memᴰ l ls × T (holds l)
  holding-out l [] m = elim m [ ]
  holding-out l (k ∷ ls) m = pick (holds k) refl (λ n. (Memᴰ.tail (holding-out l ls n).0, (holding-out l ls n).1)) m
    where
      pick : (t : Bool) → holds k ≡ t → (Memᴰ l (holding_at top ls x) → Memᴰ l (k ∷ ls) × T (holds l))
          → Memᴰ l (cons_if t k (holding_at top ls x)) → Memᴰ l (k ∷ ls) × T (holds l)
      pick true h later (Memᴰ.head e) = (Memᴰ.head e, subst (λ (m : Limit). T (holds m)) (sym e) (of-true h))
      pick true h later (Memᴰ.tail n) = later n
      pick false h later n = later n

-- ---- its size

-- each of the limits has a number
abbrev pub Numbers : List Limit → Type 0
Numbers ls = (l : Limit) → Memᴰ l ls → T (real l.value)

first-number : (l : Limit) (ls : List Limit) → Numbers (l ∷ ls) → T (real l.value)
first-number l ls n = n l (Memᴰ.head refl)

later-numbers : (l : Limit) (ls : List Limit) → Numbers (l ∷ ls) → Numbers ls
later-numbers l ls n k m = n k (Memᴰ.tail m)

-- at most that of the first
pub smallest-first : (u : Float) (ls : List Limit) → T (real u) → Numbers ls → T (Ieee.le (size (smallest_of u ls)) (size u))
smallest-first u [] h n = le_refl (size u) (rw (real-size u) h)
smallest-first u (l ∷ ls) h n =
    let v = l.value in
    let r = first-number l ls n in
    let m = min_speed u v in
    le_trans (size (smallest_of m ls)) (size m) (size u) (smallest-first m ls (min_speed-real u v h r) (later-numbers l ls n)) (min_speed-le-l u v h r)

-- at most that of each limit
pub smallest-each : (u : Float) (ls : List Limit) → T (real u) → Numbers ls → (l : Limit) → Memᴰ l ls
    → T (Ieee.le (size (smallest_of u ls)) (size l.value))
smallest-each u [] h n l m = elim m [ ]
smallest-each u (k ∷ ls) h n l (Memᴰ.head e) =
    let v = k.value in
    let r = first-number k ls n in
    let m = min_speed u v in
    rw e (le_trans (size (smallest_of m ls)) (size m) (size v) (smallest-first m ls (min_speed-real u v h r) (later-numbers k ls n)) (min_speed-le-r u v h r))
smallest-each u (k ∷ ls) h n l (Memᴰ.tail m) =
    smallest-each (min_speed u k.value) ls (min_speed-real u k.value h (first-number k ls n)) (later-numbers k ls n) l m

-- and that of one of them
pub smallest-is : (u : Float) (ls : List Limit)
    → (size (smallest_of u ls) ≡ size u) ⊎ ((l : Limit) × Memᴰ l ls × (size (smallest_of u ls) ≡ size l.value))
smallest-is u [] = inl refl
smallest-is u (k ∷ ls) = elim (smallest-is (min_speed u k.value) ls) [
  | inl e ↦ elim (min_speed-is u k.value) [ inl m ↦ inl (e ∙ m) | inr m ↦ inr (k, Memᴰ.head refl, e ∙ m) ]
  | inr e ↦ inr (e.0, Memᴰ.tail e.1, e.2)
]
