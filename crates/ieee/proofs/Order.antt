-- `le`, `lt` and `eq` on the floats that are no NaN: a total preorder. No format is asked: the laws hold of every `Float`.
-- Where a test is true its operands are no NaN, so only what follows from a test that is false asks `real`.
use mathlib.Core.Path.{◌≡◌, refl, sym, subst}
use mathlib.Core.Logic.{◌⊎◌, inl, inr}
use Prim.Native.Nat.{ℕ, ◌+◌, ◌*◌, ◌≤◌, ◌<◌}
use native.Mathlib.Nat.{le_of_lt, eq-or-lt_of_le, le_of_eq, mul_comm, mul_assoc, mul_left_comm, add-mul, zero-mul, mul-le-mul_right, le_of_mul-le-mul_right}
use native.Mathlib.Omega.{arith}
use mathlib.Core.Bool.{Bool, true, false, not, ◌&&◌, ◌||◌}
use lib.Dec.{T, eqb, ltb→lt, lt→ltb, eqb→eq, T_not, not_T}
use lib.Ieee.{Float, nan, inf, fin, up, down, below, level, lt, le, eq, ne}
use lib.Ieee.Fits.{eq→eqb, and_i, and_l, and_r}
use lib.Ieee.Scale.{finite}
use lib.Ieee.Positive.{den, den_pos}
use Rattle.ieee.specs.Number.{real}

-- ---- tests
pub or_split : (a b : Bool) → T (a || b) → T a ⊎ T b
or_split true b t = inl tt
or_split false b t = inr t

pub or_l : (a b : Bool) → T a → T (a || b)
or_l true b t = tt
or_l false b t = absurd t

pub or_r : (a b : Bool) → T b → T (a || b)
or_r true b t = tt
or_r false b t = t

test-eq : (a b : ℕ) → a ≡ b → T (eqb a b)
test-eq a b e = eq→eqb e

-- ---- ±a as the difference of two natural numbers, one of which is 0: so that the order of signed numbers is linear arithmetic
abbrev pub plus : Bool → ℕ → ℕ
plus false a = a
plus true a = 0

abbrev pub less : Bool → ℕ → ℕ
less false a = 0
less true a = a

pub plus-mul : (s : Bool) (a k : ℕ) → plus s (a * k) ≡ plus s a * k
plus-mul false a k = refl
plus-mul true a k = sym (zero-mul k)

pub less-mul : (s : Bool) (a k : ℕ) → less s (a * k) ≡ less s a * k
less-mul false a k = sym (zero-mul k)
less-mul true a k = refl

abbrev Leq : Bool → ℕ → Bool → ℕ → Type 0
Leq s a t b = plus s a + less t b ≤ plus t b + less s a

below→ : (s : Bool) (a : ℕ) (t : Bool) (b : ℕ) → T (below s a t b) → plus s a + less t b < plus t b + less s a
below→ false a false b h = omega (arith, ltb→lt a b h)
below→ false a true b h = absurd h
below→ true a false b h = omega (arith, ltb→lt 0 (a + b) h)
below→ true a true b h = omega (arith, ltb→lt b a h)

→below : (s : Bool) (a : ℕ) (t : Bool) (b : ℕ) → plus s a + less t b < plus t b + less s a → T (below s a t b)
→below false a false b h = lt→ltb a b (omega arith)
→below false a true b h = let z : ⊥ = omega arith in absurd z
→below true a false b h = lt→ltb 0 (a + b) (omega arith)
→below true a true b h = lt→ltb b a (omega arith)

level→ : (s : Bool) (a : ℕ) (t : Bool) (b : ℕ) → T (level s a t b) → plus s a + less t b ≡ plus t b + less s a
level→ false a false b h = omega (arith, eqb→eq a b (and_l (eqb a b) true h))
level→ false a true b h = omega (arith, eqb→eq a b (and_l (eqb a b) (eqb a 0) h), eqb→eq a 0 (and_r (eqb a b) (eqb a 0) h))
level→ true a false b h = omega (arith, eqb→eq a b (and_l (eqb a b) (eqb a 0) h), eqb→eq a 0 (and_r (eqb a b) (eqb a 0) h))
level→ true a true b h = omega (arith, eqb→eq a b (and_l (eqb a b) true h))

→level : (s : Bool) (a : ℕ) (t : Bool) (b : ℕ) → plus s a + less t b ≡ plus t b + less s a → T (level s a t b)
→level false a false b h = and_i (eqb a b) true (test-eq a b (omega arith)) tt
→level false a true b h = and_i (eqb a b) (eqb a 0) (test-eq a b (omega arith)) (test-eq a 0 (omega arith))
→level true a false b h = and_i (eqb a b) (eqb a 0) (test-eq a b (omega arith)) (test-eq a 0 (omega arith))
→level true a true b h = and_i (eqb a b) true (test-eq a b (omega arith)) tt

-- ---- a finite value as the fraction (up x - dn x) / den x
abbrev pub pos-part : Float → ℕ
pos-part nan = 0
pos-part (inf s) = 0
pos-part (fin s m e) = plus s (m * up e)

abbrev pub neg-part : Float → ℕ
neg-part nan = 0
neg-part (inf s) = 0
neg-part (fin s m e) = less s (m * up e)

-- the order of two finite values, as one of fractions
lt→cross : (x y : Float) → T (finite x) → T (finite y) → T (lt x y) → pos-part x * den y + neg-part y * den x < pos-part y * den x + neg-part x * den y
unfolding lt
lt→cross nan y p q h = absurd p
lt→cross (inf s) y p q h = absurd p
lt→cross (fin s m e) nan p q h = absurd q
lt→cross (fin s m e) (inf t) p q h = absurd q
lt→cross (fin s m e) (fin t n d) p q h =
    rw (← plus-mul s (m * up e) (down d), ← less-mul t (n * up d) (down e), ← plus-mul t (n * up d) (down e), ← less-mul s (m * up e) (down d))
    (below→ s (m * up e * down d) t (n * up d * down e) h)

cross→lt : (x y : Float) → T (finite x) → T (finite y) → pos-part x * den y + neg-part y * den x < pos-part y * den x + neg-part x * den y → T (lt x y)
unfolding lt
cross→lt nan y p q h = absurd p
cross→lt (inf s) y p q h = absurd p
cross→lt (fin s m e) nan p q h = absurd q
cross→lt (fin s m e) (inf t) p q h = absurd q
cross→lt (fin s m e) (fin t n d) p q h =
    →below s (m * up e * down d) t (n * up d * down e)
    (rw (plus-mul s (m * up e) (down d), less-mul t (n * up d) (down e), plus-mul t (n * up d) (down e), less-mul s (m * up e) (down d)) h)

eq→cross : (x y : Float) → T (finite x) → T (finite y) → T (eq x y) → pos-part x * den y + neg-part y * den x ≡ pos-part y * den x + neg-part x * den y
unfolding eq
eq→cross nan y p q h = absurd p
eq→cross (inf s) y p q h = absurd p
eq→cross (fin s m e) nan p q h = absurd q
eq→cross (fin s m e) (inf t) p q h = absurd q
eq→cross (fin s m e) (fin t n d) p q h =
    rw (← plus-mul s (m * up e) (down d), ← less-mul t (n * up d) (down e), ← plus-mul t (n * up d) (down e), ← less-mul s (m * up e) (down d))
    (level→ s (m * up e * down d) t (n * up d * down e) h)

cross→eq : (x y : Float) → T (finite x) → T (finite y) → pos-part x * den y + neg-part y * den x ≡ pos-part y * den x + neg-part x * den y → T (eq x y)
unfolding eq
cross→eq nan y p q h = absurd p
cross→eq (inf s) y p q h = absurd p
cross→eq (fin s m e) nan p q h = absurd q
cross→eq (fin s m e) (inf t) p q h = absurd q
cross→eq (fin s m e) (fin t n d) p q h =
    →level s (m * up e * down d) t (n * up d * down e)
    (rw (plus-mul s (m * up e) (down d), less-mul t (n * up d) (down e), plus-mul t (n * up d) (down e), less-mul s (m * up e) (down d)) h)

-- ---- `le` is `lt` or `eq`
pub le_split : (x y : Float) → T (le x y) → T (lt x y) ⊎ T (eq x y)
unfolding le
le_split x y h = or_split (lt x y) (eq x y) h

pub lt→le : (x y : Float) → T (lt x y) → T (le x y)
unfolding le
lt→le x y h = or_l (lt x y) (eq x y) h

pub eq→le : (x y : Float) → T (eq x y) → T (le x y)
unfolding le
eq→le x y h = or_r (lt x y) (eq x y) h

pub le→cross : (x y : Float) → T (finite x) → T (finite y) → T (le x y) → pos-part x * den y + neg-part y * den x ≤ pos-part y * den x + neg-part x * den y
le→cross x y p q h = elim (le_split x y h) [ inl l ↦ le_of_lt (lt→cross x y p q l) | inr e ↦ le_of_eq (eq→cross x y p q e) ]

pub cross→le : (x y : Float) → T (finite x) → T (finite y) → pos-part x * den y + neg-part y * den x ≤ pos-part y * den x + neg-part x * den y → T (le x y)
cross→le x y p q h = elim (eq-or-lt_of_le h) [ inl e ↦ eq→le x y (cross→eq x y p q e) | inr l ↦ lt→le x y (cross→lt x y p q l) ]

-- ---- three fractions
through : (px nx dx py ny dy pz nz dz : ℕ) → 0 < dy → px * dy + ny * dx ≤ py * dx + nx * dy → py * dz + nz * dy ≤ pz * dy + ny * dz → px * dz + nz * dx ≤ pz * dx + nx * dz
through px nx dx py ny dy pz nz dz D h k =
    let a = simp (add-mul, mul_assoc, mul_comm) at (mul-le-mul_right dz h) in
    let b = simp (add-mul, mul_assoc, mul_comm, mul_left_comm) at (mul-le-mul_right dx k) in
    le_of_mul-le-mul_right (simp (add-mul, mul_assoc, mul_comm) (omega arith)) D

-- ---- the laws
pub le-real-l : (x y : Float) → T (le x y) → T (real x)
unfolding le
le-real-l nan y h = h
le-real-l (inf s) y h = tt
le-real-l (fin s m e) y h = tt

pub le-real-r : (x y : Float) → T (le x y) → T (real y)
unfolding le
le-real-r nan y h = absurd h
le-real-r (inf s) nan h = absurd h
le-real-r (inf s) (inf t) h = tt
le-real-r (inf s) (fin t n d) h = tt
le-real-r (fin s m e) nan h = absurd h
le-real-r (fin s m e) (inf t) h = tt
le-real-r (fin s m e) (fin t n d) h = tt

-- the least and the greatest
pub inf-least : (x : Float) → T (real x) → T (le (inf true) x)
unfolding le
inf-least nan h = h
inf-least (inf true) h = tt
inf-least (inf false) h = tt
inf-least (fin s m e) h = tt

pub inf_greatest : (x : Float) → T (real x) → T (le x (inf false))
unfolding le
inf_greatest nan h = h
inf_greatest (inf true) h = tt
inf_greatest (inf false) h = tt
inf_greatest (fin s m e) h = tt

le-trans-fin : (x y z : Float) → T (finite x) → T (finite y) → T (finite z) → T (le x y) → T (le y z) → T (le x z)
le-trans-fin x y z p q r h k =
    cross→le x z p r (through (pos-part x) (neg-part x) (den x) (pos-part y) (neg-part y) (den y) (pos-part z) (neg-part z) (den z) (den_pos y) (le→cross x y p q h) (le→cross y z q r k))

pub le_trans : (x y z : Float) → T (le x y) → T (le y z) → T (le x z)
le_trans nan y z h k = absurd (le-real-l nan y h)
le_trans (inf true) y z h k = inf-least z (le-real-r y z k)
le_trans (inf false) nan z h k = absurd (le-real-l nan z k)
le_trans (inf false) (inf true) z h k = let t : ⊥ = unfold le in h in absurd t
le_trans (inf false) (inf false) z h k = k
le_trans (inf false) (fin t n d) z h k = let t : ⊥ = unfold le in h in absurd t
le_trans (fin s m e) nan z h k = absurd (le-real-l nan z k)
le_trans (fin s m e) (inf true) z h k = let t : ⊥ = unfold le in h in absurd t
le_trans (fin s m e) (inf false) nan h k = absurd (le-real-r (inf false) nan k)
le_trans (fin s m e) (inf false) (inf true) h k = let t : ⊥ = unfold le in k in absurd t
le_trans (fin s m e) (inf false) (inf false) h k = h
le_trans (fin s m e) (inf false) (fin u l c) h k = let t : ⊥ = unfold le in k in absurd t
le_trans (fin s m e) (fin t n d) nan h k = absurd (le-real-r (fin t n d) nan k)
le_trans (fin s m e) (fin t n d) (inf true) h k = let t : ⊥ = unfold le in k in absurd t
le_trans (fin s m e) (fin t n d) (inf false) h k = inf_greatest (fin s m e) tt
le_trans (fin s m e) (fin t n d) (fin u l c) h k = le-trans-fin (fin s m e) (fin t n d) (fin u l c) tt tt tt h k

-- `lt` is the reverse of `le`, where neither is a NaN
-- `lt x y` and `le y x` are not both true
pub lt_not_le : (x y : Float) → T (lt x y) → T (le y x) → ⊥
lt_not_le nan y h k = unfold lt in h
lt_not_le (inf s) nan h k = unfold lt in h
lt_not_le (inf true) (inf true) h k = unfold lt in h
lt_not_le (inf true) (inf false) h k = unfold le in k
lt_not_le (inf false) (inf t) h k = unfold lt in h
lt_not_le (inf true) (fin t n d) h k = unfold le in k
lt_not_le (inf false) (fin t n d) h k = unfold lt in h
lt_not_le (fin s m e) nan h k = unfold lt in h
lt_not_le (fin s m e) (inf true) h k = unfold lt in h
lt_not_le (fin s m e) (inf false) h k = unfold le in k
lt_not_le (fin s m e) (fin t n d) h k = clash _ _ (lt→cross (fin s m e) (fin t n d) tt tt h) (le→cross (fin t n d) (fin s m e) tt tt k)
  where
    clash : (a b : ℕ) → a < b → b ≤ a → ⊥
    clash a b h k = omega arith

-- what a test that is false says
pub not-lt : (x y : Float) → T (real x) → T (real y) → T (not (lt x y)) → T (le y x)
not-lt nan y p q h = absurd p
not-lt (inf s) nan p q h = absurd q
not-lt (inf true) (inf true) p q h = unfold le in tt
not-lt (inf true) (inf false) p q h = let t : ⊥ = unfold lt in h in absurd t
not-lt (inf false) (inf t) p q h = inf_greatest (inf t) tt
not-lt (inf true) (fin t n d) p q h = let t : ⊥ = unfold lt in h in absurd t
not-lt (inf false) (fin t n d) p q h = inf_greatest (fin t n d) tt
not-lt (fin s m e) nan p q h = absurd q
not-lt (fin s m e) (inf true) p q h = inf-least (fin s m e) tt
not-lt (fin s m e) (inf false) p q h = let t : ⊥ = unfold lt in h in absurd t
not-lt (fin s m e) (fin t n d) p q h = cross→le (fin t n d) (fin s m e) tt tt (other _ _ λ l. T_not (lt (fin s m e) (fin t n d)) h (cross→lt (fin s m e) (fin t n d) tt tt l))
  where
    other : (a b : ℕ) → ¬ (a < b) → b ≤ a
    other a b h = omega arith

pub not-le : (x y : Float) → T (real x) → T (real y) → T (not (le x y)) → T (lt y x)
not-le x y p q h = go (lt y x) (not-lt y x q p)
  where
    go : (b : Bool) → (T (not b) → T (le x y)) → T b
    go true k = tt
    go false k = absurd (T_not (le x y) h (k tt))

pub le_refl : (x : Float) → T (real x) → T (le x x)
le_refl x p = go (lt x x) (lt→le x x) (not-lt x x p p)
  where
    go : (b : Bool) → (T b → T (le x x)) → (T (not b) → T (le x x)) → T (le x x)
    go true h k = h tt
    go false h k = k tt

pub le_total : (x y : Float) → T (real x) → T (real y) → T (le x y) ⊎ T (le y x)
le_total x y p q = go (lt x y) (lt→le x y) (not-lt x y p q)
  where
    go : (b : Bool) → (T b → T (le x y)) → (T (not b) → T (le y x)) → T (le x y) ⊎ T (le y x)
    go true h k = inl (h tt)
    go false h k = inr (k tt)

pub lt-or-le : (x y : Float) → T (real x) → T (real y) → T (lt x y) ⊎ T (le y x)
lt-or-le x y p q = go (lt x y) (not-lt x y p q)
  where
    go : (b : Bool) → (T (not b) → T (le y x)) → T b ⊎ T (le y x)
    go true k = inl tt
    go false k = inr (k tt)

pub lt-real-l : (x y : Float) → T (lt x y) → T (real x)
lt-real-l x y h = le-real-l x y (lt→le x y h)

pub lt-real-r : (x y : Float) → T (lt x y) → T (real y)
lt-real-r x y h = le-real-r x y (lt→le x y h)

pub lt_irrefl : (x : Float) → T (lt x x) → ⊥
lt_irrefl x h = lt_not_le x x h (lt→le x x h)

pub lt-le-trans : (x y z : Float) → T (lt x y) → T (le y z) → T (lt x z)
lt-le-trans x y z h k = not-le z x (le-real-r y z k) (lt-real-l x y h) (not_T (le z x) λ t. lt_not_le x y h (le_trans y z x k t))

pub le_lt_trans : (x y z : Float) → T (le x y) → T (lt y z) → T (lt x z)
le_lt_trans x y z h k = not-le z x (lt-real-r y z k) (le-real-l x y h) (not_T (le z x) λ t. lt_not_le y z k (le_trans z x y t h))

pub lt_trans : (x y z : Float) → T (lt x y) → T (lt y z) → T (lt x z)
lt_trans x y z h k = lt-le-trans x y z h (lt→le y z k)

pub lt-asym : (x y : Float) → T (lt x y) → T (lt y x) → ⊥
lt-asym x y h k = lt_not_le x y h (lt→le y x k)

-- ---- `eq` is `le` both ways
pub eq-sym : (x y : Float) → T (eq x y) → T (eq y x)
unfolding eq
eq-sym nan y h = absurd h
eq-sym (inf s) nan h = absurd h
eq-sym (inf true) (inf true) h = tt
eq-sym (inf true) (inf false) h = absurd h
eq-sym (inf false) (inf true) h = absurd h
eq-sym (inf false) (inf false) h = tt
eq-sym (inf s) (fin t n d) h = absurd h
eq-sym (fin s m e) nan h = absurd h
eq-sym (fin s m e) (inf t) h = absurd h
eq-sym (fin s m e) (fin t n d) h = cross→eq (fin t n d) (fin s m e) tt tt (sym (eq→cross (fin s m e) (fin t n d) tt tt h))

pub eq→ge : (x y : Float) → T (eq x y) → T (le y x)
eq→ge x y h = eq→le y x (eq-sym x y h)

pub eq-real-l : (x y : Float) → T (eq x y) → T (real x)
eq-real-l x y h = le-real-l x y (eq→le x y h)

pub eq-real-r : (x y : Float) → T (eq x y) → T (real y)
eq-real-r x y h = le-real-r x y (eq→le x y h)

pub le_antisym : (x y : Float) → T (le x y) → T (le y x) → T (eq x y)
le_antisym x y h k = elim (le_split x y h) [ inl l ↦ absurd (lt_not_le x y l k) | inr e ↦ e ]

pub eq_refl : (x : Float) → T (real x) → T (eq x x)
eq_refl x p = le_antisym x x (le_refl x p) (le_refl x p)

pub eq_trans : (x y z : Float) → T (eq x y) → T (eq y z) → T (eq x z)
eq_trans x y z h k = le_antisym x z (le_trans x y z (eq→le x y h) (eq→le y z k)) (le_trans z y x (eq→ge y z k) (eq→ge x y h))

pub lt-not-eq : (x y : Float) → T (lt x y) → T (eq x y) → ⊥
lt-not-eq x y h k = lt_not_le x y h (eq→ge x y k)

pub le-ne→lt : (x y : Float) → T (le x y) → T (not (eq x y)) → T (lt x y)
le-ne→lt x y h k = elim (le_split x y h) [ inl l ↦ l | inr e ↦ absurd (T_not (eq x y) k e) ]

-- ---- the tests as Bools: what `if` finds, and equal numbers in place of each other
pub bool-ext : (a b : Bool) → (T a → T b) → (T b → T a) → a ≡ b
bool-ext true true h k = refl
bool-ext true false h k = absurd (h tt)
bool-ext false true h k = absurd (k tt)
bool-ext false false h k = refl

pub of-true : {b : Bool} → b ≡ true → T b
of-true e = subst T (sym e) tt

pub of-false : {b : Bool} → b ≡ false → T (not b)
of-false e = subst (λ (b : Bool). T (not b)) (sym e) tt

pub lt-is : (x y : Float) → T (real x) → T (real y) → lt x y ≡ not (le y x)
lt-is x y p q = bool-ext (lt x y) (not (le y x)) (λ h. not_T (le y x) (lt_not_le x y h)) (not-le y x q p)

pub le_is : (x y : Float) → T (real x) → T (real y) → le x y ≡ not (lt y x)
le_is x y p q = bool-ext (le x y) (not (lt y x)) (λ h. not_T (lt y x) (λ l. lt_not_le y x l h)) (not-lt y x q p)

pub eq_is : (x y : Float) → eq x y ≡ (le x y && le y x)
eq_is x y = bool-ext (eq x y) (le x y && le y x) (λ h. and_i (le x y) (le y x) (eq→le x y h) (eq→ge x y h)) (λ h. le_antisym x y (and_l (le x y) (le y x) h) (and_r (le x y) (le y x) h))

pub le-cong : (x x' y y' : Float) → T (eq x x') → T (eq y y') → le x y ≡ le x' y'
le-cong x x' y y' h k =
    bool-ext (le x y) (le x' y')
    (λ l. le_trans x' x y' (eq→ge x x' h) (le_trans x y y' l (eq→le y y' k)))
    (λ l. le_trans x x' y (eq→le x x' h) (le_trans x' y' y l (eq→ge y y' k)))

pub lt-cong : (x x' y y' : Float) → T (eq x x') → T (eq y y') → lt x y ≡ lt x' y'
lt-cong x x' y y' h k =
    bool-ext (lt x y) (lt x' y')
    (λ l. le_lt_trans x' x y' (eq→ge x x' h) (lt-le-trans x y y' l (eq→le y y' k)))
    (λ l. le_lt_trans x x' y (eq→le x x' h) (lt-le-trans x' y' y l (eq→ge y y' k)))

pub eq-cong : (x x' y y' : Float) → T (eq x x') → T (eq y y') → eq x y ≡ eq x' y'
eq-cong x x' y y' h k =
    bool-ext (eq x y) (eq x' y')
    (λ l. eq_trans x' x y' (eq-sym x x' h) (eq_trans x y y' l k))
    (λ l. eq_trans x x' y h (eq_trans x' y' y l (eq-sym y y' k)))

-- `x != y`, and `x > y`, which code has as `y < x`
pub ne-is : (x y : Float) → ne x y ≡ not (eq x y)
unfolding ne
ne-is x y = refl
