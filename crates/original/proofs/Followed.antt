-- A run of the original in a column: the points that are in it, each limit laid, the drop, and the speed at an offset, point by point.
use Prim.Native.Nat.{ℕ, ◌+◌, ◌-◌, ◌*◌, ◌≤◌, ◌<◌}
use native.Mathlib.Omega.{arith}
use native.Mathlib.Numerals.{add-one}
use borrow.Author.Tests.{lt-ltb, le-leb, lt-leb}
use mathlib.Core.Path.{◌≡◌, refl, sym, ap, ◌∙◌, subst}
use mathlib.Core.Bool.{true, false, cond}
use mathlib.Core.List.{List, [], ◌∷◌}
use lib.Dec.{leb}
use lib.ListN.{length, get_or, drop, drop_of_length-le, length-set}
use lib.Seq.{drop-cons}
use lib.Ieee as Ieee
use lib.Ieee.{Float}
use Rattle.ieee.specs.Number.{+0}
use Rattle.column.specs.Entries.{zero_from, move_front}
use Rattle.column.specs.Records.{records, put_record, two}
use Rattle.speed.specs.declared.laid.Laid.{Laid}
use Rattle.speed.specs.Points.{Point, point, nowhere, offset_at, speed_at, set_offset}
use Rattle.speed.specs.Column.{points, Holds, Leaves}
use Rattle.speed.specs.Insert.{first_from}
use Rattle.speed.specs.Clear.{move_to}
use Rattle.speed.specs.Posted.{passed, posted}
use Rattle.speed.proofs.PointColumn.{length-points, holds-points, holds-again, leaves_at, next-moved, next-zeroed, one-held}
use Rattle.speed.proofs.InsertSteps.{first-le}
use Rattle.original.specs.Original.{insert_original, clear_original, points_in, follow, follow_all}

-- ---- no points

points-zero : (c : List Float) → points 0 c ≡ []
unfolding records
points-zero c = refl

-- in a column of zeros
pub none-held : (c d : List Float) → d ≡ zero_from +0 0 c → Leaves d 0 []
none-held c d z = record { count = refl; holds = subst (Holds d) (points-zero d) (next-zeroed c d 0 (omega arith) z).1 }

-- where the count is 0
pub none_kept : (c : List Float) (m : ℕ) → m ≡ 0 → Holds c (points m c) → Leaves c 0 []
none_kept c m q h = record { count = refl; holds = subst (Holds c) (ap (λ (k : ℕ). points k c) q ∙ points-zero c) h }

-- ---- the points of a column

module _ (c d : List Float) (n : ℕ) where
  pub too_short : length c < 2 * n → d ≡ zero_from +0 0 c → Leaves d 0 (points_in n c)
  unfolding points_in
  too_short h z = rw (lt-leb (2 * n) (length c) h) (none-held c d z)

  pub long-enough : 2 * n ≤ length c → d ≡ zero_from +0 (2 * n) c → Leaves d n (points_in n c)
  unfolding points_in
  long-enough h z =
      let held = next-zeroed c d n h z in
      rw (le-leb (2 * n) (length c) h) (record { count = sym (length-points n c); holds = subst (Holds d) held.0 held.1 })

pub points-there : (c : List Float) (n : ℕ) → 2 * n ≤ length c → points_in n c ≡ points n c
unfolding points_in
points-there c n h = rw (le-leb (2 * n) (length c) h)

pub points-missing : (c : List Float) (n : ℕ) → length c < 2 * n → points_in n c ≡ []
unfolding points_in
points-missing c n h = rw (lt-leb (2 * n) (length c) h)

-- the first point, z is the column c zeroed
module _ (x top : Float) (c : List Float) {z : List Float} (zeroed : z ≡ zero_from +0 0 c) where
  pub no_room : length c < 2 → Leaves z 0 (cond (leb 2 (length c)) (point x top ∷ []) [])
  no_room h = rw (lt-leb 2 (length c) h) (none-held c z zeroed)

  pub begun : {d : List Float} → 2 ≤ length c → d ≡ put_record two z 0 (record { 0 = x; 1 = top }) → Leaves d 1 (cond (leb 2 (length c)) (point x top ∷ []) [])
  begun h put = rw (le-leb 2 (length c) h) (record { count = refl; holds = rw (put, zeroed) (one-held c (record { 0 = x; 1 = top }) h) })

-- ---- limits

module _ (room : ℕ) (ps : List Point) (s e v : Float) where
  pub follow-none : length ps ≡ 0 → follow room ps s e v ≡ []
  unfolding follow
  follow-none q = rw q

  pub follow-full : 0 < length ps → room < 2 * (length ps + 2) → follow room ps s e v ≡ []
  unfolding follow
  follow-full h l = rw (lt-ltb 0 (length ps) h, lt-leb (2 * (length ps + 2)) room l)

  pub follow_one : 0 < length ps → 2 * (length ps + 2) ≤ room → follow room ps s e v ≡ insert_original ps s e v
  unfolding follow
  follow_one h l = rw (lt-ltb 0 (length ps) h, le-leb (2 * (length ps + 2)) room l)

module _ (room : ℕ) (ls : List Laid) (ps : List Point) where
  follow-next : (l : Laid) (rest : List Laid) → ls ≡ l ∷ rest → follow_all room ls ps ≡ follow_all room rest (follow room ps l.start l.end l.value)
  unfolding follow_all
  follow-next l rest e = ap (λ (ks : List Laid). follow_all room ks ps) e

  follow-end : ls ≡ [] → follow_all room ls ps ≡ ps
  unfolding follow_all
  follow-end e = ap (λ (ks : List Laid). follow_all room ks ps) e

-- Laying in a loop: the column c, as long as c₀, holds m points, and with the limits `ls` that are left they become `goal`.
pub record Laying (c₀ : List Float) (goal : List Point) (ls : List Laid) (c : List Float) (m : ℕ) : Type 0 where
  pub same : length c ≡ length c₀
  pub held : Holds c (points m c)
  pub is : follow_all (length c₀) ls (points m c) ≡ goal

module _ (c₀ : List Float) (goal : List Point) (ls : List Laid) (c : List Float) (m : ℕ) (g : Laying c₀ goal ls c m) where
  pub laying-next : (l : Laid) (rest : List Laid) {d : List Float} {r : ℕ} → ls ≡ l ∷ rest
      → Leaves d r (follow (length c) (points m c) l.start l.end l.value)
      → length d ≡ length c
      → Laying c₀ goal rest d r
  laying-next l rest {d} {r} e left kept =
      let laid : ℕ → List Point = λ room. follow room (points m c) l.start l.end l.value in
      record {
        same = kept ∙ g.same;
        held = holds-again d (laid (length c)) r left.holds left.count;
        is = ap (follow_all (length c₀) rest) (holds-points d (laid (length c)) r left.holds left.count ∙ ap laid g.same) ∙ sym (follow-next (length c₀) ls (points m c) l rest e) ∙ g.is;
      }

  pub laying-end : ls ≡ [] → Leaves c m goal
  laying-end e = leaves_at c m (points m c) goal (record { count = sym (length-points m c); holds = g.held }) (sym (follow-end (length c₀) ls (points m c) e) ∙ g.is)

-- ---- the drop: k is the first of m points at or past x, and d the column c with the points from there on at its front

first-set : (x : Float) (ps : List Point) → set_offset 0 x ps ≡ move_to x ps
first-set x [] = refl
first-set x (p ∷ ps) = refl

module _ (x : Float) (c : List Float) (m k : ℕ) (first : k ≡ first_from x (points m c)) where
  pub first-most : k ≤ m
  first-most = omega (arith, first-le x (points m c), length-points m c)

  module _ (room : 2 * m ≤ length c) {d : List Float} (moved : d ≡ move_front +0 (2 * k) (2 * m) c) where
    pub rest-held : Holds d (points (m - k) d)
    rest-held = (next-moved c d m k first-most room moved).1

    rest-moved : move_to x (points (m - k) d) ≡ clear_original (points m c) x
    unfolding clear_original
    rest-moved = ap (move_to x) ((next-moved c d m k first-most room moved).0 ∙ ap (λ (j : ℕ). drop j (points m c)) first)

    pub none_left : m ≤ k → Leaves d 0 (clear_original (points m c) x)
    none_left h =
        let q : m - k ≡ 0 = omega arith in
        leaves_at d 0 [] (clear_original (points m c) x) (none_kept d (m - k) q rest-held)
        (sym (ap (λ (j : ℕ). move_to x (points j d)) q ∙ ap (move_to x) (points-zero d)) ∙ rest-moved)

    pub first-pulled : (b : List Float) → Holds b (set_offset 0 x (points (m - k) d)) → Leaves b (m - k) (clear_original (points m c) x)
    first-pulled b h =
        let qs = points (m - k) d in
        leaves_at b (m - k) (set_offset 0 x qs) (clear_original (points m c) x)
        (record { count = sym (length-set qs 0 (point x (speed_at qs 0)) ∙ length-points (m - k) d); holds = h })
        (first-set x qs ∙ rest-moved)

-- ---- the speed at x, from point i on

module _ (x : Float) (ps : List Point) (i : ℕ) (u : Float) where
  module _ (h : i < length ps) where
    point-next : posted x (drop i ps) u ≡ posted x (drop (i + 1) ps) (passed x (get_or ps i nowhere) u)
    point-next = ap (λ (qs : List Point). posted x qs u) (drop-cons ps i nowhere h) ∙ rw (add-one i)

    pub point-passed : Ieee.le (offset_at ps i) x ≡ true → posted x (drop i ps) u ≡ posted x (drop (i + 1) ps) (speed_at ps i)
    point-passed t = point-next ∙ rw t

    pub point-ahead : Ieee.le (offset_at ps i) x ≡ false → posted x (drop i ps) u ≡ posted x (drop (i + 1) ps) u
    point-ahead t = point-next ∙ rw t

  pub points-end : length ps ≤ i → posted x (drop i ps) u ≡ u
  points-end h = ap (λ (qs : List Point). posted x qs u) (drop_of_length-le ps h)
