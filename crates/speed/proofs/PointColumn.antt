-- A column of points: what a read of an entry gives, and what each change of entries makes of the points that the column holds.
use Prim.Native.Nat.{ℕ, ◌+◌, ◌-◌, ◌*◌, ◌≤◌, ◌<◌}
use native.Mathlib.Omega.{arith}
use mathlib.Core.Path.{◌≡◌, refl, sym, ap, ◌∙◌, subst}
use mathlib.Core.List.{List, [], ◌∷◌}
use lib.ListN.{length, get_or, take, drop, set, length-drop, length-set}
use lib.Seq.{set-get_or, get_or-set_other}
use lib.Ieee.{Float, nan}
use Rattle.ieee.specs.Number.{+0}
use Rattle.column.specs.declared.Two.{Two}
use Rattle.column.specs.Entries.{filled, zero_from, move_front, open_gap, close_gap, insert_at, remove_at}
use Rattle.column.specs.Records.{flat, record_at, put_record, two}
use Rattle.column.proofs.Filling.{get_d-within, length-filled, zeros-filled}
use Rattle.column.proofs.ByEntry.{two-entries, two-put}
use Rattle.column.proofs.Bridge.{Lawful, length-records, length-flat, records-flat, record-at, put-filled, push-filled, insert-filled, insert-two, remove-filled, zero-filled, move-filled}
use Rattle.speed.specs.Points.{Point, point, nowhere, offset_at, speed_at, set_speed, set_offset}
use Rattle.speed.specs.declared.speed_column.SpeedColumn.{SpeedColumn}
use Rattle.speed.specs.Column.{pair, points, Holds, Leaves}
use Rattle.speed.specs.Becomes.{points_of, Becomes}
use Rattle.speed.proofs.InsertSteps.{length_inserted, length_removed}

pub pair-lawful : Lawful pair
pair-lawful = record { length-pack = λ p. refl; unpack-pack = λ p l. refl; pack-unpack = back }
  where
    back : (l : List Float) → 2 ≤ length l → pair.pack (pair.unpack l) ≡ take 2 l
    back [] h = absurd (omega arith)
    back (a ∷ []) h = absurd (omega arith)
    back (a ∷ b ∷ l) h = refl

pub length-points : (n : ℕ) (c : List Float) → length (points n c) ≡ n
length-points n c = length-records pair pair-lawful n c

-- a list that is the first n points of a column has n points
pub count_is : (n : ℕ) (c : List Float) (ps : List Point) → points n c ≡ ps → n ≡ length ps
count_is n c ps e = sym (length-points n c) ∙ ap length e

-- ---- reads

module _ (n : ℕ) (c : List Float) (i : ℕ) (h : i < n) where
  point_at : get_or (points n c) i nowhere ≡ point (get_or c (2 * i) +0) (get_or c (2 * i + 1) +0)
  unfolding record_at
  point_at = record-at pair pair-lawful n c i nowhere h ∙ ap (λ (t : Two). point t.0 t.1) (two-entries c i)

  pub read-offset : 2 * n ≤ length c → get_or c (2 * i) nan ≡ offset_at (points n c) i
  read-offset r = get_d-within c (2 * i) nan +0 (omega arith) ∙ sym (ap (λ (p : Point). p.offset) point_at)

  pub read-speed : 2 * n ≤ length c → get_or c (2 * i + 1) nan ≡ speed_at (points n c) i
  read-speed r = get_d-within c (2 * i + 1) nan +0 (omega arith) ∙ sym (ap (λ (p : Point). p.speed) point_at)

-- ---- a column that holds points

-- from a column as long as c
holds_of : (c d : List Float) (ps : List Point) → 2 * length ps ≤ length c → d ≡ filled +0 (length c) (flat pair ps) → Holds d ps
holds_of c d ps h e =
    let n : length d ≡ length c = ap length e ∙ length-filled +0 (length c) (flat pair ps) (omega (arith, length-flat pair pair-lawful ps)) in
    record { fits = omega arith; is = e ∙ ap (λ (k : ℕ). filled +0 k (flat pair ps)) (sym n) }

pub holds-points : (c : List Float) (ps : List Point) (n : ℕ) → Holds c ps → n ≡ length ps → points n c ≡ ps
unfolding filled
holds-points c ps n h e = ap (λ (k : ℕ). points k c) e ∙ ap (points (length ps)) h.is ∙ records-flat pair pair-lawful ps _

-- what the next call asks, from what the last one gave
pub holds-again : (c : List Float) (ps : List Point) (n : ℕ) → Holds c ps → n ≡ length ps → Holds c (points n c)
holds-again c ps n h e = subst (Holds c) (sym (holds-points c ps n h e)) h

-- ---- changes

module _ (c : List Float) (n : ℕ) (held : Holds c (points n c)) where
  pub fits_points : 2 * n ≤ length c
  fits_points = omega (arith, held.fits, length-points n c)

  -- two stores
  stored : (i : ℕ) (p : Point) → i < n → Holds (set (set c (2 * i) p.offset) (2 * i + 1) p.speed) (set (points n c) i p)
  unfolding put_record
  stored i p h =
      let ps = points n c in
      let l = length-points n c in
      holds_of c _ (set ps i p) (omega (arith, fits_points, length-set ps i p))
      (sym (two-put c i (record { 0 = p.offset; 1 = p.speed }))
      ∙ ap (λ (l : List Float). put_record pair l i p) held.is
      ∙ put-filled pair pair-lawful +0 (length c) ps i p (omega arith))

  pub offset-stored : (i : ℕ) (o : Float) → i < n → Holds (set c (2 * i) o) (set_offset i o (points n c))
  offset-stored i o h =
      let v = speed_at (points n c) i in
      let other : v ≡ get_or (set c (2 * i) o) (2 * i + 1) nan = sym (get_or-set_other c (2 * i) (2 * i + 1) o nan (λ e. omega arith) ∙ read-speed n c i h fits_points) in
      let same : set (set c (2 * i) o) (2 * i + 1) v ≡ set c (2 * i) o = ap (set (set c (2 * i) o) (2 * i + 1)) other ∙ set-get_or (set c (2 * i) o) (2 * i + 1) nan in
      subst (λ (d : List Float). Holds d (set_offset i o (points n c))) same (stored i (point o v) h)

  pub speed-stored : (i : ℕ) (v : Float) → i < n → Holds (set c (2 * i + 1) v) (set_speed i v (points n c))
  speed-stored i v h =
      let o = offset_at (points n c) i in
      let same : set c (2 * i) o ≡ c = ap (set c (2 * i)) (sym (read-offset n c i h fits_points)) ∙ set-get_or c (2 * i) nan in
      subst (λ (d : List Float). Holds (set d (2 * i + 1) v) (set_speed i v (points n c))) same (stored i (point o v) h)

  pub inserted : (i : ℕ) (r : Two) → i ≤ n → 2 * (n + 1) ≤ length c → Holds (put_record two (open_gap (2 * i) (2 * n) 2 c) i r) (insert_at i (point r.0 r.1) (points n c))
  unfolding put_record
  inserted i r h room =
      let ps = points n c in
      let l = length-points n c in
      let p = point r.0 r.1 in
      holds_of c _ (insert_at i p ps) (omega (arith, length_inserted i p ps))
      (ap (λ (l : List Float). put_record pair (open_gap (2 * i) (2 * n) 2 l) i p) held.is
      ∙ ap (λ (k : ℕ). put_record pair (open_gap (2 * i) (2 * k) 2 (filled +0 (length c) (flat pair ps))) i p) (sym l)
      ∙ insert-filled pair pair-lawful +0 (length c) ps i p (omega arith) (omega arith))

  pub two-inserted : (i : ℕ) (r t : Two) → i ≤ n → 2 * (n + 2) ≤ length c
      → Holds (put_record two (put_record two (open_gap (2 * i) (2 * n) 4 c) i r) (i + 1) t) (insert_at i (point r.0 r.1) (insert_at i (point t.0 t.1) (points n c)))
  unfolding put_record
  two-inserted i r t h room =
      let ps = points n c in
      let l = length-points n c in
      let p = point r.0 r.1 in
      let q = point t.0 t.1 in
      let put : List Float → List Float = λ d. put_record pair (put_record pair d i p) (i + 1) q in
      holds_of c _ (insert_at i p (insert_at i q ps)) (omega (arith, length_inserted i p (insert_at i q ps), length_inserted i q ps))
      (ap (λ (d : List Float). put (open_gap (2 * i) (2 * n) 4 d)) held.is
      ∙ ap (λ (k : ℕ). put (open_gap (2 * i) (2 * k) 4 (filled +0 (length c) (flat pair ps)))) (sym l)
      ∙ insert-two pair pair-lawful +0 (length c) ps i p q (omega arith) (omega arith))

  pub removed : (i : ℕ) → i < n → Holds (close_gap +0 (2 * i) (2 * n) 2 c) (remove_at i (points n c))
  removed i h =
      let ps = points n c in
      let l = length-points n c in
      holds_of c _ (remove_at i ps) (omega (arith, fits_points, length_removed i ps (omega arith)))
      (ap (close_gap +0 (2 * i) (2 * n) 2) held.is
      ∙ ap (λ (k : ℕ). close_gap +0 (2 * i) (2 * k) 2 (filled +0 (length c) (flat pair ps))) (sym l)
      ∙ remove-filled pair pair-lawful +0 (length c) ps i nowhere (omega arith) (omega (arith, held.fits)))

-- the points from j on move to the front
pub moved : (c : List Float) (n j : ℕ) → j ≤ n → 2 * n ≤ length c → Holds (move_front +0 (2 * j) (2 * n) c) (drop j (points n c))
moved c n j h room = holds_of c _ (drop j (points n c)) (omega (arith, length-drop j (points n c), length-points n c)) (move-filled pair pair-lawful +0 j n c h room)

-- the entries past the points become +0
pub zeroed : (c : List Float) (n : ℕ) → 2 * n ≤ length c → Holds (zero_from +0 (2 * n) c) (points n c)
zeroed c n room = holds_of c _ (points n c) (omega (arith, length-points n c)) (zero-filled pair pair-lawful +0 n c room)

-- one point in a column of zeros
pub one-point : (c : List Float) (r : Two) → 2 ≤ length c → put_record two (zero_from +0 0 c) 0 r ≡ filled +0 (length c) (flat pair (point r.0 r.1 ∷ []))
unfolding flat put_record
one-point c r h =
    ap (λ (l : List Float). put_record two l 0 r) (zeros-filled +0 0 c (omega arith))
    ∙ push-filled pair pair-lawful +0 (length c) [] (point r.0 r.1) (omega arith)

pub one-held : (c : List Float) (r : Two) → 2 ≤ length c → Holds (put_record two (zero_from +0 0 c) 0 r) (point r.0 r.1 ∷ [])
one-held c r h = holds_of c _ (point r.0 r.1 ∷ []) (omega arith) (one-point c r h)

-- ---- what a call leaves, said of the points at entry

pub leaves_at : (c : List Float) (r : ℕ) (ps qs : List Point) → Leaves c r ps → ps ≡ qs → Leaves c r qs
leaves_at c r ps qs h e = subst (Leaves c r) e h

-- ---- the points after a change, for the next call

next-held : (d : List Float) (ps : List Point) (n : ℕ) → Holds d ps → n ≡ length ps → (points n d ≡ ps) × Holds d (points n d)
next-held d ps n h e = (holds-points d ps n h e, holds-again d ps n h e)

pub next-inserted : (c d : List Float) (n i : ℕ) (p : Point) → Holds d (insert_at i p (points n c)) → (points (n + 1) d ≡ insert_at i p (points n c)) × Holds d (points (n + 1) d)
next-inserted c d n i p h = next-held d (insert_at i p (points n c)) (n + 1) h (omega (arith, length_inserted i p (points n c), length-points n c))

pub next-removed : (c d : List Float) (n i : ℕ) → i < n → Holds d (remove_at i (points n c)) → (points (n - 1) d ≡ remove_at i (points n c)) × Holds d (points (n - 1) d)
next-removed c d n i g h =
    let l = length-points n c in
    next-held d (remove_at i (points n c)) (n - 1) h (omega (arith, length_removed i (points n c) (omega arith)))

pub next-set : (c d : List Float) (n i : ℕ) (p : Point) → Holds d (set (points n c) i p) → (points n d ≡ set (points n c) i p) × Holds d (points n d)
next-set c d n i p h = next-held d (set (points n c) i p) n h (sym (length-set (points n c) i p ∙ length-points n c))

pub next-moved : (c d : List Float) (n j : ℕ) → j ≤ n → 2 * n ≤ length c → d ≡ move_front +0 (2 * j) (2 * n) c → (points (n - j) d ≡ drop j (points n c)) × Holds d (points (n - j) d)
next-moved c d n j g room e = next-held d (drop j (points n c)) (n - j) (rw e (moved c n j g room)) (omega (arith, length-drop j (points n c), length-points n c))

pub next-zeroed : (c d : List Float) (n : ℕ) → 2 * n ≤ length c → d ≡ zero_from +0 (2 * n) c → (points n d ≡ points n c) × Holds d (points n d)
next-zeroed c d n room e = next-held d (points n c) n (rw e (zeroed c n room)) (sym (length-points n c))

pub next-two : (c d : List Float) (n i : ℕ) (p q : Point) → Holds d (insert_at i p (insert_at i q (points n c)))
    → (points (n + 2) d ≡ insert_at i p (insert_at i q (points n c))) × Holds d (points (n + 2) d)
next-two c d n i p q h =
    let ps = insert_at i q (points n c) in
    next-held d (insert_at i p ps) (n + 2) h (omega (arith, length_inserted i p ps, length_inserted i q (points n c), length-points n c))

-- a lent column leaves the points that it holds
pub leaves-of : (d : SpeedColumn) (ps : List Point) → points_of d ≡ ps → Leaves d.col.now d.count ps
leaves-of d ps e = record { count = count_is d.count d.col.now ps e; holds = subst (Holds d.col.now) e d.holds }

-- ---- one change after another

pub unchanged : (c : SpeedColumn) (ps : List Point) → points_of c ≡ ps → Becomes c c ps
unchanged c ps e = record { same = refl; long = refl; holds = e }

pub becomes-as : {c d : SpeedColumn} {qs : List Point} (ps : List Point) → Becomes c d qs → qs ≡ ps → Becomes c d ps
becomes-as {c} {d} {qs} ps h e = subst (Becomes c d) e h

pub becomes-next : (f : List Point → List Point) {b c d : SpeedColumn} {qs : List Point} → Becomes b c qs → Becomes c d (f (points_of c)) → Becomes b d (f qs)
becomes-next f {b} {c} {d} {qs} g h = record { same = h.same ∙ g.same; long = h.long ∙ g.long; holds = h.holds ∙ ap f g.holds }

pub becomes-on : {b c d : SpeedColumn} {qs ps : List Point} → Becomes b c qs → Becomes c d ps → Becomes b d (points_of d)
becomes-on g h = record { same = h.same ∙ g.same; long = h.long ∙ g.long; holds = refl }
