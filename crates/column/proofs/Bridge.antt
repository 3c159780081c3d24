-- From a column's entries to its records and back, for any layout: each change of entries is the change of a list of records.
use Prim.Native.Nat.{ℕ, zero, suc, ◌+◌, ◌-◌, ◌*◌, ◌≤◌, ◌<◌}
use native.Mathlib.Nat.{add-zero, mul-zero, mul-one, mul-suc, mul-add, sub-zero, not-suc-le-zero, le_of_suc-le-suc}
use native.Mathlib.Numerals.{add-one}
use native.Mathlib.Omega.{arith}
use mathlib.Core.Path.{◌≡◌, refl, sym, ap, ap₂, ◌∙◌, subst}
use mathlib.Core.List.{List, [], ◌∷◌, ◌++◌, map, append_assoc, append-nil}
use lib.ListN.{length, take, drop, get_or, set, replicate, length-append, length-drop, length-replicate, take-append-drop, replicate-append-replicate}
use lib.Seq.{slice, sets, sets-eq, drop-append-add, take-append-add, take_at, drop_at, drop-drop, set_split, split_at, take-add, take-length, drop-length, length-take-le}
use lib.Ieee.{Float}
use Rattle.column.specs.Entries.{filled, zero_from, move_front, open_gap, close_gap, insert_at, remove_at}
use Rattle.column.specs.Records.{Layout, records, flat, record_at, put_record, three, four}
use Rattle.column.proofs.Filling.{length-filled}
use Rattle.column.proofs.Gaps.{opened, open-start, open-room, close-room}

-- what a layout has to be: as many entries as it says, and nothing lost either way
pub record Lawful {A R : Type 0} (L : Layout A R) : Type 0 where
  pub length-pack : (r : R) → length (L.pack r) ≡ L.width
  pub unpack-pack : (r : R) (l : List A) → L.unpack (L.pack r ++ l) ≡ r
  pub pack-unpack : (l : List A) → L.width ≤ length l → L.pack (L.unpack l) ≡ take L.width l

-- ---- lists in three and four parts
module _ {A : Type 0} where
  -- as many entries take the place of y
  overwrite : (x y t v : List A) (k : ℕ) → length x ≡ k → length y ≡ length v → sets (x ++ (y ++ t)) k v ≡ x ++ (v ++ t)
  overwrite x y t v k e f =
      let m : k + length v ≡ length x + length v = omega arith in
      let long : k + length v ≤ length (x ++ (y ++ t)) = omega (arith, length-append x (y ++ t), length-append y t) in
      sets-eq v (x ++ (y ++ t)) k long
      ∙ ap₂ (λ (a b : List A). a ++ v ++ b) (take_at x (y ++ t) k e) (ap (λ (j : ℕ). drop j (x ++ (y ++ t))) m ∙ drop-append-add x (y ++ t) (length v) ∙ drop_at y t (length v) f)
      ∙ append_assoc x v t

  -- two runs of entries stored, one behind the other
  sets-append : (c : List A) (k : ℕ) (a b : List A) → sets c k (a ++ b) ≡ sets (sets c k a) (k + length a) b
  sets-append c k [] b = ap (λ (j : ℕ). sets c j b) (sym (add-zero k))
  sets-append c k (x ∷ a) b =
      let e : suc k + length a ≡ k + suc (length a) = omega arith in
      sets-append (set c k x) (suc k) a b ∙ ap (λ (j : ℕ). sets (sets (set c k x) (suc k) a) j b) e

  middle : (x y t : List A) (i k : ℕ) → length x ≡ i → i + length y ≡ k → slice i k (x ++ (y ++ t)) ≡ y
  middle x y t i k e f =
      ap (λ (l : List A). drop i (take k l)) (sym (append_assoc x y t))
      ∙ ap (drop i) (take_at (x ++ y) t k (omega (arith, length-append x y)))
      ∙ drop_at x y i e

  -- y moves w places up over t
  gap-open : (x y t : List A) (w i k : ℕ) → length x ≡ i → i + length y ≡ k → opened (x ++ (y ++ t)) i k w ≡ x ++ (take w (y ++ t) ++ (y ++ drop w t))
  gap-open x y t w i k e f =
      let front : take (i + w) (x ++ (y ++ t)) ≡ x ++ take w (y ++ t) = ap (λ (j : ℕ). take (j + w) (x ++ (y ++ t))) (sym e) ∙ take-append-add x (y ++ t) w in
      let m : k + w ≡ length (x ++ y) + w = omega (arith, length-append x y) in
      let back : drop (k + w) (x ++ (y ++ t)) ≡ drop w t = ap (drop (k + w)) (sym (append_assoc x y t)) ∙ ap (λ (j : ℕ). drop j ((x ++ y) ++ t)) m ∙ drop-append-add (x ++ y) t w in
      rw (front, middle x y t i k e f, back) (append_assoc x (take w (y ++ t)) (y ++ drop w t))

  -- p goes out, and v stands before t
  gap-close : (x p y t v : List A) (i w k : ℕ) → length x ≡ i → length p ≡ w → i + w + length y ≡ k
      → take i (x ++ (p ++ (y ++ t))) ++ (slice (i + w) k (x ++ (p ++ (y ++ t))) ++ (v ++ drop k (x ++ (p ++ (y ++ t))))) ≡ x ++ (y ++ (v ++ t))
  gap-close x p y t v i w k e g f =
      let c2 : x ++ (p ++ (y ++ t)) ≡ (x ++ p) ++ (y ++ t) = sym (append_assoc x p (y ++ t)) in
      let n : length (x ++ p) ≡ i + w = omega (arith, length-append x p) in
      let mid : slice (i + w) k (x ++ (p ++ (y ++ t))) ≡ y = ap (slice (i + w) k) c2 ∙ middle (x ++ p) y t (i + w) k n f in
      let back : drop k (x ++ (p ++ (y ++ t))) ≡ t = ap (drop k) (c2 ∙ sym (append_assoc (x ++ p) y t)) ∙ drop_at ((x ++ p) ++ y) t k (omega (arith, length-append (x ++ p) y)) in
      rw (take_at x (p ++ (y ++ t)) i e, mid, back)

module _ {A R : Type 0} (L : Layout A R) (ok : Lawful L) where
  -- ---- counts
  pub length-records : (n : ℕ) (c : List A) → length (records L n c) ≡ n
  unfolding records
  length-records zero c = refl
  length-records (suc n) c = ap suc (length-records n (drop L.width c))

  pub length-flat : (rs : List R) → length (flat L rs) ≡ L.width * length rs
  unfolding flat
  length-flat [] = sym (mul-zero L.width)
  length-flat (r ∷ rs) =
      length-append (L.pack r) (flat L rs)
      ∙ omega (arith, ok.length-pack r, length-flat rs, mul-suc L.width (length rs))

  pub flat_append : (rs ss : List R) → flat L (rs ++ ss) ≡ flat L rs ++ flat L ss
  unfolding flat
  flat_append [] ss = refl
  flat_append (r ∷ rs) ss = ap (λ (l : List A). L.pack r ++ l) (flat_append rs ss) ∙ sym (append_assoc (L.pack r) (flat L rs) (flat L ss))

  -- ---- there and back
  -- records that were laid out are read back, whatever stands after them
  pub records-flat : (rs : List R) (l : List A) → records L (length rs) (flat L rs ++ l) ≡ rs
  unfolding records flat
  records-flat [] l = refl
  records-flat (r ∷ rs) l =
      let e : (L.pack r ++ flat L rs) ++ l ≡ L.pack r ++ (flat L rs ++ l) = append_assoc (L.pack r) (flat L rs) l in
      ap₂ ◌∷◌ (ap L.unpack e ∙ ok.unpack-pack r (flat L rs ++ l))
      (ap (λ (x : List A). records L (length rs) (drop L.width x)) e
      ∙ ap (records L (length rs)) (drop_at (L.pack r) (flat L rs ++ l) L.width (ok.length-pack r))
      ∙ records-flat rs l)

  -- a column's records, laid out, are its entries
  pub flat-records : (n : ℕ) (c : List A) → L.width * n ≤ length c → flat L (records L n c) ≡ take (L.width * n) c
  unfolding records flat
  flat-records zero c h = rw (mul-zero L.width)
  flat-records (suc n) c h =
      let m : L.width * suc n ≡ L.width + L.width * n = omega (arith, mul-suc L.width n) in
      ap₂ ◌++◌ (ok.pack-unpack c (omega arith)) (flat-records n (drop L.width c) (omega (arith, length-drop L.width c)))
      ∙ sym (take-add L.width (L.width * n) c)
      ∙ ap (λ (k : ℕ). take k c) (sym m)

  -- ---- single records
  pub record-at : (n : ℕ) (c : List A) (i : ℕ) (d : R) → i < n → get_or (records L n c) i d ≡ record_at L c i
  unfolding records record_at
  record-at zero c i d h = absurd (not-suc-le-zero h)
  record-at (suc n) c zero d h = ap (λ (k : ℕ). L.unpack (drop k c)) (sym (mul-zero L.width))
  record-at (suc n) c (suc i) d h =
      let m : L.width * suc i ≡ L.width + L.width * i = omega (arith, mul-suc L.width i) in
      record-at n (drop L.width c) i d (le_of_suc-le-suc h)
      ∙ ap L.unpack (drop-drop (L.width * i) L.width c ∙ ap (λ (k : ℕ). drop k c) (sym m))

  pub take-records : (k n : ℕ) (c : List A) → k ≤ n → take k (records L n c) ≡ records L k c
  unfolding records
  take-records zero n c h = refl
  take-records (suc k) zero c h = absurd (not-suc-le-zero h)
  take-records (suc k) (suc n) c h = ap (λ (rs : List R). L.unpack c ∷ rs) (take-records k n (drop L.width c) (le_of_suc-le-suc h))

  pub drop-records : (k n : ℕ) (c : List A) → drop k (records L n c) ≡ records L (n - k) (drop (L.width * k) c)
  unfolding records
  drop-records zero n c = ap₂ (λ (j k : ℕ). records L j (drop k c)) (sym (sub-zero n)) (sym (mul-zero L.width))
  drop-records (suc k) zero c =
      let e : 0 - suc k ≡ 0 = omega arith in
      ap (λ (j : ℕ). records L j (drop (L.width * suc k) c)) (sym e)
  drop-records (suc k) (suc n) c =
      let m : L.width * suc k ≡ L.width + L.width * k = omega (arith, mul-suc L.width k) in
      let e : suc n - suc k ≡ n - k = omega arith in
      drop-records k n (drop L.width c)
      ∙ ap₂ (λ (j : ℕ) (x : List A). records L j x) (sym e) (drop-drop (L.width * k) L.width c ∙ ap (λ (j : ℕ). drop j c) (sym m))

  -- ---- a column of n entries that holds records, and zeros past them
  module _ (z : A) (n : ℕ) where
    -- the zeros past k records
    pad : ℕ → List A
    pad k = replicate (n - L.width * k) z

    -- the records of two lists, one after the other
    halves : (xs ys : List R) → filled z n (flat L (xs ++ ys)) ≡ flat L xs ++ (flat L ys ++ pad (length (xs ++ ys)))
    unfolding filled pad
    halves xs ys =
        ap (λ (k : ℕ). flat L (xs ++ ys) ++ replicate (n - k) z) (length-flat (xs ++ ys))
        ∙ ap (λ (l : List A). l ++ pad (length (xs ++ ys))) (flat_append xs ys)
        ∙ append_assoc (flat L xs) (flat L ys) (pad (length (xs ++ ys)))

    -- the same with one record between them
    around : (xs ys : List R) (r : R) → filled z n (flat L (xs ++ r ∷ ys)) ≡ flat L xs ++ (L.pack r ++ (flat L ys ++ pad (length (xs ++ r ∷ ys))))
    unfolding flat
    around xs ys r = halves xs (r ∷ ys) ∙ ap (λ (l : List A). flat L xs ++ l) (append_assoc (L.pack r) (flat L ys) (pad (length (xs ++ r ∷ ys))))

    -- ---- a record is read
    read_between : (xs ys : List R) (r : R) (i : ℕ) → length xs ≡ i → record_at L (filled z n (flat L (xs ++ r ∷ ys))) i ≡ r
    unfolding record_at
    read_between xs ys r i e =
        ap (λ (c : List A). L.unpack (drop (L.width * i) c)) (around xs ys r)
        ∙ ap L.unpack (drop_at (flat L xs) _ (L.width * i) (length-flat xs ∙ ap (λ (k : ℕ). L.width * k) e))
        ∙ ok.unpack-pack r (flat L ys ++ pad (length (xs ++ r ∷ ys)))

    pub read-filled : (rs : List R) (i : ℕ) (d : R) → i < length rs → record_at L (filled z n (flat L rs)) i ≡ get_or rs i d
    read-filled rs i d h =
        ap (λ (l : List R). record_at L (filled z n (flat L l)) i) (split_at rs i d h)
        ∙ read_between (take i rs) (drop (suc i) rs) (get_or rs i d) i (length-take-le i rs (omega arith))

    -- ---- a record is written
    write-between : (xs ys : List R) (q r : R) (i : ℕ) → length xs ≡ i → put_record L (filled z n (flat L (xs ++ q ∷ ys))) i r ≡ filled z n (flat L (xs ++ r ∷ ys))
    unfolding put_record
    write-between xs ys q r i e =
        let same : length (xs ++ q ∷ ys) ≡ length (xs ++ r ∷ ys) = length-append xs (q ∷ ys) ∙ sym (length-append xs (r ∷ ys)) in
        ap (λ (c : List A). sets c (L.width * i) (L.pack r)) (around xs ys q)
        ∙ overwrite (flat L xs) (L.pack q) (flat L ys ++ pad (length (xs ++ q ∷ ys))) (L.pack r) (L.width * i)
        (length-flat xs ∙ ap (λ (k : ℕ). L.width * k) e) (ok.length-pack q ∙ sym (ok.length-pack r))
        ∙ ap (λ (k : ℕ). flat L xs ++ (L.pack r ++ (flat L ys ++ pad k))) same
        ∙ sym (around xs ys r)

    pub put-filled : (rs : List R) (i : ℕ) (r : R) → i < length rs → put_record L (filled z n (flat L rs)) i r ≡ filled z n (flat L (set rs i r))
    put-filled rs i r h =
        ap (λ (l : List R). put_record L (filled z n (flat L l)) i r) (split_at rs i r h)
        ∙ write-between (take i rs) (drop (suc i) rs) (get_or rs i r) r i (length-take-le i rs (omega arith))
        ∙ ap (λ (l : List R). filled z n (flat L l)) (sym (set_split rs i r h))

    -- ---- records go in
    -- a gap of g entries, and what stands in it
    gap-between : (xs ys : List R) (i k g : ℕ) → length xs ≡ i → length (xs ++ ys) ≡ k → L.width * k + g ≤ n
        → open_gap (L.width * i) (L.width * k) g (filled z n (flat L (xs ++ ys))) ≡ flat L xs ++ (take g (flat L ys ++ pad k) ++ (flat L ys ++ drop g (pad k)))
    unfolding pad
    gap-between xs ys i k g e f room =
        let w = L.width in
        let x = flat L xs in
        let y = flat L ys in
        let a : length x ≡ w * i = length-flat xs ∙ ap (λ (j : ℕ). w * j) e in
        let b : w * i + length y ≡ w * k = omega (arith, length-append x y, ap length (flat_append xs ys), length-flat (xs ++ ys), ap (λ (j : ℕ). w * j) f) in
        let whole : filled z n (flat L (xs ++ ys)) ≡ x ++ (y ++ pad k) = halves xs ys ∙ ap (λ (j : ℕ). x ++ (y ++ pad j)) f in
        let long : length (x ++ (y ++ pad k)) ≡ n = length-append x (y ++ pad k) ∙ omega (arith, length-append y (pad k), length-replicate (n - w * k) z) in
        ap (open_gap (w * i) (w * k) g) whole
        ∙ open-room (w * i) (w * k) g (x ++ (y ++ pad k)) (omega arith) (omega arith)
        ∙ gap-open x y (pad k) g (w * i) (w * k) a b

    -- the records qs, stored in a gap between two lists
    insert-between : (xs qs ys : List R) (i k : ℕ) → length xs ≡ i → length (xs ++ ys) ≡ k → L.width * (k + length qs) ≤ n
        → sets (open_gap (L.width * i) (L.width * k) (L.width * length qs) (filled z n (flat L (xs ++ ys)))) (L.width * i) (flat L qs) ≡ filled z n (flat L (xs ++ (qs ++ ys)))
    unfolding pad
    insert-between xs qs ys i k e f room =
        let w = L.width in
        let g = w * length qs in
        let s : w * (k + length qs) ≡ w * k + g = mul-add w k (length qs) in
        let all = xs ++ (qs ++ ys) in
        let more : length all ≡ k + length qs = length-append xs (qs ++ ys) ∙ omega (arith, length-append qs ys, length-append xs ys) in
        let spare : n - w * k - g ≡ n - w * length all = omega (arith, ap (λ (j : ℕ). w * j) more) in
        let less : drop g (pad k) ≡ pad (length all) = drop-zeros g (n - w * k) ∙ ap (λ (j : ℕ). replicate j z) spare in
        ap (λ (c : List A). sets c (w * i) (flat L qs)) (gap-between xs ys i k g e f (omega arith))
        ∙ overwrite (flat L xs) (take g (flat L ys ++ pad k)) (flat L ys ++ drop g (pad k)) (flat L qs) (w * i) (length-flat xs ∙ ap (λ (j : ℕ). w * j) e)
        (length-take-le g (flat L ys ++ pad k) (omega (arith, length-append (flat L ys) (pad k), length-replicate (n - w * k) z)) ∙ sym (length-flat qs))
        ∙ ap (λ (l : List A). flat L xs ++ (flat L qs ++ (flat L ys ++ l))) less
        ∙ sym (ap (λ (l : List A). flat L xs ++ l) (append_assoc (flat L qs) (flat L ys) (pad (length all))))
        ∙ sym (ap (λ (l : List A). flat L xs ++ (l ++ pad (length all))) (flat_append qs ys))
        ∙ sym (halves xs (qs ++ ys))
      where
        drop-zeros : (a b : ℕ) → drop a (replicate b z) ≡ replicate (b - a) z
        drop-zeros zero b = ap (λ (j : ℕ). replicate j z) (sym (sub-zero b))
        drop-zeros (suc a) zero =
            let e : 0 - suc a ≡ 0 = omega arith in
            ap (λ (j : ℕ). replicate j z) (sym e)
        drop-zeros (suc a) (suc b) =
            let e : suc b - suc a ≡ b - a = omega arith in
            drop-zeros a b ∙ ap (λ (j : ℕ). replicate j z) (sym e)

    insert_all : (rs qs : List R) (i : ℕ) → i ≤ length rs → L.width * (length rs + length qs) ≤ n
        → sets (open_gap (L.width * i) (L.width * length rs) (L.width * length qs) (filled z n (flat L rs))) (L.width * i) (flat L qs)
        ≡ filled z n (flat L (take i rs ++ (qs ++ drop i rs)))
    insert_all rs qs i h room =
        let e = take-append-drop i rs in
        ap (λ (l : List R). sets (open_gap (L.width * i) (L.width * length rs) (L.width * length qs) (filled z n (flat L l))) (L.width * i) (flat L qs)) (sym e)
        ∙ insert-between (take i rs) qs (drop i rs) i (length rs) (length-take-le i rs h) (ap length e) room

    -- one
    pub insert-filled : (rs : List R) (i : ℕ) (r : R) → i ≤ length rs → L.width * suc (length rs) ≤ n
        → put_record L (open_gap (L.width * i) (L.width * length rs) L.width (filled z n (flat L rs))) i r ≡ filled z n (flat L (insert_at i r rs))
    unfolding put_record flat
    insert-filled rs i r h room =
        let w = L.width in
        let c = filled z n (flat L rs) in
        ap₂ (λ (g : ℕ) (l : List A). sets (open_gap (w * i) (w * length rs) g c) (w * i) l) (sym (mul-one w)) (sym (append-nil (L.pack r)))
        ∙ insert_all rs (r ∷ []) i h (subst (λ (k : ℕ). w * k ≤ n) (sym (add-one (length rs))) room)

    -- two, in one gap
    pub insert-two : (rs : List R) (i : ℕ) (p q : R) → i ≤ length rs → L.width * (length rs + 2) ≤ n
        → put_record L (put_record L (open_gap (L.width * i) (L.width * length rs) (L.width * 2) (filled z n (flat L rs))) i p) (i + 1) q
        ≡ filled z n (flat L (insert_at i p (insert_at i q rs)))
    unfolding put_record flat
    insert-two rs i p q h room =
        let w = L.width in
        let c = open_gap (w * i) (w * length rs) (w * 2) (filled z n (flat L rs)) in
        let at : w * (i + 1) ≡ w * i + length (L.pack p) = mul-add w i 1 ∙ ap (λ (k : ℕ). w * i + k) (mul-one w ∙ sym (ok.length-pack p)) in
        let front : take i (insert_at i q rs) ≡ take i rs = take_at (take i rs) (q ∷ drop i rs) i (length-take-le i rs h) in
        let back : drop i (insert_at i q rs) ≡ q ∷ drop i rs = drop_at (take i rs) (q ∷ drop i rs) i (length-take-le i rs h) in
        ap (λ (k : ℕ). sets (sets c (w * i) (L.pack p)) k (L.pack q)) at
        ∙ sym (sets-append c (w * i) (L.pack p) (L.pack q))
        ∙ ap (λ (l : List A). sets c (w * i) (L.pack p ++ l)) (sym (append-nil (L.pack q)))
        ∙ insert_all rs (p ∷ q ∷ []) i h room
        ∙ sym (ap₂ (λ (a b : List R). filled z n (flat L (a ++ p ∷ b))) front back)

    -- at the end no gap is needed
    pub push-filled : (rs : List R) (r : R) → L.width * suc (length rs) ≤ n → put_record L (filled z n (flat L rs)) (length rs) r ≡ filled z n (flat L (rs ++ r ∷ []))
    push-filled rs r room =
        let w = L.width in
        let k = length rs in
        let s = mul-suc w k in
        let c = filled z n (flat L rs) in
        let long : length c ≡ n = length-filled z n (flat L rs) (omega (arith, length-flat rs)) in
        let none : open_gap (w * k) (w * k) w c ≡ c = open-room (w * k) (w * k) w c (omega arith) (omega arith) ∙ sym (open-start c (w * k) w) in
        ap (λ (l : List A). put_record L l k r) (sym none)
        ∙ insert-filled rs k r (omega arith) room
        ∙ ap₂ (λ (a b : List R). filled z n (flat L (a ++ r ∷ b))) (take-length rs) (drop-length rs)

    -- ---- a record goes out
    remove-between : (xs ys : List R) (q : R) (i k : ℕ) → length xs ≡ i → length (xs ++ q ∷ ys) ≡ k → L.width * k ≤ n
        → close_gap z (L.width * i) (L.width * k) L.width (filled z n (flat L (xs ++ q ∷ ys))) ≡ filled z n (flat L (xs ++ ys))
    unfolding pad
    remove-between xs ys q i k e f room =
        let w = L.width in
        let x = flat L xs in
        let y = flat L ys in
        let a : length x ≡ w * i = length-flat xs ∙ ap (λ (j : ℕ). w * j) e in
        let p : length (L.pack q) ≡ w = ok.length-pack q in
        let fewer : length (xs ++ ys) ≡ k - 1 = omega (arith, length-append xs ys, length-append xs (q ∷ ys)) in
        let g : suc (k - 1) ≡ k = omega (arith, length-append xs (q ∷ ys)) in
        let s : w * k ≡ w * (k - 1) + w = ap (λ (j : ℕ). w * j) (sym g) ∙ mul-suc w (k - 1) in
        let b : w * i + w + length y ≡ w * k = omega (arith, length-append x y, ap length (flat_append xs ys), length-flat (xs ++ ys), ap (λ (j : ℕ). w * j) fewer) in
        let whole : filled z n (flat L (xs ++ q ∷ ys)) ≡ x ++ (L.pack q ++ (y ++ pad k)) = around xs ys q ∙ ap (λ (j : ℕ). x ++ (L.pack q ++ (y ++ pad j))) f in
        let long : length (x ++ (L.pack q ++ (y ++ pad k))) ≡ n = length-append x (L.pack q ++ (y ++ pad k)) ∙ omega (arith, length-append (L.pack q) (y ++ pad k), length-append y (pad k), length-replicate (n - w * k) z) in
        let spare : w + (n - w * k) ≡ n - w * length (xs ++ ys) = omega (arith, ap (λ (j : ℕ). w * j) fewer) in
        let more : replicate w z ++ pad k ≡ pad (length (xs ++ ys)) = replicate-append-replicate w (n - w * k) z ∙ ap (λ (j : ℕ). replicate j z) spare in
        ap (close_gap z (w * i) (w * k) w) whole
        ∙ close-room z (w * i) (w * k) w (x ++ (L.pack q ++ (y ++ pad k))) (omega arith) (omega arith)
        ∙ gap-close x (L.pack q) y (pad k) (replicate w z) (w * i) w (w * k) a p b
        ∙ ap (λ (l : List A). x ++ (y ++ l)) more
        ∙ sym (halves xs ys)

    pub remove-filled : (rs : List R) (i : ℕ) (d : R) → i < length rs → L.width * length rs ≤ n
        → close_gap z (L.width * i) (L.width * length rs) L.width (filled z n (flat L rs)) ≡ filled z n (flat L (remove_at i rs))
    remove-filled rs i d h room =
        let e = split_at rs i d h in
        ap (λ (l : List R). close_gap z (L.width * i) (L.width * length rs) L.width (filled z n (flat L l))) e
        ∙ remove-between (take i rs) (drop (suc i) rs) (get_or rs i d) i (length rs) (length-take-le i rs (omega arith)) (ap length (sym e)) room

  -- ---- records of a column are kept, the rest becomes zero
  pub zero-filled : (z : A) (k : ℕ) (c : List A) → L.width * k ≤ length c → zero_from z (L.width * k) c ≡ filled z (length c) (flat L (records L k c))
  unfolding zero_from
  zero-filled z k c h = ap (filled z (length c)) (sym (flat-records k c h))

  pub move-filled : (z : A) (j k : ℕ) (c : List A) → j ≤ k → L.width * k ≤ length c → move_front z (L.width * j) (L.width * k) c ≡ filled z (length c) (flat L (drop j (records L k c)))
  unfolding move_front
  move-filled z j k c h room =
      let rs = records L k c in
      let front : length (flat L (take j rs)) ≡ L.width * j = length-flat (take j rs) ∙ ap (λ (i : ℕ). L.width * i) (length-take-le j rs (omega (arith, length-records k c))) in
      ap (filled z (length c))
      (ap (drop (L.width * j)) (sym (flat-records k c room) ∙ ap (flat L) (sym (take-append-drop j rs)) ∙ flat_append (take j rs) (drop j rs))
      ∙ drop_at (flat L (take j rs)) (flat L (drop j rs)) (L.width * j) front)

  -- what holds the first k records of c and zeros past them holds its own first k records, the same ones
  module _ (z : A) (k : ℕ) (c : List A) (room : L.width * k ≤ length c) {l : List A} (e : l ≡ filled z (length c) (flat L (records L k c))) where
    pub held-length : length l ≡ length c
    held-length = ap length e ∙ length-filled z (length c) (flat L (records L k c)) (omega (arith, length-flat (records L k c), ap (λ (j : ℕ). L.width * j) (length-records k c)))

    pub held-records : records L k l ≡ records L k c
    unfolding filled
    held-records =
        ap (records L k) e
        ∙ ap (λ (j : ℕ). records L j (filled z (length c) (flat L (records L k c)))) (sym (length-records k c))
        ∙ records-flat (records L k c) _

    pub held-again : l ≡ filled z (length l) (flat L (records L k l))
    held-again = e ∙ sym (ap₂ (λ (n : ℕ) (rs : List R). filled z n (flat L rs)) held-length held-records)

-- ---- a column whose records, or entries, another list gives by f, without its first g: the rest becomes zero
map-drop : {S R : Type 0} (f : S → R) (k : ℕ) (l : List S) → map f (drop k l) ≡ drop k (map f l)
map-drop f zero l = refl
map-drop f (suc k) [] = refl
map-drop f (suc k) (a ∷ l) = map-drop f k l

module _ {A S : Type 0} (z : A) (ss : List S) (g n : ℕ) (c : List A) where
  pub entries-left : (f : S → A) → map f ss ≡ take n c → move_front z g n c ≡ filled z (length c) (map f (drop g ss))
  unfolding move_front
  entries-left f e = ap (filled z (length c)) (ap (drop g) (sym e) ∙ sym (map-drop f g ss))

  pub records-left :
      {R : Type 0} (L : Layout A R) (ok : Lawful L) (f : S → R)
      → map f ss ≡ records L n c
      → g ≤ n
      → L.width * n ≤ length c
      → move_front z (L.width * g) (L.width * n) c ≡ filled z (length c) (flat L (map f (drop g ss)))
  records-left {R = R} L ok f e h room =
      move-filled L ok z g n c h room ∙ ap (λ (l : List R). filled z (length c) (flat L l)) (ap (drop g) (sym e) ∙ sym (map-drop f g ss))

-- ---- the three layouts
pub three-lawful : Lawful three
three-lawful = record { length-pack = λ r. refl; unpack-pack = λ r l. refl; pack-unpack = back }
  where
    back : (l : List Float) → 3 ≤ length l → three.pack (three.unpack l) ≡ take 3 l
    back [] h = absurd (omega arith)
    back (a ∷ []) h = absurd (omega arith)
    back (a ∷ b ∷ []) h = absurd (omega arith)
    back (a ∷ b ∷ c ∷ l) h = refl

pub four-lawful : Lawful four
four-lawful = record { length-pack = λ r. refl; unpack-pack = λ r l. refl; pack-unpack = back }
  where
    back : (l : List ℕ) → 4 ≤ length l → four.pack (four.unpack l) ≡ take 4 l
    back [] h = absurd (omega arith)
    back (a ∷ []) h = absurd (omega arith)
    back (a ∷ b ∷ []) h = absurd (omega arith)
    back (a ∷ b ∷ c ∷ []) h = absurd (omega arith)
    back (a ∷ b ∷ c ∷ d ∷ l) h = refl
