-- Laws of entries that move: copied one by one, moved as a block by way of a second list, and as a stretch of many blocks.
use Prim.Native.Nat.{ℕ, zero, suc, ◌+◌, ◌-◌, ◌≤◌, ◌<◌, min, zero-le}
use native.Mathlib.Nat.{zero-add, suc-add}
use native.Mathlib.Numerals.{add-one}
use native.Mathlib.Omega.{arith}
use mathlib.Core.Path.{◌≡◌, refl, sym, ap, ap₂, ◌∙◌}
use mathlib.Core.Logic.{◌⊎◌, inl, inr}
use mathlib.Core.List.{List, [], ◌∷◌, ◌++◌, append_assoc}
use lib.ListN.{length, take, drop, get_or, set, length-drop, length-set, drop_of_length-le}
use lib.Seq.{slice, paste, paste-zero, paste-suc, length-paste, take-paste, drop-paste, take_at, drop_at, take-nil, take-take, take-add, drop-drop, get_or-drop, take-suc, length-take-le}
use Rattle.std.specs.List.{copy_within}
use Rattle.std.proofs.lemmas.List.{take_more_set}
use Rattle.ieee.proofs.Round.{split}
use Rattle.column.specs.Entries.{filled, zero_from, moved, move_front}
use Rattle.column.proofs.Filling.{take_min, zero_is}

module _ {A : Type 0} where
  -- a part by where it ends and by how many entries it has
  slice_is : (f n : ℕ) (l : List A) → slice f (f + n) l ≡ take n (drop f l)
  slice_is zero n l = ap (λ (k : ℕ). take k l) (zero-add n)
  slice_is (suc f) n [] = ap (λ (k : ℕ). drop (suc f) (take k [])) (suc-add f n) ∙ sym (take-nil n)
  slice_is (suc f) n (x ∷ l) = ap (λ (k : ℕ). drop (suc f) (take k (x ∷ l))) (suc-add f n) ∙ slice_is f n l

  pub slice-part : (f t : ℕ) (l : List A) → f ≤ t → slice f t l ≡ take (t - f) (drop f l)
  slice-part f t l h =
      let e : f + (t - f) ≡ t = omega arith in
      ap (λ (k : ℕ). slice f k l) (sym e) ∙ slice_is f (t - f) l

  -- ---- a copy: d, made of d₀, has k of n entries of s
  pub record Copied (d₀ : List A) (at : ℕ) (s : List A) (from n : ℕ) (d : List A) (k : ℕ) : Type 0 where
    pub long : length d ≡ length d₀
    pub within : k ≤ n
    pub so_far : d ≡ paste d₀ at (drop from s) k

  module _ {d₀ : List A} {at : ℕ} {s : List A} {from n : ℕ} where
    pub copied_none : Copied d₀ at s from n d₀ 0
    copied_none = record { long = refl; within = zero-le; so_far = paste-zero d₀ at (drop from s) }

    module _ {d : List A} {k : ℕ} (m : Copied d₀ at s from n d k) where
      one-more : (z : A) → at + n ≤ length d₀ → from + n ≤ length s → k < n → Copied d₀ at s from n (set d (at + k) (get_or s (from + k) z)) (k + 1)
      one-more z h r l = record {
        long = simp length-set m.long;
        within = omega arith;
        so_far = ap (λ (x : List A). set x (at + k) (get_or s (from + k) z)) m.so_far
            ∙ ap (set (paste d₀ at (drop from s) k) (at + k)) (sym (get_or-drop from s k z))
            ∙ paste-suc d₀ at (drop from s) k z (omega arith) (omega (arith, length-drop from s))
            ∙ ap (paste d₀ at (drop from s)) (sym (add-one k));
      }

      -- the next entry, from q to p
      pub copied_more : (z : A) (p q : ℕ) → p ≡ at + k → q ≡ from + k → at + n ≤ length d₀ → from + n ≤ length s → k < n → Copied d₀ at s from n (set d p (get_or s q z)) (k + 1)
      copied_more z p q e f h r l = rw (e, f) (one-more z h r l)

      pub copied_all : n ≤ k → d ≡ paste d₀ at (drop from s) n
      copied_all h = let e : k ≡ n = omega arith in m.so_far ∙ rw e

  -- ---- what moving n entries makes: the length, the entries before, up to the end of and past the new places
  module _ (l : List A) (i j n : ℕ) (source : j + n ≤ length l) where
    pub length_moved : i + n ≤ length l → length (moved i j n l) ≡ length l
    unfolding moved
    length_moved h = length-paste l i (drop j l) n h (omega (arith, length-drop j l))

    pub take-moved : i ≤ length l → take (i + n) (moved i j n l) ≡ take i l ++ take n (drop j l)
    unfolding moved
    take-moved h = take-paste l i (drop j l) n h (omega (arith, length-drop j l))

    take-before : (k : ℕ) → k ≤ i → i ≤ length l → take k (moved i j n l) ≡ take k l
    unfolding moved
    take-before k h r =
        let e : take i (moved i j n l) ≡ take i l = ap (take i) (append_assoc (take i l) (take n (drop j l)) (drop (i + n) l)) ∙ take_at (take i l) (take n (drop j l) ++ drop (i + n) l) i (length-take-le i l r) in
        sym (take-take k i (moved i j n l) h) ∙ ap (take k) e ∙ take-take k i l h

    pub drop-moved : (k : ℕ) → i ≤ length l → i + n ≤ k → drop k (moved i j n l) ≡ drop k l
    unfolding moved
    drop-moved k h r =
        let e : k ≡ i + n + (k - (i + n)) = omega arith in
        let f : drop (i + n) (paste l i (drop j l) n) ≡ drop (i + n) l = drop-paste l i (drop j l) n h (omega (arith, length-drop j l)) in
        rw (e, ← drop-drop (k - (i + n)) (i + n) (paste l i (drop j l) n), f, drop-drop)

  -- ---- by way of a block b: read into it, and stored from it
  pub block-read : (l b : List A) (j k : ℕ) {x : A} (z : A) → x ≡ get_or l (j + k) z → k < length b → j + k < length l → take k b ≡ take k (drop j l) → take (k + 1) (set b k x) ≡ take (k + 1) (drop j l)
  block-read l b j k {x} z f h r e =
      take_more_set b k x h
      ∙ ap₂ (λ (t : List A) (y : A). t ++ y ∷ []) e (f ∙ sym (get_or-drop j l k z))
      ∙ sym (take-suc (drop j l) k z (omega (arith, length-drop j l)))
      ∙ ap (λ (m : ℕ). take m (drop j l)) (sym (add-one k))

  pub block-moved : (l b : List A) (i j n : ℕ) → take n b ≡ take n (drop j l) → paste l i b n ≡ moved i j n l
  unfolding moved
  block-moved l b i j n e = ap (λ (x : List A). take i l ++ x ++ drop (i + n) l) e

  -- std's word for the same
  pub copied-within : (l : List A) (i j n : ℕ) → copy_within l j (j + n) i ≡ moved i j n l
  unfolding moved
  copied-within l i j n =
      let e : j + n - j ≡ n = omega arith in
      ap (λ (k : ℕ). moved i j k l) e

  pub moved_none : (i j : ℕ) (l : List A) → moved i j 0 l ≡ l
  unfolding moved
  moved_none i j l = sym (paste-zero l i (drop j l))

  -- ---- down: k entries are moved, and then the next m
  down-more : (l : List A) (i j k m : ℕ) → i ≤ j → j + (k + m) ≤ length l → moved (i + k) (j + k) m (moved i j k l) ≡ moved i j (k + m) l
  unfolding moved
  down-more l i j k m h r =
      let p = moved i j k l in
      let s : j + k ≤ length l = omega arith in
      let mid : drop (j + k) p ≡ drop (j + k) l = drop-moved l i j k s (j + k) (omega arith) (omega arith) in
      let back : drop (i + k + m) p ≡ drop (i + k + m) l = drop-moved l i j k s (i + k + m) (omega arith) (omega arith) in
      let n : i + k + m ≡ i + (k + m) = omega arith in
      rw (take-moved l i j k s (omega arith), mid, back, n, take-add k m (drop j l), drop-drop k j l, append_assoc (take i l) (take k (drop j l)) (take m (drop (j + k) l)))

  -- c, made of l, has k of n entries moved
  pub record Downed (l : List A) (i j n : ℕ) (c : List A) (k : ℕ) : Type 0 where
    pub long : length c ≡ length l
    pub within : k ≤ n
    pub so_far : c ≡ moved i j k l

  module _ {l : List A} {i j n : ℕ} where
    pub downed-none : Downed l i j n l 0
    downed-none = record { long = refl; within = zero-le; so_far = sym (moved_none i j l) }

    module _ {c : List A} {k : ℕ} (m : Downed l i j n c k) where
      -- a block of b entries more, by which c becomes d
      pub downed-more : {d : List A} (b : ℕ) → i ≤ j → j + n ≤ length l → k + b ≤ n → length d ≡ length c → d ≡ moved (i + k) (j + k) b c → Downed l i j n d (k + b)
      downed-more b h r w q e = record {
        long = q ∙ m.long;
        within = w;
        so_far = e ∙ ap (moved (i + k) (j + k) b) m.so_far ∙ down-more l i j k b h (omega arith);
      }

      pub downed-all : n ≤ k → c ≡ moved i j n l
      downed-all h = let e : k ≡ n = omega arith in m.so_far ∙ rw e

  -- ---- up: the last n entries are moved, and then the m before them
  up-block : (l : List A) (i j m n : ℕ) → j ≤ i → i + (m + n) ≤ length l → moved i j m (moved (i + m) (j + m) n l) ≡ moved i j (m + n) l
  unfolding moved
  up-block l i j m n h r =
      let p = moved (i + m) (j + m) n l in
      let q = take n (drop (j + m) l) ++ drop (i + m + n) l in
      let s : j + m + n ≤ length l = omega arith in
      let front : take i p ≡ take i l = take-before l (i + m) (j + m) n s i (omega arith) (omega arith) in
      let mid : take m (drop j p) ≡ take m (drop j l) = sym (slice_is j m p) ∙ ap (drop j) (take-before l (i + m) (j + m) n s (j + m) (omega arith) (omega arith)) ∙ slice_is j m l in
      let back : drop (i + m) p ≡ q = ap (drop (i + m)) (append_assoc (take (i + m) l) (take n (drop (j + m) l)) (drop (i + m + n) l)) ∙ drop_at (take (i + m) l) q (i + m) (length-take-le (i + m) l (omega arith)) in
      let e : i + m + n ≡ i + (m + n) = omega arith in
      rw (front, mid, back, e, take-add m n (drop j l), drop-drop m j l) (simp append_assoc)

  -- of n entries k are left to move: all of them, m fewer, and none
  pub up_start : (i j n : ℕ) (l : List A) → l ≡ moved (i + n) (j + n) (n - n) l
  up_start i j n l =
      let e : n - n ≡ 0 = omega arith in
      rw e (sym (moved_none (i + n) (j + n) l))

  pub up_more : (l : List A) (i j n k m : ℕ) → j ≤ i → i + n ≤ length l → k ≤ n → m ≤ k
      → moved (i + (k - m)) (j + (k - m)) m (moved (i + k) (j + k) (n - k) l) ≡ moved (i + (k - m)) (j + (k - m)) (n - (k - m)) l
  up_more l i j n k m h r s t =
      let a : i + k ≡ i + (k - m) + m = omega arith in
      let b : j + k ≡ j + (k - m) + m = omega arith in
      let e : n - (k - m) ≡ m + (n - k) = omega arith in
      rw (a, b, e) (up-block l (i + (k - m)) (j + (k - m)) m (n - k) (omega arith) (omega arith))

  pub up_done : (i j n k : ℕ) (l : List A) → k ≡ 0 → moved (i + k) (j + k) (n - k) l ≡ moved i j n l
  up_done i j n k l h =
      let a : i + k ≡ i = omega arith in
      let b : j + k ≡ j = omega arith in
      let e : n - k ≡ n = omega arith in
      rw (a, b, e)

-- ---- to the front: the stretch from `first` up to `end` moved, and the rest zeroed
module _ {A : Type 0} (z : A) (from to : ℕ) (l : List A) (end first : ℕ) (at-end : end ≡ min to (length l)) (at_first : first ≡ min from end) where
  front_kept : slice from to l ≡ take (end - first) (drop first l)
  front_kept =
      ap (drop from) (sym (take_min to l) ∙ ap (λ (k : ℕ). take k l) (sym at-end))
      ∙ begun (split from end)
      ∙ slice-part first end l (omega arith)
    where
      past : (k : ℕ) → end ≤ k → drop k (take end l) ≡ []
      past k h =
          let e : length (take end l) ≤ k = rw (length-take-le end l (omega arith)) h in
          drop_of_length-le (take end l) e

      begun : (from < end) ⊎ (end ≤ from) → drop from (take end l) ≡ drop first (take end l)
      begun (inl h) =
          let e : first ≡ from = omega arith in
          rw e
      begun (inr h) = past from h ∙ sym (past first (omega arith))

  pub front-moved : zero_from z (end - first) (moved 0 first (end - first) l) ≡ move_front z from to l
  unfolding move_front filled
  front-moved =
      let n = end - first in
      let s : first + n ≤ length l = omega arith in
      let front : take n (moved 0 first n l) ≡ take n (drop first l) = ap (λ (k : ℕ). take k (moved 0 first n l)) (sym (zero-add n)) ∙ take-moved l 0 first n s zero-le in
      let size : length (take n (drop first l)) ≡ n = length-take-le n (drop first l) (omega (arith, length-drop first l)) in
      zero_is z n (moved 0 first n l) ∙ rw (front, length_moved l 0 first n s (omega arith), front_kept, size)
