-- A record by its entries: what reading and writing one entry after the other does.
use Prim.Native.Nat.{ℕ, zero, suc, ◌+◌, ◌-◌, ◌*◌, ◌/◌, ◌≤◌, ◌<◌}
use native.Mathlib.Nat.{add-zero, mul_comm, not-suc-le-zero, le_of_suc-le-suc}
use native.Mathlib.Numerals.{add-one}
use native.Mathlib.Omega.{arith}
use mathlib.Core.Path.{◌≡◌, refl, sym, ap, ap₂, ◌∙◌}
use mathlib.Core.List.{List, [], ◌∷◌, ◌++◌, append-nil}
use lib.ListN.{length, take, drop, get_or, set, drop_of_length-le, length-drop, replicate}
use lib.Seq.{sets, set_out, get_or-drop, take_all}
use borrow.Rule.Slice.PartMut.{put_mid, mid_len, Post-is}
use Rattle.std.proofs.Math.Nat.{div-lt_iff_lt-mul, le-div_iff_mul-le}
use lib.Ieee.{Float}
use Rattle.ieee.specs.Number.{+0}
use Rattle.column.specs.declared.Two.{Two}
use Rattle.column.specs.declared.Three.{Three}
use Rattle.column.specs.declared.Four.{Four}
use Rattle.column.specs.Entries.{zero_range}
use Rattle.column.proofs.Filling.{range_inside}
use Rattle.column.specs.Records.{Layout, record_at, put_record, two, three, four}

module _ {A : Type 0} where
  first : (c : List A) (n : ℕ) (d : A) → get_or (drop n c) 0 d ≡ get_or c n d
  first c n d = get_or-drop n c 0 d ∙ ap (λ (k : ℕ). get_or c k d) (add-zero n)

  sets-out : (c : List A) (k : ℕ) (vs : List A) → length c ≤ k → sets c k vs ≡ c
  sets-out c k [] h = refl
  sets-out c k (v ∷ vs) h = ap (λ (l : List A). sets l (suc k) vs) (set_out c k v h) ∙ sets-out c (suc k) vs (omega arith)

  sets-cons : (x : A) (c : List A) (k : ℕ) (vs : List A) → sets (x ∷ c) (suc k) vs ≡ x ∷ sets c k vs
  sets-cons x c k [] = refl
  sets-cons x c k (v ∷ vs) = sets-cons x (set c k v) (suc k) vs

  -- entries stored from k on are those stored at the front of what is behind k
  pub sets-behind : (c : List A) (k : ℕ) (vs : List A) → k ≤ length c → sets c k vs ≡ take k c ++ sets (drop k c) 0 vs
  sets-behind c zero vs h = refl
  sets-behind [] (suc k) vs h = absurd (not-suc-le-zero h)
  sets-behind (x ∷ c) (suc k) vs h = sets-cons x c k vs ∙ ap (λ (l : List A). x ∷ l) (sets-behind c k vs (le_of_suc-le-suc h))

  -- what is behind k, taken whole and put back
  pub tail_whole : (c : List A) (k : ℕ) → take (length c - k) (drop k c) ≡ drop k c
  tail_whole c k = take_all (length c - k) (drop k c) (omega (arith, length-drop k c))

  pub tail_put : (c : List A) (k : ℕ) (ys : List A) → put_mid k (length c - k) c ys ≡ take k c ++ ys
  tail_put c k ys =
      ap (λ (l : List A). take k c ++ (ys ++ l)) (drop_of_length-le (drop k c) (omega (arith, length-drop k c)))
      ∙ ap (λ (l : List A). take k c ++ l) (append-nil ys)

  -- copies of one entry in the place of those from a up to e
  pub copies : (l : List A) (a e : ℕ) (x z : A) → e ≤ length l → x ≡ z → replicate (length (take (e - a) (drop a l))) x ≡ replicate (e - a) z
  copies l a e x z h q = rw (q, mid_len a e l h)

  pub zeros_put : (z : A) (l : List A) (a e : ℕ) (ys : List A) → a ≤ e → e ≤ length l → ys ≡ replicate (e - a) z → put_mid a (e - a) l ys ≡ zero_range z a e l
  zeros_put z l a e ys h k q =
      ap₂ (λ (v t : List A). take a l ++ (v ++ t)) q (Post-is a e l h)
      ∙ sym (range_inside z l a e h k)

-- record i begins past the end where so many records do not fit
pub past_end : (n w i : ℕ) → 0 < w → n / w < i → n ≤ w * i
past_end n w i h k =
    let e : n < i * w = (div-lt_iff_lt-mul h).0 k in
    omega (arith, mul_comm w i)

-- and at its end or before it otherwise
pub before_end : (n w i : ℕ) → 0 < w → i ≤ n / w → w * i ≤ n
before_end n w i h k =
    let e : i * w ≤ n = (le-div_iff_mul-le h).0 k in
    omega (arith, mul_comm w i)

module _ {A R : Type 0} (L : Layout A R) (c : List A) (i : ℕ) where
  -- past the end
  pub record-past : length c ≤ L.width * i → record_at L c i ≡ L.unpack []
  unfolding record_at
  record-past h = ap L.unpack (drop_of_length-le c h)

  pub put-past : (r : R) → length c ≤ L.width * i → put_record L c i r ≡ c
  unfolding put_record
  put-past r h = sets-out c (L.width * i) (L.pack r) h

-- two, three and four entries
module _ (c : List Float) (i : ℕ) where
  pub two-entries : record_at two c i ≡ record { 0 = get_or c (2 * i) +0; 1 = get_or c (2 * i + 1) +0 }
  unfolding record_at
  two-entries = rw (first c (2 * i) +0, get_or-drop (2 * i) c 1 +0)

  pub two-put : (r : Two) → put_record two c i r ≡ set (set c (2 * i) r.0) (2 * i + 1) r.1
  unfolding put_record
  two-put r = rw (add-one (2 * i))

  pub three-entries : record_at three c i ≡ record { 0 = get_or c (3 * i) +0; 1 = get_or c (3 * i + 1) +0; 2 = get_or c (3 * i + 2) +0 }
  unfolding record_at
  three-entries = rw (first c (3 * i) +0, get_or-drop (3 * i) c 1 +0, get_or-drop (3 * i) c 2 +0)

  pub three-put : (r : Three) → put_record three c i r ≡ set (set (set c (3 * i) r.0) (3 * i + 1) r.1) (3 * i + 2) r.2
  unfolding put_record
  three-put r =
      let e : 3 * i + 2 ≡ suc (suc (3 * i)) = omega arith in
      rw (add-one (3 * i), e)

module _ (c : List ℕ) (i : ℕ) where
  pub four-entries : record_at four c i ≡ record { 0 = get_or c (4 * i) 0; 1 = get_or c (4 * i + 1) 0; 2 = get_or c (4 * i + 2) 0; 3 = get_or c (4 * i + 3) 0 }
  unfolding record_at
  four-entries = rw (first c (4 * i) 0, get_or-drop (4 * i) c 1 0, get_or-drop (4 * i) c 2 0, get_or-drop (4 * i) c 3 0)

  pub four-put : (r : Four) → put_record four c i r ≡ set (set (set (set c (4 * i) r.0) (4 * i + 1) r.1) (4 * i + 2) r.2) (4 * i + 3) r.3
  unfolding put_record
  four-put r =
      let e : 4 * i + 2 ≡ suc (suc (4 * i)) = omega arith in
      let g : 4 * i + 3 ≡ suc (suc (suc (4 * i))) = omega arith in
      rw (add-one (4 * i), e, g)
