-- The place of the first byte of a kind: what is before it and behind it.
use Rattle.std.proofs.Common.{◌≡◌, ℕ, ◌+◌, ◌-◌, ◌≤◌, Bool, true, false, cond, List, [], length, take, drop, sym, refl, ap, ◌∙◌, arith, position, Some, None, nat_lt, ltb-false}
use Rattle.std.specs.List.{position_or_len, before_first, after_first}
use Rattle.std.proofs.lemmas.List.{take_all, take_rest, drop_all}
use Rattle.std.proofs.lemmas.Option.{cond_some}

cond-none : (t : Bool) (x : ℕ) → cond t (Some x) None ≡ None → t ≡ false
cond-none true x e = absurd (cc)
cond-none false x e = refl

module _ (p : ℕ → Bool) (l : List ℕ) where
  at : (i : ℕ) → position p l ≡ Some i → position_or_len p l ≡ i
  at i e = (cond_some (nat_lt (position_or_len p l) (length l)) (position_or_len p l) i e).1

  nowhere : position p l ≡ None → length l ≤ position_or_len p l
  nowhere e = ltb-false (position_or_len p l) (length l) (cond-none (nat_lt (position_or_len p l) (length l)) (position_or_len p l) e)

  pub before-some : (i : ℕ) → position p l ≡ Some i → take i l ≡ before_first p l
  before-some i e = ap (λ (n : ℕ). take n l) (sym (at i e))

  pub before-none : position p l ≡ None → l ≡ before_first p l
  before-none e = sym (take_all (position_or_len p l) l (nowhere e))

  pub behind-some : (i : ℕ) → position p l ≡ Some i → take (length l - (i + 1)) (drop (i + 1) l) ≡ after_first p l
  behind-some i e = take_rest l (i + 1) ∙ ap (λ (n : ℕ). drop (n + 1) l) (sym (at i e))

  pub behind-none : position p l ≡ None → [] ≡ after_first p l
  behind-none e =
      let h = nowhere e in
      let k : length l ≤ position_or_len p l + 1 = omega arith in
      sym (drop_all (position_or_len p l + 1) l k)
