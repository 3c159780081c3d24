-- The first place where a test fails, byte by byte; one field after another; the bytes of a span; the next line.
use Prim.Native.Nat.{ℕ, zero, suc, ◌+◌, ◌-◌, ◌≤◌, ◌<◌}
use native.Mathlib.Numerals.{add-one}
use native.Mathlib.Omega.{arith}
use mathlib.Core.Path.{◌≡◌, refl, sym, ap, ◌∙◌}
use mathlib.Core.Bool.{Bool, true, false, not, cond}
use mathlib.Core.List.{List, [], ◌∷◌}
use borrow.Author.Tests.{le-leb, lt-leb, lt-ltb, le-ltb}
use lib.ListN.{length, take, drop, length-drop}
use Rattle.std.proofs.Common.{Option, Some, None, unwrap_or, position, nat_lt, ltb-false, ltb-true}
use Rattle.std.proofs.lemmas.Option.{cond_some}
use Rattle.std.specs.List.{position_or_len}
use Rattle.route.specs.Text.{run, past, field_from, field, bytes_of, in_line, next_line}
use Rattle.route.specs.declared.text.Span.{Span}

-- ---- how many bytes at the front are p, by the place of the first that is not
module _ (p : ℕ → Bool) where
  run-prefix-step : (r : Bool) (m n : ℕ) → m ≡ n → cond (not (not r)) (1 + m) 0 ≡ cond r (suc n) 0
  run-prefix-step true m n e = omega (arith, e)
  run-prefix-step false m n e = refl

  run-prefix : (l : List ℕ) → position_or_len (λ b. not (p b)) l ≡ run p l
  unfolding run
  run-prefix [] = refl
  run-prefix (b ∷ l) = run-prefix-step (p b) (position_or_len (λ b. not (p b)) l) (run p l) (run-prefix l)

  run-le-step : (r : Bool) (m n : ℕ) → m ≤ n → cond r (suc m) 0 ≤ suc n
  run-le-step true m n h = omega arith
  run-le-step false m n h = omega arith

  run-le : (l : List ℕ) → run p l ≤ length l
  unfolding run
  run-le [] = omega arith
  run-le (b ∷ l) = run-le-step (p b) (run p l) (length l) (run-le l)

  found-or : (t : Bool) (m n : ℕ) → (t ≡ false → n ≡ m) → unwrap_or (cond t (Some m) None) n ≡ m
  found-or true m n h = refl
  found-or false m n h = h refl

  run-found : (l : List ℕ) → unwrap_or (position (λ b. not (p b)) l) (length l) ≡ run p l
  run-found l =
      let m = position_or_len (λ b. not (p b)) l in
      let same : m ≡ run p l = run-prefix l in
      found-or (nat_lt m (length l)) m (length l) (λ e. omega (arith, ltb-false m (length l) e, run-le l, same)) ∙ same

  -- the first place from `at` on that is not p, where r is the first such place in what is behind `at`
  pub past-found : (l : List ℕ) (at : ℕ) (rest : List ℕ) (r : Option ℕ) (n : ℕ) → rest ≡ drop at l → r ≡ position (λ b. not (p b)) rest → n ≡ unwrap_or r (length rest) → at + n ≡ past p l at
  unfolding past
  past-found l at rest r n e f g = rw (g, f, e, run-found (drop at l))

-- ---- the field behind field i
field-suc : (text : List ℕ) (at i : ℕ) → field text at (suc i) ≡ field_from text (field text at i).to
unfolding field
field-suc text at zero = refl
field-suc text at (suc i) = field-suc text (field_from text at).to i

pub field_next : (text : List ℕ) (at i : ℕ) (s t : Span) → s ≡ field text at i → t ≡ field_from text s.to → t ≡ field text at (i + 1)
field_next text at i s t e f = f ∙ ap (λ (u : Span). field_from text u.to) e ∙ sym (field-suc text at i) ∙ ap (field text at) (sym (add-one i))

-- ---- the bytes of a span
module _ (text : List ℕ) (s : Span) where
  pub bytes_inside : s.to ≤ length text → take (s.to - s.from) (drop s.from text) ≡ bytes_of text s
  unfolding bytes_of
  bytes_inside h = rw (le-leb s.to (length text) h)

  pub bytes-outside : length text < s.to → [] ≡ bytes_of text s
  unfolding bytes_of
  bytes-outside h = rw (lt-leb s.to (length text) h)

  pub bytes-none : s.to ≤ length text → s.to < s.from → [] ≡ bytes_of text s
  bytes-none h k =
      let e : s.to - s.from ≡ 0 = omega arith in
      rw e at (bytes_inside h)

-- ---- the line behind the one at `at`, by the first line end in what is behind `at`
cond-none : (t : Bool) (x : ℕ) → cond t (Some x) None ≡ None → t ≡ false
cond-none true x e = absurd (cc)
cond-none false x e = refl

module _ (l : List ℕ) (at : ℕ) (rest : List ℕ) (r : Option ℕ) (e : rest ≡ drop at l) (f : r ≡ position (λ b. not (in_line b)) rest) where
  abbrev end : ℕ
  end = position_or_len (λ b. not (in_line b)) (drop at l)

  found-at : (o : Option ℕ) → r ≡ o → position (λ b. not (in_line b)) (drop at l) ≡ o
  found-at o g = rw (← e, ← f) g

  pub line-found : (k : ℕ) → r ≡ Some k → at + k + 1 ≡ next_line l at
  unfolding next_line past
  line-found k g =
      let both = cond_some (nat_lt end (length (drop at l))) end k (found-at (Some k) g) in
      let same : k ≡ run in_line (drop at l) = sym both.1 ∙ run-prefix in_line (drop at l) in
      let within : end < length (drop at l) = ltb-true end (length (drop at l)) both.0 in
      let here : at + run in_line (drop at l) < length l = omega (arith, same, both.1, within, length-drop at l) in
      rw (lt-ltb (at + run in_line (drop at l)) (length l) here) (omega (arith, same))

  pub line-last : at < length l → r ≡ None → length l ≡ next_line l at
  unfolding next_line past
  line-last h g =
      let nowhere : length (drop at l) ≤ end = ltb-false end (length (drop at l)) (cond-none (nat_lt end (length (drop at l))) end (found-at None g)) in
      let here : length l ≤ at + run in_line (drop at l) = omega (arith, nowhere, run-prefix in_line (drop at l), length-drop at l) in
      rw (le-ltb (at + run in_line (drop at l)) (length l) here)
