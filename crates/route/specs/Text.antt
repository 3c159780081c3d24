-- Fields of a line of text: apart by blanks, up to the line's end or a comment. Bytes are numbers. Definitions only.
use Rattle.std.specs.Prelude.{ℕ, zero, suc, ◌+◌, ◌-◌, Bool, ◌||◌, not, cond, List, [], ◌∷◌, eqb, leb, ltb, length, take, drop, Option, Some, None, ◌≡◌}
use Rattle.route.specs.declared.text.Span.{Span}

-- a blank, a tab or a carriage return
unfoldable pub is_blank : ℕ → Bool
is_blank b = eqb b 32 || (eqb b 9 || eqb b 13)

-- no blank, no line end and no #
unfoldable pub in_field : ℕ → Bool
in_field b = not (is_blank b || (eqb b 10 || eqb b 35))

-- how many bytes at the front are all p
unfoldable pub run : (ℕ → Bool) → List ℕ → ℕ
run p [] = 0
run p (b ∷ l) = cond (p b) (suc (run p l)) 0

-- the first place from `at` on whose byte is not p, or the end
unfoldable pub past : (ℕ → Bool) → List ℕ → ℕ → ℕ
unfolding run
past p text at = at + run p (drop at text)

-- the field that begins at `at` or behind the blanks there
unfoldable pub field_from : List ℕ → ℕ → Span
unfolding past
field_from text at = record { from = past is_blank text at; to = past in_field text (past is_blank text at) }

-- the k-th field from there
unfoldable pub field : List ℕ → ℕ → ℕ → Span
unfolding field_from
field text at zero = field_from text at
field text at (suc k) = field text (field_from text at).to k

-- the bytes of a span; none where it lies outside the text
unfoldable pub bytes_of : List ℕ → Span → List ℕ
bytes_of text s = cond (leb s.to (length text)) (take (s.to - s.from) (drop s.from text)) []

-- no line end
unfoldable pub in_line : ℕ → Bool
in_line b = not (eqb b 10)

-- the place behind the first line end from `at` on; the text's end where there is none
unfoldable pub next_line : List ℕ → ℕ → ℕ
unfolding in_line past
next_line text at =
    let end = past in_line text at in
    cond (ltb end (length text)) (suc end) (length text)

-- the line at `at` of a text is the next one, where there is one, and the one behind it comes next
pub record NextLine (text : List ℕ) (at : ℕ) (line : Option ℕ) (text' : List ℕ) (at' : ℕ) : Type 0 where
  pub same : text' ≡ text
  pub told : line ≡ cond (ltb at (length text)) (Some at) None
  pub behind : at' ≡ cond (ltb at (length text)) (next_line text at) at
