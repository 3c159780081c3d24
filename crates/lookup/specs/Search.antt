-- The search from a hint, R60 and R61: lin_search_hint.rs and path_res_coeff.rs, `calc_idx`. Total on every list. Definitions only.
use Rattle.std.specs.Prelude.{ℕ, zero, suc, ◌+◌, ◌-◌, Bool, cond, List, [], ◌∷◌, ltb, length, drop, Float}
use Rattle.std.specs.Float.Ieee as Ieee
use Rattle.lookup.specs.declared.lin_search_hint.Dir.{Dir}
use Rattle.lookup.specs.declared.lin_search_hint.Dir.TheVariants.{Unk, Fwd, Bwd}
use Rattle.lookup.specs.declared.path_res_coeff.PathResCoeff.{PathResCoeff}
use Rattle.lookup.specs.Coeff.{stands_at, offset_at}

-- how many records at the front are before x
unfoldable pub count_before : Float → List PathResCoeff → ℕ
count_before x [] = 0
count_before x (g ∷ rs) = cond (Ieee.lt (stands_at g) x) (suc (count_before x rs)) 0

-- R60: Fwd and Unk go up to the first record whose successor is not before the offset
unfoldable pub forwards : Float → ℕ → List PathResCoeff → ℕ
unfolding count_before
forwards x hint rs = hint + count_before x (drop (suc hint) rs)

-- the last of the places 0 to i where an offset is not after x, and 0 where none is
unfoldable pub last_not_after : (ℕ → Float) → Float → ℕ → ℕ
last_not_after at x zero = zero
last_not_after at x (suc i) = cond (Ieee.lt x (at (suc i))) (last_not_after at x i) (suc i)

-- R61: Bwd goes down to the first record that is not after the offset
abbrev pub backwards : Float → ℕ → List PathResCoeff → ℕ
backwards x hint rs = last_not_after (offset_at rs) x hint

unfoldable pub searched : Dir → Float → ℕ → List PathResCoeff → ℕ
unfolding forwards last_not_after
searched Unk x hint rs = forwards x hint rs
searched Fwd x hint rs = forwards x hint rs
searched Bwd x hint rs = backwards x hint rs

-- question 10 (R113): Fwd and Unk not past the last record, Bwd not before the first
unfoldable pub in_range : Dir → Float → List PathResCoeff → Bool
in_range Unk x rs = Ieee.le x (offset_at rs (length rs - 1))
in_range Fwd x rs = Ieee.le x (offset_at rs (length rs - 1))
in_range Bwd x rs = Ieee.le (offset_at rs 0) x

-- question 11 (R114): Fwd and Unk from below the last index, Bwd from an index
unfoldable pub hint_allowed : Dir → ℕ → List PathResCoeff → Bool
hint_allowed Unk hint rs = ltb (suc hint) (length rs)
hint_allowed Fwd hint rs = ltb (suc hint) (length rs)
hint_allowed Bwd hint rs = ltb hint (length rs)
