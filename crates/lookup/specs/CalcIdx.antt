-- `calc_idx` on a list searched alone, R62: questions 1, 2, 10 and 11 (R123), and what each case of the answer says. Definitions only.
use Rattle.std.specs.Prelude.{ℕ, ◌*◌, Bool, ◌&&◌, cond, List, leb, length, Float, true, Result, Ok, Err}
use Rattle.std.specs.Float.Ieee.Scale.{finite}
use Rattle.answer.specs.declared.Refusal.{Refusal}
use Rattle.answer.specs.declared.Question.TheVariants.{Finite, Sound}
use Rattle.answer.specs.Answers.{number, refused_at}
use Rattle.lookup.specs.declared.lin_search_hint.Dir.{Dir}
use Rattle.lookup.specs.declared.path_res_coeff.PathResCoeff.{PathResCoeff}
use Rattle.lookup.specs.Coeff.{coeffs, coeffs_finite}
use Rattle.lookup.specs.Search.{searched, in_range, hint_allowed}

-- an answer as R102 wants it told: number, place, and the index found, 0 for a refusal
pub record Indexed : Type 0 where
  pub number : ℕ
  pub place : ℕ
  pub index : ℕ

abbrev pub done_at : ℕ → Indexed
done_at i = record { number = 0; place = 0; index = i }

abbrev pub refused : ℕ → Indexed
refused question = record { number = question; place = 0; index = 0 }

-- number, place and index of a result
abbrev pub indexed : Result ℕ Refusal → Indexed
indexed (Ok i) = done_at i
indexed (Err e) = record { number = number e.question; place = e.place; index = 0 }

-- a search in records that are known to be sound: questions 10 and 11, and then the index
unfoldable pub find_in : Dir → Float → ℕ → List PathResCoeff → Indexed
find_in dir x hint rs = cond (in_range dir x rs) (cond (hint_allowed dir hint rs) (done_at (searched dir x hint rs)) (refused 11)) (refused 10)

-- question 2 of a list searched alone: it is not empty, and the column holds its records
unfoldable pub list_sound : ℕ → List Float → Bool
list_sound n c = leb 1 n && leb (3 * n) (length c)

-- questions 1 and 2 of n records of a column, and the list that they are; `also` is question 1 of the call's other numbers
unfoldable pub judged : Bool → ℕ → List Float → Result (List PathResCoeff) Refusal
unfolding list_sound
judged also n c = cond (also && coeffs_finite true n c) (cond (list_sound n c) (Ok (coeffs n c)) (refused_at Sound 0)) (refused_at Finite 0)

unfoldable pub calc_idx : Dir → Float → ℕ → ℕ → List Float → Indexed
unfolding find_in list_sound
calc_idx dir x hint n c =
    cond (finite x && coeffs_finite true n c)
    (cond (list_sound n c) (find_in dir x hint (coeffs n c)) (refused 2))
    (refused 1)
