-- What the functions below `reindex` and the proofs need: other numbers for links, told over the four numbers of each link point.
-- No public contract cites it. Definitions only.
use Rattle.std.specs.Prelude.{ℕ, List, [], ◌∷◌}
use Rattle.column.specs.declared.Four.{Four}
use Rattle.column.specs.Entries.{filled}
use Rattle.column.specs.Records.{flat, four}
use Rattle.path_reindex.specs.Reindex.{new_number}

-- another number for a point, which is what `reindex` changes of it
abbrev pub with_fourth : ℕ → Four → Four
with_fourth n r = record { 0 = r.0; 1 = r.1; 2 = r.2; 3 = n }

unfoldable pub fours_from : ℕ → List ℕ → Four → List Four → List Four
fours_from last new r [] = with_fourth last r ∷ []
fours_from last new r (q ∷ qs) = with_fourth (new_number new r.3) r ∷ fours_from (new_number new r.3) new q qs

unfoldable pub renumbered_fours : List ℕ → List Four → List Four
unfolding fours_from
renumbered_fours new [] = []
renumbered_fours new (r ∷ rs) = fours_from r.3 new r rs

-- a column of n entries that holds these and zeros past them
abbrev pub fours_column : ℕ → List Four → List ℕ
fours_column n rs = filled 0 n (flat four rs)
