-- What a link table says of the link that a list names: its numbers, length, samples and power limits. Definitions only.
use Rattle.std.specs.Prelude.{ℕ, ◌+◌, Bool, cond, List, [], ◌∷◌, get_or, Float}
use Rattle.ieee.specs.Number.{+0, ◌⊕◌}
use Rattle.link.specs.Lists.{up_from}
use Rattle.link.specs.Table.{LinkTable, Sample, PowerLimit, sample_at, power_at, numbers_of}
use Rattle.path_stretches.specs.Stretches.{record_count}

-- the columns that say where a link's grades end: numbers, lengths and elevations
pub record Rises : Type 0 where
  pub links : List ℕ
  pub lengths : List Float
  pub elevs : List Float

abbrev pub rises : List ℕ → List Float → List Float → Rises
rises links lengths elevs = record { links = links; lengths = lengths; elevs = elevs }

abbrev pub rises_of : LinkTable → Rises
rises_of t = rises t.links t.lengths t.elevs

-- ---- of link n

abbrev pub length_at : List Float → ℕ → Float
length_at lengths n = get_or lengths n +0

abbrev pub elevs_at : List ℕ → List Float → ℕ → List Sample
elevs_at links elevs n = up_from (sample_at elevs) (numbers_of links n).elevs_first (numbers_of links n).elevs_count

abbrev pub headings_at : List ℕ → List Float → ℕ → List Sample
headings_at links headings n = up_from (sample_at headings) (numbers_of links n).headings_first (numbers_of links n).headings_count

-- of the curves, or of the grades
abbrev pub samples_at : Bool → Rises → List Float → ℕ → List Sample
samples_at curves r headings n = cond curves (headings_at r.links headings n) (elevs_at r.links r.elevs n)

abbrev pub powers_at : List ℕ → List Float → List ℕ → ℕ → List PowerLimit
powers_at links pool districts n = up_from (power_at pool districts) (numbers_of links n).powers_first (numbers_of links n).powers_count

-- how many grades, curves and power limits the link has
abbrev pub grades_in : List ℕ → ℕ → ℕ
grades_in links n = record_count (numbers_of links n).elevs_count

abbrev pub curves_in : List ℕ → ℕ → ℕ
curves_in links n = record_count (numbers_of links n).headings_count

abbrev pub powers_in : List ℕ → ℕ → ℕ
powers_in links n = (numbers_of links n).powers_count

abbrev pub records_in : Bool → List ℕ → ℕ → ℕ
records_in curves links n = cond curves (curves_in links n) (grades_in links n)

-- the sum of a figure of each listed link
unfoldable pub sum_of : (ℕ → ℕ) → List ℕ → ℕ
sum_of figure [] = 0
sum_of figure (n ∷ ns) = figure n + sum_of figure ns

-- where grades end that begin at base: at the last elevation, or at the length where there is none
abbrev pub last_offset : Float → List Sample → Float
last_offset o [] = o
last_offset o (s ∷ ss) = last_offset s.offset ss

abbrev pub end_from : Float → Float → List Sample → Float
end_from base length [] = base ⊕ length
end_from base length (s ∷ []) = base
end_from base length (s ∷ r ∷ ss) = base ⊕ last_offset r.offset ss

unfoldable pub grade_end : Rises → Float → ℕ → Float
grade_end r base n = end_from base (length_at r.lengths n) (elevs_at r.links r.elevs n)
