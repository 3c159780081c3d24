-- Grades and curves of the listed links: those of one link, and those that are left.
use Prim.Native.Nat.{ℕ, ◌+◌}
use native.Mathlib.Omega.{arith}
use mathlib.Core.Path.{◌≡◌, sym, ap, ap₂, ◌∙◌}
use mathlib.Core.Bool.{Bool, true, false}
use mathlib.Core.List.{List, [], ◌∷◌}
use lib.ListN.{length}
use lib.Ieee.{Float}
use Rattle.ieee.specs.Number.{+0}
use Rattle.column.specs.Entries.{filled}
use Rattle.column.specs.Records.{flat}
use Rattle.lookup.specs.declared.path_res_coeff.PathResCoeff.{PathResCoeff}
use Rattle.lookup.specs.Coeff.{triple, net_of}
use Rattle.lookup.proofs.Coeffs.{length-coeffs}
use Rattle.link.specs.declared.network.LinkNumbers.{LinkNumbers}
use Rattle.link.specs.declared.train_params.TrainParams.{TrainParams}
use Rattle.link.specs.Lists.{up_from}
use Rattle.link.specs.Table.{Sample, sample_at, numbers_of}
use Rattle.path.specs.Records.{last_coeff}
use Rattle.path.specs.declared.lines.Lines.{Lines}
use Rattle.path.specs.declared.lines.Lines.TheVariants.{Grades, Curves}
use Rattle.path.specs.Sound.{is_curves}
use Rattle.path_stretches.specs.Stretches.{stretches, stretch_count, lay_stretches, Laid}
use Rattle.path_stretches.specs.declared.coeff_column.CoeffColumn.{CoeffColumn}
use Rattle.path_stretches.specs.Becomes.{coeffs_of, HasRoom, Becomes}
use Rattle.path_stretches.proofs.StretchSteps.{count-range}
use Rattle.path_stretches.proofs.StretchesLaid.{becomes-as, becomes-on}
use Rattle.path_join.specs.Listed.{Rises, length_at, samples_at, records_in, sum_of, grade_end}
use Rattle.path_join.specs.Joined.{join_records}
use Rattle.path_join.specs.ByKind.{joined_records}
use Rattle.path_join.proofs.Left.{sum-next}
use Rattle.path_stretches.proofs.Ended.{length-laid, length-stretches}

-- ---- of one link
module _ (curves : Bool) (train : TrainParams) (r : Rises) (headings : List Float) (base : Float) (rs : List PathResCoeff) (i : ℕ) where
  length-samples : (c : Bool) → stretch_count (samples_at c r headings i) ≡ records_in c r.links i
  length-samples true = count-range (sample_at headings) (numbers_of r.links i).headings_first (numbers_of r.links i).headings_count
  length-samples false = count-range (sample_at r.elevs) (numbers_of r.links i).elevs_first (numbers_of r.links i).elevs_count

  length-join : length (join_records curves train r headings base rs i) ≡ length rs + records_in curves r.links i
  unfolding join_records
  length-join =
      length-laid rs (stretches curves train base (net_of (last_coeff rs)) (length_at r.lengths i) (samples_at curves r headings i))
      ∙ ap (λ (k : ℕ). length rs + k) (length-stretches curves train base (net_of (last_coeff rs)) (length_at r.lengths i) (samples_at curves r headings i) ∙ length-samples curves)

-- what the code reads of the link: a pool, the first of its samples and their count
abbrev pub samples_of : Lines → LinkNumbers → List Float → List Float → List Float × ℕ × ℕ
samples_of Grades l elevs headings = (elevs, l.elevs_first, l.elevs_count)
samples_of Curves l elevs headings = (headings, l.headings_first, l.headings_count)

abbrev pub read : List Float × ℕ × ℕ → List Sample
read p = up_from (sample_at p.0) p.1 p.2

samples-read : (r : Rises) (headings : List Float) (i : ℕ) (lines : Lines) {l : LinkNumbers} {p : List Float × ℕ × ℕ} → l ≡ numbers_of r.links i → p ≡ samples_of lines l r.elevs headings → read p ≡ samples_at (is_curves lines) r headings i
samples-read r headings i Grades e f = rw (f, e)
samples-read r headings i Curves e f = rw (f, e)

pub lines-room :
    (links : List ℕ) (elevs headings : List Float) (i : ℕ) (lines : Lines) {l : LinkNumbers} {p : List Float × ℕ × ℕ}
    → l ≡ numbers_of links i
    → p ≡ samples_of lines l elevs headings
    → stretch_count (read p) ≡ records_in (is_curves lines) links i
lines-room links elevs headings i Grades {l} e f = rw (f, e) (count-range (sample_at elevs) (numbers_of links i).elevs_first (numbers_of links i).elevs_count)
lines-room links elevs headings i Curves {l} e f = rw (f, e) (count-range (sample_at headings) (numbers_of links i).headings_first (numbers_of links i).headings_count)

-- laid
pub lines-joined :
    (train : TrainParams) (r : Rises) (headings : List Float) (base : Float) (rs : List PathResCoeff) (i : ℕ) (lines : Lines) {l : LinkNumbers} {o : Float} {p : List Float × ℕ × ℕ} {c d : CoeffColumn}
    → l ≡ numbers_of r.links i
    → o ≡ length_at r.lengths i
    → p ≡ samples_of lines l r.elevs headings
    → Becomes c d (lay_stretches rs (stretches (is_curves lines) train base (net_of (last_coeff rs)) o (read p)))
    → Becomes c d (join_records (is_curves lines) train r headings base rs i)
unfolding join_records
lines-joined train r headings base rs i lines e f g h = rw (f, samples-read r headings i lines e g) at h

-- ---- those that are left

-- A column that began as `start`; with the records of the links `left` from base on they are `goal`.
pub record RecordsLeft (curves : Bool) (train : TrainParams) (r : Rises) (headings : List Float) (start : CoeffColumn) (goal : List PathResCoeff) (left : List ℕ) (c : CoeffColumn) (base : Float) : Type 0 where
  pub becomes : Becomes start c (coeffs_of c)
  pub room : HasRoom (sum_of (records_in curves r.links) left) c
  pub is : joined_records curves train r headings base (coeffs_of c) left ≡ goal

module _ {curves : Bool} {train : TrainParams} {r : Rises} {headings : List Float} {start : CoeffColumn} {goal : List PathResCoeff} {left : List ℕ} {c : CoeffColumn} {base : Float} (g : RecordsLeft curves train r headings start goal left c base) where
  -- one link has room
  pub records-room : {i : ℕ} {rest : List ℕ} → left ≡ i ∷ rest → HasRoom (records_in curves r.links i) c
  records-room {i} {rest} e = omega (arith, g.room, sum-next (records_in curves r.links) e)

  -- one link more
  pub records-next :
      {d : CoeffColumn} {i : ℕ} {base' : Float} {rest : List ℕ}
      → left ≡ i ∷ rest
      → Becomes c d (join_records curves train r headings base (coeffs_of c) i)
      → base' ≡ grade_end r base i
      → RecordsLeft curves train r headings start goal rest d base'
  unfolding joined_records
  records-next {d} {i} {base'} {rest} e h f =
      let count : d.count ≡ c.count + records_in curves r.links i =
      sym (length-coeffs d.count d.col.now) ∙ ap length h.holds ∙ length-join curves train r headings base (coeffs_of c) i ∙ ap (λ (k : ℕ). k + records_in curves r.links i) (length-coeffs c.count c.col.now) in
      record {
        becomes = becomes-on g.becomes h;
        room = omega (arith, g.room, h.long, sum-next (records_in curves r.links) e);
        is =
            ap₂ (λ (x : Float) (gs : List PathResCoeff). joined_records curves train r headings x gs rest) f h.holds
            ∙ sym (ap (joined_records curves train r headings base (coeffs_of c)) e)
            ∙ g.is;
      }

  -- no link is left
  pub records-done : left ≡ [] → Becomes start c goal
  unfolding joined_records
  records-done e = becomes-as goal g.becomes (sym (ap (joined_records curves train r headings base (coeffs_of c)) e) ∙ g.is)

-- what is left of the lent column
pub laid-of : {start c : CoeffColumn} {gs : List PathResCoeff} → Becomes start c gs → Laid c.col.now c.count (length start.col.now) gs
laid-of {start} {c} h =
    record {
      count = sym (length-coeffs c.count c.col.now) ∙ ap length h.holds;
      is = c.holds.is ∙ ap₂ (λ (k : ℕ) (gs : List PathResCoeff). filled +0 k (flat triple gs)) h.long h.holds;
    }
