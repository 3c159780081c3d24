-- The path with the listed links joined, one kind of record at a time.
use Prim.Native.Nat.{ℕ}
use mathlib.Core.Path.{◌≡◌, refl, ap, ◌∙◌}
use mathlib.Core.Bool.{true, false}
use mathlib.Core.List.{List, [], ◌∷◌}
use lib.Ieee.{Float}
use Rattle.lookup.specs.declared.path_res_coeff.PathResCoeff.{PathResCoeff}
use Rattle.lookup.specs.Coeff.{stands_at, net_of}
use Rattle.link.specs.declared.train_params.TrainParams.{TrainParams}
use Rattle.link.specs.Table.{LinkTable}
use Rattle.path.specs.Records.{Path, last_coeff}
use Rattle.path_stretches.specs.Stretches.{stretches}
use Rattle.path_join.specs.Listed.{Rises, rises_of, length_at, samples_at, grade_end}
use Rattle.path_join.specs.Joined.{join_records, join_powers, join, join_all}
use Rattle.path_join.specs.ByKind.{joined_points, joined_records, joined_powers}
use Rattle.path_stretches.proofs.Ended.{stands_after}
use Rattle.path_extend.proofs.StretchesEnd.{stretches-end}

-- where the grades end once a link is joined
pub base-next : (train : TrainParams) (r : Rises) (headings : List Float) (gs : List PathResCoeff) (n : ℕ) → stands_at (last_coeff (join_records false train r headings (stands_at (last_coeff gs)) gs n)) ≡ grade_end r (stands_at (last_coeff gs)) n
unfolding join_records grade_end
base-next train r headings gs n =
    let base = stands_at (last_coeff gs) in
    let net = net_of (last_coeff gs) in
    stands_after gs (stretches false train base net (length_at r.lengths n) (samples_at false r headings n))
    ∙ stretches-end false train base net (length_at r.lengths n) (samples_at false r headings n)

module _ (train : TrainParams) (t : LinkTable) where
  abbrev base : Path → Float
  base path = stands_at (last_coeff path.grades)

  base-joined : (path : Path) (n : ℕ) → base (join train t path n) ≡ grade_end (rises_of t) (base path) n
  unfolding join
  base-joined path n = base-next train (rises_of t) t.headings path.grades n

  pub links-joined : (path : Path) (ns : List ℕ) → (join_all train t path ns).links ≡ joined_points t.links t.lengths path.links ns
  unfolding join_all join joined_points
  links-joined path [] = refl
  links-joined path (n ∷ ns) = links-joined (join train t path n) ns

  pub grades-joined : (path : Path) (ns : List ℕ) → (join_all train t path ns).grades ≡ joined_records false train (rises_of t) t.headings (base path) path.grades ns
  unfolding join_all join joined_records
  grades-joined path [] = refl
  grades-joined path (n ∷ ns) =
      grades-joined (join train t path n) ns
      ∙ ap (λ (o : Float). joined_records false train (rises_of t) t.headings o (join_records false train (rises_of t) t.headings (base path) path.grades n) ns) (base-joined path n)

  pub curves-joined : (path : Path) (ns : List ℕ) → (join_all train t path ns).curves ≡ joined_records true train (rises_of t) t.headings (base path) path.curves ns
  unfolding join_all join joined_records
  curves-joined path [] = refl
  curves-joined path (n ∷ ns) =
      curves-joined (join train t path n) ns
      ∙ ap (λ (o : Float). joined_records true train (rises_of t) t.headings o (join_records true train (rises_of t) t.headings (base path) path.curves n) ns) (base-joined path n)

  pub powers-joined : (path : Path) (ns : List ℕ) → (join_all train t path ns).powers ≡ joined_powers (rises_of t) t.powers t.districts (base path) path.powers ns
  unfolding join_all join joined_powers
  powers-joined path [] = refl
  powers-joined path (n ∷ ns) =
      powers-joined (join train t path n) ns
      ∙ ap (λ (o : Float). joined_powers (rises_of t) t.powers t.districts o (join_powers t.links t.powers t.districts (base path) path.powers n) ns) (base-joined path n)

  pub finished-joined : (path : Path) (ns : List ℕ) → (join_all train t path ns).finished ≡ path.finished
  unfolding join_all join
  finished-joined path [] = refl
  finished-joined path (n ∷ ns) = finished-joined (join train t path n) ns
