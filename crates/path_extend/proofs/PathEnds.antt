-- The path's end that question 8 carries from link to link is that of the path with the links joined.
use Prim.Native.Nat.{ℕ, ◌-◌}
use mathlib.Core.Path.{◌≡◌, ap}
use mathlib.Core.List.{List}
use lib.ListN.{length, set}
use lib.Ieee.{Float}
use Rattle.ieee.specs.Number.{◌⊕◌}
use Rattle.link.specs.declared.train_params.TrainParams.{TrainParams}
use Rattle.link.specs.Table.{LinkTable, numbers_of}
use Rattle.path.specs.declared.link_point.LinkPoint.{LinkPoint}
use Rattle.path.specs.Records.{Path, link_point, offset_of, no_link_point, end_point}
use Rattle.path_join.specs.Listed.{length_at, grades_in, curves_in, powers_in}
use Rattle.path_join.specs.Joined.{join_point, join_records, join}
use Rattle.path_join.specs.Sums.{path_end, path_end_of, grades_at, curves_at, path_end_after}
use Rattle.path_stretches.proofs.Ended.{last_snoc, stands_after, net-after}

last-joined : (links : List ℕ) (lengths : List Float) (ps : List LinkPoint) (n : ℕ) → offset_of (end_point (join_point links lengths ps n)) ≡ length_at lengths n ⊕ offset_of (end_point ps)
unfolding join_point
last-joined links lengths ps n =
    let number = (numbers_of links n).idx_curr in
    let base = offset_of (end_point ps) in
    ap offset_of
    (last_snoc (set ps (length ps - 1) (link_point base (grades_in links n) (curves_in links n) (powers_in links n) number)) (link_point (length_at lengths n ⊕ base) 0 0 0 number) no_link_point)

pub same-path-end : {a b c d a' b' c' d' : Float} → a ≡ a' → b ≡ b' → c ≡ c' → d ≡ d' → path_end a b c d ≡ path_end a' b' c' d'
same-path-end p q r s = cc

pub path-end-join : (train : TrainParams) (t : LinkTable) (path : Path) (n : ℕ) → path_end_of (join train t path n) ≡ path_end_after train t (path_end_of path) n
unfolding path_end_of path_end_after join join_records
path-end-join train t path n =
    let at = path_end_of path in
    same-path-end
    (last-joined t.links t.lengths path.links n)
    (stands_after path.grades (grades_at train t at n))
    (net-after path.grades (grades_at train t at n))
    (net-after path.curves (curves_at train t at n))
