-- Links joined to a path do to its link points and speed points what entering them does to the book's ends and points.
use Prim.Native.Nat.{ℕ, ◌<◌}
use native.Mathlib.Omega.{arith}
use mathlib.Core.Path.{◌≡◌, sym, ap₂}
use mathlib.Core.List.{List, [], ◌∷◌}
use lib.ListN.{length}
use lib.Ieee.{Float}
use Rattle.speed.specs.Points.{Point}
use Rattle.link.specs.declared.train_params.TrainParams.{TrainParams}
use Rattle.link.specs.Train.{length_of}
use Rattle.link.specs.Table.{LinkTable}
use Rattle.path.specs.Records.{Path, offset_of, end_point}
use Rattle.path_speeds.specs.Limits.{sets_of, lay_all, laying_at, entering_at}
use Rattle.path_join.specs.Joined.{join, join_all, started}
use Rattle.book.specs.Book.{Book, last_end, enter_link, enter_links}
use Rattle.book.proofs.Matching.{Matched}
use Rattle.book.proofs.Ends.{some_more}
use Rattle.book.proofs.LinkEnds.{same_count, last-end}
use Rattle.book.proofs.JoinedLink.{joined-ends}

-- the starting net value is none of either
pub started-matched : (t : LinkTable) (path : Path) (b : Book) (ns : List ℕ) → Matched path b → Matched (started t path ns) b
unfolding started
started-matched t path b ns m = record { links = m.links; points = m.points }

-- There must be an end: without one the path's base would be +0 and the book's NaN.
module _ (train : TrainParams) (t : LinkTable) where
  join-matched : (path : Path) (b : Book) (n : ℕ) → 0 < length b.ends → Matched path b → Matched (join train t path n) (enter_link train (length_of train) t b n)
  unfolding join enter_link laying_at entering_at
  join-matched path b n some m =
      let point : 0 < length path.links = omega (arith, same_count path.links b.ends m.links, some) in
      let at : offset_of (end_point path.links) ≡ last_end b.ends = sym (last-end path.links b.ends m.links point) in
      record {
        links = joined-ends train (length_of train) t b path.links n point m.links;
        points = ap₂ (λ (ps : List Point) (x : Float). lay_all ps (laying_at train (length_of train) (sets_of t) x n)) m.points at;
      }

  all-matched : (path : Path) (b : Book) (ns : List ℕ) → 0 < length b.ends → Matched path b → Matched (join_all train t path ns) (enter_links train (length_of train) t b ns)
  unfolding join_all enter_links
  all-matched path b [] some m = m
  all-matched path b (n ∷ ns) some m = all-matched (join train t path n) (enter_link train (length_of train) t b n) ns (unfold enter_link in some_more b.ends _) (join-matched path b n some m)

  pub joined-matched : (path : Path) (b : Book) (ns : List ℕ) → 0 < length b.ends → Matched path b → Matched (join_all train t (started t path ns) ns) (enter_links train (length_of train) t b ns)
  joined-matched path b ns some m = all-matched (started t path ns) b ns some (started-matched t path b ns m)
