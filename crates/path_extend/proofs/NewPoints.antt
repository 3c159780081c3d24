-- The link points that the listed links bring, and the limits laid at them.
use Prim.Native.Nat.{ℕ, suc, ◌+◌, ◌-◌, ◌<◌}
use native.Mathlib.Omega.{arith}
use mathlib.Core.Path.{◌≡◌, refl, sym, ap, ap₂, ◌∙◌}
use mathlib.Core.Bool.{true, ◌&&◌}
use mathlib.Core.List.{List, [], ◌∷◌, ◌++◌, append_assoc}
use lib.ListN.{length, set, take, drop, length-append}
use lib.Seq.{set-append_seam, drop-append_seam, split_at, drop-length, length-take-le}
use lib.Ieee.{Float}
use Rattle.ieee.specs.Number.{◌⊕◌}
use Rattle.speed.specs.Points.{Point}
use Rattle.link.specs.declared.train_params.TrainParams.{TrainParams}
use Rattle.link.specs.Lists.{every}
use Rattle.link.specs.Train.{length_of}
use Rattle.link.specs.Table.{LinkTable, numbers_of}
use Rattle.link.proofs.Known.{and_both}
use Rattle.path.specs.declared.link_point.LinkPoint.{LinkPoint}
use Rattle.path.specs.Records.{Path, link_point, offset_of, no_link_point, end_point}
use Rattle.path.specs.Sound.{total}
use Rattle.path_speeds.specs.Limits.{SpeedSets, sets_of, lay_all, laying_at, lay_links, few_at, count_at, point_few, point_count}
use Rattle.path_join.specs.Listed.{length_at, grades_in, curves_in, powers_in, sum_of}
use Rattle.path_join.specs.Joined.{join_point, join, join_all}
use Rattle.path_join.specs.ByKind.{joined_points}
use Rattle.path_stretches.proofs.Ended.{last_snoc}

-- ---- link points behind an end point e

module _ (links : List ℕ) (lengths : List Float) where
  -- the point of link n, and the end point after it
  abbrev point_of : LinkPoint → ℕ → LinkPoint
  point_of e n = link_point (offset_of e) (grades_in links n) (curves_in links n) (powers_in links n) (numbers_of links n).idx_curr

  abbrev end_of : LinkPoint → ℕ → LinkPoint
  end_of e n = link_point (length_at lengths n ⊕ offset_of e) 0 0 0 (numbers_of links n).idx_curr

  -- the points that come, and the end point
  unfoldable pub new_points : LinkPoint → List ℕ → List LinkPoint
  new_points e [] = e ∷ []
  new_points e (n ∷ ns) = point_of e n ∷ new_points (end_of e n) ns

  join-snoc : (front : List LinkPoint) (e : LinkPoint) (n : ℕ) → join_point links lengths (front ++ e ∷ []) n ≡ (front ++ point_of e n ∷ []) ++ end_of e n ∷ []
  unfolding join_point
  join-snoc front e n =
      let k : length (front ++ e ∷ []) - 1 ≡ length front = omega (arith, length-append front (e ∷ [])) in
      let end : end_point (front ++ e ∷ []) ≡ e = last_snoc front e no_link_point in
      ap (λ (q : LinkPoint). set (front ++ e ∷ []) (length (front ++ e ∷ []) - 1) (point_of q n) ++ end_of q n ∷ []) end
      ∙ ap (λ (i : ℕ). set (front ++ e ∷ []) i (point_of e n) ++ end_of e n ∷ []) k
      ∙ ap (λ (l : List LinkPoint). l ++ end_of e n ∷ []) (set-append_seam front e [] (point_of e n))

  joined_snoc : (ns : List ℕ) (front : List LinkPoint) (e : LinkPoint) → joined_points links lengths (front ++ e ∷ []) ns ≡ front ++ new_points e ns
  unfolding joined_points new_points
  joined_snoc [] front e = refl
  joined_snoc (n ∷ ns) front e =
      ap (λ (l : List LinkPoint). joined_points links lengths l ns) (join-snoc front e n)
      ∙ joined_snoc ns (front ++ point_of e n ∷ []) (end_of e n)
      ∙ append_assoc front (point_of e n ∷ []) (new_points (end_of e n) ns)

  -- all but the end point, and the end point
  pub ends_with : (ps : List LinkPoint) → 0 < length ps → ps ≡ take (length ps - 1) ps ++ end_point ps ∷ []
  ends_with ps h =
      let k : suc (length ps - 1) ≡ length ps = omega arith in
      split_at ps (length ps - 1) no_link_point (omega arith)
      ∙ ap (λ (l : List LinkPoint). take (length ps - 1) ps ++ end_point ps ∷ l) (ap (λ (i : ℕ). drop i ps) k ∙ drop-length ps)

  pub joined-behind : (ps : List LinkPoint) (ns : List ℕ) → 0 < length ps → joined_points links lengths ps ns ≡ take (length ps - 1) ps ++ new_points (end_point ps) ns
  joined-behind ps ns h = ap (λ (l : List LinkPoint). joined_points links lengths l ns) (ends_with ps h) ∙ joined_snoc ns (take (length ps - 1) ps) (end_point ps)

  pub drop-joined : (ps : List LinkPoint) (ns : List ℕ) → 0 < length ps → drop (length ps - 1) (joined_points links lengths ps ns) ≡ new_points (end_point ps) ns
  drop-joined ps ns h =
      let k : length ps - 1 ≡ length (take (length ps - 1) ps) = sym (length-take-le (length ps - 1) ps (omega arith)) in
      ap (drop (length ps - 1)) (joined-behind ps ns h)
      ∙ ap (λ (i : ℕ). drop i (take (length ps - 1) ps ++ new_points (end_point ps) ns)) k
      ∙ drop-append_seam (take (length ps - 1) ps) (new_points (end_point ps) ns)

  length-new : (e : LinkPoint) (ns : List ℕ) → length (new_points e ns) ≡ length ns + 1
  unfolding new_points
  length-new e [] = refl
  length-new e (n ∷ ns) = omega (arith, length-new (end_of e n) ns)

  pub length-joined : (ps : List LinkPoint) (ns : List ℕ) → 0 < length ps → length (joined_points links lengths ps ns) ≡ length ps + length ns
  length-joined ps ns h =
      ap length (joined-behind ps ns h)
      ∙ omega (arith, length-append (take (length ps - 1) ps) (new_points (end_point ps) ns), length-new (end_point ps) ns, length-take-le (length ps - 1) ps (omega arith))

  -- ---- the points that begin a listed link; each has its own number
  abbrev pub Own : List ℕ → Type 0
  Own [] = Unit
  Own (n ∷ ns) = ((numbers_of links n).idx_curr ≡ n) × Own ns

  module _ (train : TrainParams) (q : SpeedSets) where
    pub points-few : (e : LinkPoint) (ns : List ℕ) → Own ns → every (few_at train q) ns ≡ true → every (point_few train q) (take (length ns) (new_points e ns)) ≡ true
    unfolding every new_points
    points-few e [] own few = refl
    points-few e (n ∷ ns) own few =
        let b = and_both (few_at train q n) _ few in
        ap₂ ◌&&◌ (ap (few_at train q) own.0 ∙ b.0) (points-few (end_of e n) ns own.1 b.1)

    pub points-counted : (e : LinkPoint) (ns : List ℕ) → Own ns → total (point_count train q) (take (length ns) (new_points e ns)) ≡ sum_of (count_at train q) ns
    unfolding total new_points sum_of
    points-counted e [] own = refl
    points-counted e (n ∷ ns) own = ap₂ ◌+◌ (ap (count_at train q) own.0) (points-counted (end_of e n) ns own.1)

    -- the limits of the listed links in turn, for a train of this length
    module _ (long : Float) where
      laid_from : List Point → LinkPoint → List ℕ → List Point
      laid_from sp e [] = sp
      laid_from sp e (n ∷ ns) = laid_from (lay_all sp (laying_at train long q (offset_of e) n)) (end_of e n) ns

      laid-links : (sp : List Point) (e : LinkPoint) (ns : List ℕ) → Own ns → lay_links train long q sp (take (length ns) (new_points e ns)) ≡ laid_from sp e ns
      unfolding lay_links new_points laid_from
      laid-links sp e [] own = refl
      laid-links sp e (n ∷ ns) own =
          ap (λ (k : ℕ). lay_links train long q (lay_all sp (laying_at train long q (offset_of e) k)) (take (length ns) (new_points (end_of e n) ns))) own.0
          ∙ laid-links (lay_all sp (laying_at train long q (offset_of e) n)) (end_of e n) ns own.1

-- ---- the speed points of the path with the listed links joined
module _ (train : TrainParams) (t : LinkTable) where
  speeds-from : (ns : List ℕ) (path : Path) (front : List LinkPoint) (e : LinkPoint) → path.links ≡ front ++ e ∷ [] → (join_all train t path ns).speeds ≡ laid_from t.links t.lengths train (sets_of t) (length_of train) path.speeds e ns
  unfolding join_all join laid_from
  speeds-from [] path front e h = refl
  speeds-from (n ∷ ns) path front e h =
      let end : end_point path.links ≡ e = ap end_point h ∙ last_snoc front e no_link_point in
      speeds-from ns (join train t path n) (front ++ point_of t.links t.lengths e n ∷ []) (end_of t.links t.lengths e n)
      (ap (λ (l : List LinkPoint). join_point t.links t.lengths l n) h ∙ join-snoc t.links t.lengths front e n)
      ∙ ap (λ (p : LinkPoint). laid_from t.links t.lengths train (sets_of t) (length_of train) (lay_all path.speeds (laying_at train (length_of train) (sets_of t) (offset_of p) n)) (end_of t.links t.lengths e n) ns) end

  pub speeds-joined : (path : Path) (ns : List ℕ) → 0 < length path.links → Own t.links t.lengths ns
      → (join_all train t path ns).speeds ≡ lay_links train (length_of train) (sets_of t) path.speeds (take (length ns) (new_points t.links t.lengths (end_point path.links) ns))
  speeds-joined path ns h own =
      speeds-from ns path (take (length path.links - 1) path.links) (end_point path.links) (ends_with t.links t.lengths path.links h)
      ∙ sym (laid-links t.links t.lengths train (sets_of t) (length_of train) path.speeds (end_point path.links) ns own)
