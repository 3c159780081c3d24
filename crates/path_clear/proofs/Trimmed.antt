-- `clear`: refused, and done.
use Prim.Native.Nat.{ℕ, zero, suc, ◌+◌, ◌≤◌, ◌<◌}
use native.Mathlib.Omega.{arith}
use native.Mathlib.Nat.{zero-add}
use mathlib.Core.Path.{◌≡◌, refl, sym, ap, ap₂, ◌∙◌}
use mathlib.Core.Bool.{Bool, true, cond}
use mathlib.Core.List.{List}
use lib.ListN.{take, drop}
use lib.Ieee.{Float}
use borrow.Author.Tests.{eq-eqb, ne_eqb}
use Rattle.std.specs.Prelude.{Result, Ok, Err}
use Rattle.std.specs.Result.{IsErrAnd}
use Rattle.path.specs.declared.path_tpc.PathTpc.{PathTpc}
use Rattle.answer.specs.declared.Answer.{Answer}
use Rattle.answer.specs.declared.Refusal.{Refusal}
use Rattle.path.specs.declared.link_point.LinkPoint.{LinkPoint}
use Rattle.path.specs.Records.{Columns, link_points, no_link_point, path_of, columns_of}
use Rattle.answer.specs.Answers.{refusal}
use Rattle.path.specs.Answers.{Outcome, left, changed}
use Rattle.path.specs.Sound.{sound, totals}
use Rattle.path.proofs.LinkPoints.{length-links}
use Rattle.path.proofs.Numbers.{take-links}
use Rattle.path.proofs.ReadBack.{counted}
use Rattle.path.proofs.InTurn.{outcome-refused, outcome-changed}
use Rattle.path.proofs.Clauses.{sound-within, some-link, bounds}
use Rattle.path_clear.specs.Clear.{drop_count, without_links, cleared_path, clear_answer, Cleared, done_left, trimmed_told, trimmed_left, clear_of}
use Rattle.path_clear.specs.declared.clear.Trimmed.{Trimmed}
use Rattle.path_clear.proofs.Dropping.{one-stays, clear-done}

-- ---- the change, where no link goes and where some go, and the counts of the links that go
module _ (p : PathTpc) (c : Columns) (d : ℕ) where
  pub none-go : {l : Columns} → d ≡ 0 → l ≡ columns_of c (path_of p c) → done_left p l ≡ changed c (cleared_path d (path_of p c))
  unfolding changed cleared_path
  none-go e g =
      ap (done_left p) g
      ∙ ap (λ (q : PathTpc). done_left q (columns_of c (path_of p c))) (sym (counted p c))
      ∙ ap (λ (k : ℕ). changed c (cleared_path k (path_of p c))) (sym e)

  pub some_go : (d ≡ 0 → ⊥) → changed c (without_links d (path_of p c)) ≡ changed c (cleared_path d (path_of p c))
  unfolding cleared_path
  some_go h = ap (changed c) (go d h)
    where
      go : (k : ℕ) → (k ≡ 0 → ⊥) → without_links k (path_of p c) ≡ cleared_path k (path_of p c)
      go zero h = absurd (h refl)
      go (suc k) h = refl

  pub few : sound p c ≡ true → d < p.link_count → d ≤ 1025
  few known h = omega (arith, h, (bounds p c (sound-within p c known).1).0)

  -- l are the columns as the code reads them, and q the counts as it adds them up
  pub counts-gone : {l : Columns} {q : LinkPoint} → d < p.link_count → l ≡ c → q ≡ totals (link_points d l.offsets l.numbers) → q ≡ totals (take d (path_of p c).links)
  unfolding path_of
  counts-gone h same f =
      f
      ∙ ap (λ (k : Columns). totals (link_points d k.offsets k.numbers)) same
      ∙ ap totals (sym (take-links d p.link_count c.offsets c.numbers (omega (arith, h))))

-- ---- a refusal that `?` hands on out of a call on the path p, in the columns c
pub handed-trimmed :
    (p : PathTpc) (c : Columns) (s : Result Trimmed Refusal) (f : Refusal)
    → IsErrAnd s (λ g. g ≡ f)
    → trimmed_left (trimmed_told p s) c ≡ record { outcome = left (record { answer = refusal f; path = p }) c; dropped = no_link_point }
handed-trimmed p c (Ok t) f h = absurd h
handed-trimmed p c (Err g) f h = ap (λ (k : Refusal). record { outcome = left (record { answer = refusal k; path = p }) c; dropped = no_link_point }) h

-- ---- `clear`
module _ (x : Float) (p : PathTpc) (c : Columns) where
  abbrev links : List LinkPoint
  links = link_points p.link_count c.offsets c.numbers

  -- a is the code's answer to the questions
  module _ {a : Answer} (asked : a ≡ clear_answer x p c) where
    pub refused : (a.number ≡ 0 → ⊥) → ◌≡◌ {A = Cleared} (record { outcome = left (record { answer = a; path = p }) c; dropped = no_link_point }) (clear_of x p c)
    unfolding clear_of path_of
    refused h =
        let n : (clear_answer x p c).number ≡ 0 → ⊥ = λ k. h (ap (λ (b : Answer). b.number) asked ∙ k) in
        let after = cleared_path (drop_count x links) (path_of p c) in
        ap₂ (λ (o : Outcome) (r : LinkPoint). record { outcome = o; dropped = r })
        (ap (λ (b : Answer). left (record { answer = b; path = p }) c) asked ∙ sym (outcome-refused (clear_answer x p c) p c after n))
        (ap (λ (b : Bool). cond b (totals (take (drop_count x links) links)) no_link_point) (sym (ne_eqb (clear_answer x p c).number 0 n)))

    module _ (t : a.number ≡ 0) where
      pub links-known : 0 < p.link_count
      links-known = some-link p c (sound-within p c (clear-done x p c asked t)).0

      pub known : sound p c ≡ true
      known = clear-done x p c asked t

      -- d link points go of those that the code reads in l
      module _ {d : ℕ} {l : Columns} (same : l ≡ c) (e : d ≡ 0 + drop_count x (drop 0 (link_points p.link_count l.offsets l.numbers))) where
        gone : d ≡ drop_count x links
        gone = e ∙ zero-add _ ∙ ap (λ (k : Columns). drop_count x (link_points p.link_count k.offsets k.numbers)) same

        pub fewer : d < p.link_count
        fewer = omega (arith, gone, one-stays x links (omega (arith, length-links p.link_count c.offsets c.numbers, links-known)), length-links p.link_count c.offsets c.numbers)

        pub trimmed : {r : Trimmed} {m : Columns} → done_left r.path m ≡ changed c (cleared_path d (path_of p c)) → r.dropped ≡ totals (take d (path_of p c).links)
            → trimmed_left (trimmed_told p (Ok r)) m ≡ clear_of x p c
        unfolding clear_of path_of
        trimmed g f =
            let z : (clear_answer x p c).number ≡ 0 = ap (λ (b : Answer). b.number) (sym asked) ∙ t in
            let after = cleared_path (drop_count x links) (path_of p c) in
            ap₂ (λ (o : Outcome) (r : LinkPoint). record { outcome = o; dropped = r })
            (g ∙ ap (λ (k : ℕ). changed c (cleared_path k (path_of p c))) gone ∙ sym (outcome-changed (clear_answer x p c) p c after z))
            (f ∙ ap (λ (k : ℕ). totals (take k links)) gone ∙ ap (λ (b : Bool). cond b (totals (take (drop_count x links) links)) no_link_point) (sym (eq-eqb (clear_answer x p c).number 0 z)))
