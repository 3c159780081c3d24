-- Trims told by the link points alone: what a trim that is done knows, how far the trims get, and the code's steps.
use Prim.Native.Nat.{ℕ, ◌+◌, ◌-◌, ◌*◌, ◌≤◌, ◌<◌}
use native.Mathlib.Numerals.{add-one}
use native.Mathlib.Omega.{arith}
use mathlib.Core.Path.{◌≡◌, refl, sym, ap, ap₂, ◌∙◌, subst}
use mathlib.Core.Bool.{Bool, true, false, ◌&&◌}
use mathlib.Core.List.{List, [], ◌∷◌}
use lib.Dec.{leb}
use lib.ListN.{length, get_or, drop, length-drop, drop_of_length-le}
use lib.Seq.{drop-cons, get_or-drop}
use lib.Ieee as Ieee
use lib.Ieee.{Float, nan}
use lib.Ieee.Scale.{finite}
use borrow.Author.Tests.{eq-eqb, ne_eqb, eqb-true, eqb-false, leb-true}
use Rattle.ieee.specs.Number.{+0}
use Rattle.ieee.proofs.Order.{of-true}
use Rattle.link.proofs.Known.{and_both}
use Rattle.std.specs.Prelude.{Result}
use Rattle.answer.specs.declared.Question.{Question}
use Rattle.answer.specs.declared.Refusal.{Refusal}
use Rattle.answer.specs.declared.Answer.{Answer}
use Rattle.path.specs.declared.link_point.LinkPoint.{LinkPoint}
use Rattle.path.specs.Records.{offset_of, link_points, link_point_at, end_point}
use Rattle.answer.specs.Answers.{number, done, refused_at}
use Rattle.path.specs.Answers.{is_done, ask}
use Rattle.path.proofs.LinkPoints.{length-links, links_from, links-drop}
use Rattle.path.proofs.InTurn.{first-no, first-yes, first_done, last_one}
use Rattle.path_clear.specs.Clear.{drop_count, in_range}
use Rattle.path_clear.proofs.Dropping.{Passed, passed_first, passed-more, passed-stop, passed-all, range_at}
use Rattle.path_clear.specs.TrimsByPoints.{Progress, got, trim_answer, going_of}
use Rattle.path_clear.proofs.WithoutLinks.{two-left}

-- ---- one trim

abbrev after1 : Float → List LinkPoint → List Answer
after1 x ps = ask 10 (in_range x ps) ∷ ask 12 (leb 2 (length ps)) ∷ []

module _ (x : Float) (ps : List LinkPoint) where
  pub trim-1 : finite x ≡ false → trim_answer x ps ≡ ask 1 false
  unfolding trim_answer
  trim-1 e = first-no 0 (after1 x ps) e

  module _ (e : finite x ≡ true) where
    pub trim-10 : in_range x ps ≡ false → trim_answer x ps ≡ ask 10 false
    unfolding trim_answer
    trim-10 h = first-yes 0 (after1 x ps) e ∙ first-no 9 (ask 12 (leb 2 (length ps)) ∷ []) h

    pub trim-12 : in_range x ps ≡ true → trim_answer x ps ≡ ask 12 (leb 2 (length ps))
    unfolding trim_answer
    trim-12 h = first-yes 0 (after1 x ps) e ∙ first-yes 9 (ask 12 (leb 2 (length ps)) ∷ []) h ∙ last_one 11 (leb 2 (length ps))

-- two link points stay
trim-stays : (x : Float) (ps : List LinkPoint) → (trim_answer x ps).number ≡ 0 → drop_count x ps + 1 < length ps
unfolding trim_answer
trim-stays x ps e =
    let one = first_done 0 (after1 x ps) (finite x) e in
    let ten = first_done 9 (ask 12 (leb 2 (length ps)) ∷ []) (in_range x ps) one.1 in
    let twelve = first_done 11 [] (leb 2 (length ps)) ten.1 in
    let range = and_both (Ieee.le (offset_of (link_point_at ps 0)) x) (Ieee.le x (offset_of (end_point ps))) ten.0 in
    two-left x ps (leb-true 2 (length ps) twelve.0) (of-true range.1)

-- where d link points are gone
pub trim-left : (x : Float) (d : ℕ) (ps : List LinkPoint) → (trim_answer x (drop d ps)).number ≡ 0 → d + drop_count x (drop d ps) + 1 < length ps
trim-left x d ps e = omega (arith, trim-stays x (drop d ps) e, length-drop d ps)

-- ---- a list of trims
module _ (ps : List LinkPoint) where
  module _ (d k : ℕ) (x : Float) (xs : List Float) where
    pub going_more : is_done (trim_answer x (drop d ps)) ≡ true → going_of d k (x ∷ xs) ps ≡ going_of (d + drop_count x (drop d ps)) (k + 1) xs ps
    unfolding going_of
    going_more e = rw e

    pub going-ends : is_done (trim_answer x (drop d ps)) ≡ false → going_of d k (x ∷ xs) ps ≡ record { gone = d; answer = record { number = (trim_answer x (drop d ps)).number; place = k } }
    unfolding going_of
    going-ends e = rw e

    -- a list that is done is done with its first
    pub going-first : (going_of d k (x ∷ xs) ps).answer.number ≡ 0 → is_done (trim_answer x (drop d ps)) ≡ true
    going-first z = go (is_done (trim_answer x (drop d ps))) refl
      where
        go : (b : Bool) → is_done (trim_answer x (drop d ps)) ≡ b → is_done (trim_answer x (drop d ps)) ≡ true
        go true e = e
        go false e = absurd (eqb-false (trim_answer x (drop d ps)).number 0 e (ap (λ (g : Progress). g.answer.number) (sym (going-ends e)) ∙ z))

  -- a link point stays
  pub going-below : (xs : List Float) (d k : ℕ) → d < length ps → (going_of d k xs ps).gone < length ps
  unfolding going_of
  going-below [] d k h = h
  going-below (x ∷ xs) d k h = go (is_done (trim_answer x (drop d ps))) refl (going-below xs (d + drop_count x (drop d ps)) (k + 1))
    where
      go : (b : Bool) → is_done (trim_answer x (drop d ps)) ≡ b → (d + drop_count x (drop d ps) < length ps → (going_of (d + drop_count x (drop d ps)) (k + 1) xs ps).gone < length ps) → (going_of d k (x ∷ xs) ps).gone < length ps
      go true e i = omega (arith, ap (λ (g : Progress). g.gone) (going_more d k x xs e), i (omega (arith, trim-left x d ps (eqb-true _ 0 e))))
      go false e i = omega (arith, ap (λ (g : Progress). g.gone) (going-ends d k x xs e))

  -- ---- the code's loop: those that are left, from link point d on, give the answer of the whole list
  module _ (xs : List Float) (d k : ℕ) (inv : going_of d k (drop k xs) ps ≡ going_of 0 0 xs ps) where
    pub going-all : length xs ≤ k → going_of 0 0 xs ps ≡ record { gone = d; answer = done }
    unfolding going_of
    going-all h = sym inv ∙ ap (λ (l : List Float). going_of d k l ps) (drop_of_length-le xs h)

    -- the next one is at x, and a is its answer
    module _ {x : Float} {a : Answer} (h : k < length xs) (e : x ≡ get_or xs k nan) (asked : a ≡ trim_answer x (drop d ps)) where
      next-is : going_of d k (x ∷ drop (k + 1) xs) ps ≡ going_of 0 0 xs ps
      next-is = ap (λ (l : List Float). going_of d k l ps) (ap₂ ◌∷◌ e (ap (λ (j : ℕ). drop j xs) (add-one k)) ∙ sym (drop-cons xs k nan h)) ∙ inv

      pub going-refused : (a.number ≡ 0 → ⊥) → going_of 0 0 xs ps ≡ record { gone = d; answer = record { number = a.number; place = k } }
      going-refused n =
          sym next-is
          ∙ going-ends d k x (drop (k + 1) xs) (ne_eqb (trim_answer x (drop d ps)).number 0 (λ z. n (ap (λ (b : Answer). b.number) asked ∙ z)))
          ∙ ap (λ (b : Answer). record { gone = d; answer = record { number = b.number; place = k } }) (sym asked)

      module _ (t : a.number ≡ 0) {m : ℕ} (g : m ≡ d + drop_count x (drop d ps)) where
        trim-passed : (trim_answer x (drop d ps)).number ≡ 0
        trim-passed = ap (λ (b : Answer). b.number) (sym asked) ∙ t

        pub going_next : going_of m (k + 1) (drop (k + 1) xs) ps ≡ going_of 0 0 xs ps
        going_next =
            ap (λ (j : ℕ). going_of j (k + 1) (drop (k + 1) xs) ps) g
            ∙ sym (going_more d k x (drop (k + 1) xs) (eq-eqb (trim_answer x (drop d ps)).number 0 trim-passed))
            ∙ next-is

        pub next-below : m < length ps
        next-below = omega (arith, trim-left x d ps trim-passed)

-- the code's refusal of the trim at place k
pub got-refused : (q : Question) (k : ℕ) (g : Progress) {r : Result ℕ Refusal} → r ≡ refused_at q k → g.answer ≡ record { number = number q; place = k } → got r g
got-refused q k g e h = subst (λ (s : Result ℕ Refusal). got s g) (sym e) h

-- ---- in the columns: the link points from d on
module _ (x : Float) (os : List Float) (ns : List ℕ) (n d : ℕ) (h : d < n) where
  abbrev rest : List LinkPoint
  rest = drop d (link_points n os ns)

  rest-is : rest ≡ links_from os ns n d
  rest-is = links-drop os ns n d (omega arith)

  pub length_rest : length rest ≡ n - d
  length_rest = ap length rest-is ∙ length-links (n - d) (drop d os) (drop (4 * d) ns)

  entry : (i j : ℕ) → d + i ≡ j → get_or (drop d os) i +0 ≡ get_or os j +0
  entry i j e = get_or-drop d os i +0 ∙ ap (λ (k : ℕ). get_or os k +0) e

  pub rest-range : {first last : Float} → first ≡ get_or os d +0 → last ≡ get_or os (n - 1) +0 → (Ieee.le first x && Ieee.le x last) ≡ in_range x rest
  rest-range e f =
      range_at x (drop d os) (drop (4 * d) ns) (n - d) (omega arith) (e ∙ sym (entry 0 d (omega arith))) (f ∙ sym (entry (n - d - 1) (n - 1) (omega arith)))
      ∙ ap (in_range x) (sym rest-is)

  -- link point i stays, if none of the points up to it does
  abbrev pub Behind : ℕ → Type 0
  Behind i = (d ≤ i) × Passed x (drop d os) (drop (4 * d) ns) (n - d) (i + 1 - d)

  answer : {i : ℕ} → d ≤ i → i + 1 - d - 1 ≡ drop_count x (links_from os ns n d) → i ≡ d + drop_count x rest
  answer g e = omega (arith, ap (drop_count x) rest-is)

  pub behind-first : Behind d
  behind-first =
      let e : 1 ≡ d + 1 - d = omega arith in
      (omega arith, subst (Passed x (drop d os) (drop (4 * d) ns) (n - d)) e (passed_first x (drop d os) (drop (4 * d) ns) (n - d) (omega arith)))

  module _ (i : ℕ) (behind : Behind i) where
    next : d + (i + 1 - d) ≡ i + 1
    next = omega (arith, behind.0)

    pub behind_more : i + 1 < n → Ieee.lt (get_or os (i + 1) +0) x ≡ true → Behind (i + 1)
    behind_more g t =
        let e : i + 1 - d + 1 ≡ i + 1 + 1 - d = omega (arith, behind.0) in
        (omega (arith, behind.0), subst (Passed x (drop d os) (drop (4 * d) ns) (n - d)) e (passed-more x (drop d os) (drop (4 * d) ns) (n - d) (i + 1 - d) behind.1 (omega (arith, behind.0)) (omega (arith, behind.0)) (ap (λ (o : Float). Ieee.lt o x) (entry (i + 1 - d) (i + 1) next) ∙ t)))

    pub behind-stop : i + 1 < n → Ieee.lt (get_or os (i + 1) +0) x ≡ false → i ≡ d + drop_count x rest
    behind-stop g t = answer behind.0 (passed-stop x (drop d os) (drop (4 * d) ns) (n - d) (i + 1 - d) behind.1 (omega (arith, behind.0)) (ap (λ (o : Float). Ieee.lt o x) (entry (i + 1 - d) (i + 1) next) ∙ t))

    pub behind-all : n ≤ i + 1 → i ≡ d + drop_count x rest
    behind-all g = answer behind.0 (passed-all x (drop d os) (drop (4 * d) ns) (n - d) (i + 1 - d) behind.1 (omega (arith, behind.0)))
