-- The records tell of every limit laid, link point by link point.
use mathlib.Core.Path.{◌≡◌, sym, ap, ◌∙◌, subst}
use mathlib.Core.Logic.{inl, inr}
use mathlib.Core.Bool.{Bool, true, false}
use mathlib.Core.List.Memᴰ
use mathlib.Core.List.{List, [], ◌∷◌, ◌++◌, map, Memᴰ}
use lib.Dec.{T}
use lib.Ieee.{Float}
use lib.Ieee.Bits.{is_true}
use lib.Ieee.Fits.{and_l, and_r}
use lib.ListN.{take}
use Rattle.ieee.proofs.Order.{of-true}
use Rattle.link.specs.declared.train_params.TrainParams.{TrainParams}
use Rattle.link.specs.Lists.{every}
use Rattle.link.specs.Train.{length_of, top_speed}
use Rattle.link.specs.Table as table
use Rattle.path.specs.declared.link_point.LinkPoint.{LinkPoint}
use Rattle.path.specs.Records.{offset_of, number_of}
use Rattle.path_speeds.specs.Limits.{SpeedSets, lowers, cons_if, lowering, entering_at, laying_at, point_few}
use Rattle.speed.specs.declared.laid.Laid.{Laid}
use Rattle.view.specs.History.{limit_in, point_lays, points_lay}
use Rattle.view.proofs.Laid.{laid-fits}
use Rattle.view.proofs.Lays.{lays-laying}
use Rattle.view_laws.specs.Named.{Tells, entering_all, StillTold}

-- what stands in one of two lists
in-left : {A : Type 0} (x : A) (xs ys : List A) → Memᴰ x xs → Memᴰ x (xs ++ ys)
in-left x [] ys m = absurd (Memᴰ.not-nil m)
in-left x (y ∷ xs) ys m = elim (Memᴰ.cases_cons m) [ inl e ↦ Memᴰ.head e | inr i ↦ Memᴰ.tail (in-left x xs ys i) ]

in-right : {A : Type 0} (x : A) (xs ys : List A) → Memᴰ x ys → Memᴰ x (xs ++ ys)
in-right x [] ys m = m
in-right x (y ∷ xs) ys m = Memᴰ.tail (in-right x xs ys m)

-- a limit below the top speed is among those below it
lowered : (top : Float) (l : table.Limit) (ls : List table.Limit) → Memᴰ l ls → T (lowers top l) → Memᴰ l (lowering top ls)
unfolding lowering
lowered top l [] m b = absurd (Memᴰ.not-nil m)
lowered top l (k ∷ ls) m b = elim (Memᴰ.cases_cons m) [
  | inl e ↦ here (lowers top k) (subst (λ (j : table.Limit). T (lowers top j)) e b) e
  | inr i ↦ later (lowers top k) (lowered top l ls i b)
]
  where
    here : (c : Bool) → T c → l ≡ k → Memᴰ l (cons_if c k (lowering top ls))
    here true t e = Memᴰ.head e
    here false t e = absurd t

    later : (c : Bool) → Memᴰ l (lowering top ls) → Memᴰ l (cons_if c k (lowering top ls))
    later true i = Memᴰ.tail i
    later false i = i

-- one of the records is that of a limit
abbrev Stands : List Laid → table.Limit → Type 0
Stands xs l = (r : Laid) × Memᴰ r xs × (limit_in r ≡ l)

stands : (l : table.Limit) (xs : List Laid) → Memᴰ l (map limit_in xs) → Stands xs l
stands l [] m = absurd (Memᴰ.not-nil m)
stands l (x ∷ xs) m = elim (Memᴰ.cases_cons m) [ inl e ↦ (x, Memᴰ.head (λ i. x), sym e) | inr i ↦ let s = stands l xs i in (s.0, Memᴰ.tail s.1, s.2) ]

module _ (train : TrainParams) (q : SpeedSets) where
  -- of a link
  of-link : (p : LinkPoint) → point_few train q p ≡ true → (l : table.Limit) → Memᴰ l (entering_at train (length_of train) q (offset_of p) (number_of p)) → T (lowers (top_speed train) l) → Stands (point_lays train q p) l
  unfolding laying_at entering_at
  of-link p few l m b =
      stands l (point_lays train q p)
      (subst (Memᴰ l) (sym (lays-laying train q p few)) (lowered (top_speed train) l (entering_at train (length_of train) q (offset_of p) (number_of p)) m b))

  -- of links
  of-links : (ps : List LinkPoint) → T (every (point_few train q) ps) → (l : table.Limit) → Memᴰ l (entering_all train q ps) → T (lowers (top_speed train) l) → Stands (points_lay train q ps) l
  unfolding entering_all points_lay every
  of-links [] few l m b = absurd (Memᴰ.not-nil m)
  of-links (p ∷ ps) few l m b = elim (Memᴰ.append_cases (entering_at train (length_of train) q (offset_of p) (number_of p)) m) [
    | inl i ↦ first (of-link p (is_true (point_few train q p) (and_l (point_few train q p) (every (point_few train q) ps) few)) l i b)
    | inr i ↦ later (of-links ps (and_r (point_few train q p) (every (point_few train q) ps) few) l i b)
  ]
    where
      first : Stands (point_lays train q p) l → Stands (point_lays train q p ++ points_lay train q ps) l
      first s = (s.0, in-left s.0 (point_lays train q p) (points_lay train q ps) s.1, s.2)

      later : Stands (points_lay train q ps) l → Stands (point_lays train q p ++ points_lay train q ps) l
      later s = (s.0, in-right s.0 (point_lays train q p) (points_lay train q ps) s.1, s.2)

-- a record that reads as the limit tells of it
tells : (r : Laid) (l : table.Limit) → limit_in r ≡ l → Tells r l
tells r l e =
    record { start = ap (λ (m : table.Limit). m.start) e; end = ap (λ (m : table.Limit). m.end) e; value = ap (λ (m : table.Limit). m.value) e }

pub still-told : StillTold
still-told train q ps few laid laid' n r h e limits told l m b =
    let more = points_lay train q ps in
    let all : take r laid' ≡ take n laid ++ more = e ∙ laid-fits laid n more h in
    elim (Memᴰ.append_cases limits m) [
      | inl i ↦ let t = told l i b in (t.0, subst (Memᴰ t.0) (sym all) (in-left t.0 (take n laid) more t.1), t.2)
      | inr i ↦
          let s = of-links train q ps (of-true few) l i b in
          (s.0, subst (Memᴰ s.0) (sym all) (in-right s.0 (take n laid) more s.1), tells s.0 l s.2)
    ]
