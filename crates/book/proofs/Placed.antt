-- A limit of a link on the path: where it is laid it is a finite stretch, from the link's beginning on or later.
use mathlib.Core.Path.{◌≡◌, subst}
use mathlib.Core.Bool.{Bool, true, false, not, ◌||◌, false≢true}
use mathlib.Core.List.{List, [], ◌∷◌, map}
use lib.Dec.{T}
use lib.Ieee as Ieee
use lib.Ieee.{Float, binary64}
use lib.Ieee.Fits.{add-fits}
use lib.Ieee.Bits.{is_true}
use lib.Ieee.Scale.{finite}
use Rattle.ieee.specs.Number.{+0, real, ◌⊕◌}
use Rattle.ieee.proofs.Order.{le_trans, le_refl, of-true}
use Rattle.ieee.proofs.Sum.{add_comm, add-mono, le-add, finite-real}
use Rattle.link.specs.Lists.{every}
use Rattle.link.specs.Table.{Limit}
use Rattle.link.specs.Questions.{limit_formed}
use Rattle.link.proofs.Known.{and_both}
use Rattle.path_speeds.specs.Limits.{placed, lowers, placed_finite, laid_finite}
use Rattle.book.specs.Claims.{Offset}
use Rattle.book.proofs.Signs.{add-sign}

-- ---- a sum

-- an offset and something that is not negative make an offset, no earlier, if the sum is finite
pub sum-offset : (x y : Float) → T (Ieee.le +0 x) → Offset y → T (finite (x ⊕ y)) → Offset (x ⊕ y) × T (Ieee.le y (x ⊕ y))
sum-offset x y h k f =
    let r : T (real y) = finite-real y k.is_finite in
    let e : y ⊕ x ≡ x ⊕ y = add_comm binary64 y x in
    let g : T (Ieee.le y (x ⊕ y)) = subst (λ (z : Float). T (Ieee.le y z)) e (le-add binary64 y x false k.is-f64 r h (rw e (finite-real (x ⊕ y) f))) in
    (record { is_finite = f; is-f64 = add-fits binary64 x y; not_negative = le_trans +0 y (x ⊕ y) k.not_negative g; no_sign = add-sign binary64 x y h k.no_sign }, g)

-- ---- what a limit asks that enters

-- a stretch that may be laid on points that begin at o
pub record Stretch (o : Float) (l : Limit) : Type 0 where
  pub start-good : Offset l.start
  pub end-good : Offset l.end
  pub forward : T (Ieee.le l.start l.end)
  pub on : T (Ieee.le o l.start)

-- a limit of a path that begins at o
pub record Enters (top o : Float) (l : Limit) : Type 0 where
  pub value-finite : T (finite l.value)
  pub if-laid : T (lowers top l) → Stretch o l

abbrev pub AllEnter : Float → Float → List Limit → Type 0
AllEnter top o [] = Unit
AllEnter top o (l ∷ ls) = Enters top o l × AllEnter top o ls

-- ---- question 6 of a limit

record LimitGood (l : Limit) : Type 0 where
  value-finite : T (finite l.value)
  from_zero : T (Ieee.le +0 l.start)
  forward : T (Ieee.le l.start l.end)

limit-good : (l : Limit) → limit_formed l ≡ true → LimitGood l
unfolding limit_formed
limit-good l e =
    let a = and_both (finite l.start) _ e in
    let b = and_both (finite l.end) _ a.1 in
    let c = and_both (finite l.value) _ b.1 in
    let d = and_both (Ieee.le +0 l.start) _ c.1 in
    record { value-finite = of-true c.0; from_zero = of-true d.0; forward = of-true d.1 }

-- ---- base and tail added

module _ (base tail : Float) (at : Offset base) (tail-from-zero : T (Ieee.le +0 tail)) where
  stretch : (o : Float) (l : Limit) → T (Ieee.le o base) → LimitGood l → placed_finite base tail l ≡ true → Stretch o (placed base tail l)
  stretch o l h good e =
      let a = and_both (finite (l.start ⊕ base)) _ e in
      let b = and_both (finite (l.end ⊕ base)) _ a.1 in
      let s = l.start ⊕ base in
      let m = l.end ⊕ base in
      let at-s = sum-offset l.start base good.from_zero at (of-true a.0) in
      let at-m = sum-offset l.end base (le_trans +0 l.start l.end good.from_zero good.forward) at (of-true b.0) in
      let turn : tail ⊕ m ≡ m ⊕ tail = add_comm binary64 tail m in
      let at-e = sum-offset tail m tail-from-zero at-m.0 (rw turn (of-true b.1)) in
      let s-m : T (Ieee.le s m) = add-mono binary64 l.start l.end base base (finite-real s at-s.0.is_finite) (finite-real m at-m.0.is_finite) good.forward (le_refl base (finite-real base at.is_finite)) in
      record {
        start-good = at-s.0;
        end-good = subst Offset turn at-e.0;
        forward = le_trans s m (m ⊕ tail) s-m (subst (λ (z : Float). T (Ieee.le m z)) turn at-e.1);
        on = le_trans o base s h at-s.1;
      }

  -- The limits of a set that questions 6 and 8 have passed may enter.
  module _ (top o : Float) (h : T (Ieee.le o base)) where
    enters : (l : Limit) → LimitGood l → laid_finite top base tail l ≡ true → Enters top o (placed base tail l)
    enters l good e = record { value-finite = good.value-finite; if-laid = λ k. stretch o l h good (sums (lowers top l) (is_true (lowers top l) k) e) }
      where
        sums : (b : Bool) → b ≡ true → (not b || placed_finite base tail l) ≡ true → placed_finite base tail l ≡ true
        sums true x y = y
        sums false x y = absurd (false≢true x)

    pub all-enter : (ls : List Limit) → every limit_formed ls ≡ true → every (laid_finite top base tail) ls ≡ true → AllEnter top o (map (placed base tail) ls)
    unfolding every
    all-enter [] f g = tt
    all-enter (l ∷ ls) f g =
        let a = and_both (limit_formed l) _ f in
        let b = and_both (laid_finite top base tail l) _ g in
        (enters l (limit-good l a.0) b.0, all-enter ls a.1 b.1)
