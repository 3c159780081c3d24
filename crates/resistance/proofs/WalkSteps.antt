-- A walk: one position more, the refusals that end it, and its last position; behind questions 1 and 2; a walk over one position.
use Prim.Native.Nat.{ℕ, zero, suc, ◌-◌, ◌<◌}
use native.Mathlib.Nat.{not-suc-le-zero}
use native.Mathlib.Omega.{arith}
use mathlib.Core.Path.{◌≡◌, refl, sym, ap, ap₂, ◌∙◌, subst}
use mathlib.Core.Bool.{Bool, true, false, ◌&&◌, and-true, cond}
use mathlib.Core.List.{List}
use borrow.Author.Tests.{eqb-true, eqb-false}
use lib.Ieee.{Float}
use lib.Ieee.Scale.{finite}
use Rattle.ieee.specs.Number.{◌⊕◌}
use Rattle.std.proofs.Common.{Result, Ok, Err}
use Rattle.answer.specs.declared.Refusal.{Refusal}
use Rattle.lookup.specs.declared.lin_search_hint.Dir.{Dir}
use Rattle.lookup.specs.Coeff.{coeffs}
use Rattle.link.proofs.Known.{and_both}
use Rattle.answer.specs.declared.Answer.{Answer}
use Rattle.path.specs.Answers.{is_done, ask}
use Rattle.train.specs.declared.train_state.TrainState.{TrainState}
use Rattle.train.specs.Position.{front_of, back_of, state_finite}
use Rattle.train.proofs.Moves.{standing-finite}
use Rattle.resistance.specs.declared.strap.Strap.{Strap}
use Rattle.resistance.specs.declared.strap.StrapRes.{StrapRes}
use Rattle.resistance.specs.Listed.{list_answer}
use Rattle.resistance.specs.declared.strap.StrapForce.{StrapForce}
use Rattle.resistance.specs.Strap.{refused_res, res_told, calc_res_known, calc_res_of}
use Rattle.resistance.specs.Walk.{further, step_finite, walk_from, positions, walk_of}
use Rattle.resistance.proofs.Answered.{asked-no, behind-no, behind-yes, both_first, both-second, both-done}
use Rattle.resistance.proofs.Told.{not-done}
use Rattle.resistance.proofs.ListSteps.{list-also, list-answered}
use Rattle.resistance.proofs.StrapSteps.{settled, known-settled, calc-refused, calc-passed}

-- ---- one position; r is what `calc_res` answers at s, where the strap is t
module _ (dir : Dir) (step : Float) (t : Strap) (s : TrainState) (n : ℕ) (c : List Float) {r : StrapRes} (e : r ≡ calc_res_of dir t s n c) where
  abbrev refuse : Answer → StrapRes
  refuse a = refused_res a t

  abbrev next : ℕ → StrapRes
  next m = walk_from dir step m (calc_res_of dir t s n c).strap (further step s) n c

  answer-is : r.answer ≡ (calc_res_of dir t s n c).answer
  answer-is = ap (λ (x : StrapRes). x.answer) e

  from-refused : (m : ℕ) → (r.answer.number ≡ 0 → ⊥) → r.answer ≡ (walk_from dir step m t s n c).answer
  unfolding walk_from
  from-refused zero h = answer-is
  from-refused (suc m) h = ap (λ (x : StrapRes). x.answer) (both_first refuse (next m) answer-is 7 (step_finite step s) h)

  from_last : (m : ℕ) → m ≡ 0 → r ≡ walk_from dir step m t s n c
  unfolding walk_from
  from_last zero h = e
  from_last (suc m) h = absurd (omega arith)

  module _ (z : r.answer.number ≡ 0) where
    from-8 : {a : Answer} (m : ℕ) → 0 < m → step_finite step s ≡ false → a ≡ ask 8 false → a ≡ (walk_from dir step m t s n c).answer
    unfolding walk_from
    from-8 zero h f k = absurd (not-suc-le-zero h)
    from-8 (suc m) h f k = ap (λ (x : StrapRes). x.answer) (both-second refuse (next m) answer-is 7 (step_finite step s) z f k)

    from_on : (m : ℕ) → 0 < m → step_finite step s ≡ true → walk_from dir step (m - 1) r.strap (further step s) n c ≡ walk_from dir step m t s n c
    unfolding walk_from
    from_on zero h f = absurd (not-suc-le-zero h)
    from_on (suc m) h f =
        let q : suc m - 1 ≡ m = omega arith in
        ap (λ (k : ℕ). walk_from dir step k r.strap (further step s) n c) q
        ∙ ap (λ (x : StrapRes). walk_from dir step m x.strap (further step s) n c) e
        ∙ both-done refuse (next m) answer-is 7 (step_finite step s) z f

-- ---- the positions of a walk that began with the strap t₀
module _ (dir : Dir) (step : Float) (t₀ : Strap) (n : ℕ) (c : List Float) (whole : StrapRes) where
  -- the position s passes questions 1 and 2, and with the m that follow it ends where the whole walk ends
  abbrev pub Walking : ℕ → Strap → TrainState → Type 0
  Walking m t s = ((list_answer (state_finite s) n c).number ≡ 0) × (settled t₀ (walk_from dir step m t s n c) ≡ whole)

  -- r is the code's answer at s
  module _ (m : ℕ) (t : Strap) (s : TrainState) (w : Walking m t s) {r : StrapRes} (e : r ≡ calc_res_known dir t s (coeffs n c)) where
    public-is : r ≡ calc_res_of dir t s n c
    public-is = calc-passed s n c refl refl dir t w.0 e

    pub walking-refused : (r.answer.number ≡ 0 → ⊥) → refused_res r.answer t₀ ≡ whole
    walking-refused h = behind-no (λ (a : Answer). refused_res a t₀) (from-refused dir step t s n c public-is m h) (walk_from dir step m t s n c) h ∙ w.1

    module _ (z : r.answer.number ≡ 0) where
      pub walking-last : m ≡ 0 → r ≡ whole
      walking-last h =
          let f = from_last dir step t s n c public-is m h in
          behind-yes (λ (a : Answer). refused_res a t₀) (ap (λ (x : StrapRes). x.answer) f) z f ∙ w.1

      -- p is the next position
      module _ {p : TrainState} (h : 0 < m) (f : p ≡ further step s) where
        abbrev sums : TrainState → Bool
        sums q = finite (front_of q) && finite (back_of q)

        pub walking-8 : {a : Answer} → sums p ≡ false → a ≡ ask 8 false → refused_res a t₀ ≡ whole
        walking-8 b k =
            behind-no (λ (a : Answer). refused_res a t₀) (from-8 dir step t s n c public-is z m h (ap sums (sym f) ∙ b) k) (walk_from dir step m t s n c) (asked-no k)
            ∙ w.1

        pub walking_on : sums p ≡ true → Walking (m - 1) r.strap p
        walking_on b =
            let both = and_both (finite (front_of s ⊕ step)) (finite (back_of s ⊕ step)) (ap sums (sym f) ∙ b) in
            let here = list-also (state_finite s) n c w.0 in
            let there : state_finite p ≡ true = ap state_finite f ∙ standing-finite s (front_of s ⊕ step) (back_of s ⊕ step) here both.0 both.1 in
            let on = from_on dir step t s n c public-is z m h (ap sums (sym f) ∙ b) in (
              ap (λ (x : Bool). (list_answer x n c).number) (there ∙ sym here) ∙ w.0,
              ap (λ (q : TrainState). settled t₀ (walk_from dir step (m - 1) r.strap q n c)) f ∙ ap (settled t₀) on ∙ w.1,
            )

  -- the last position, where the code's result is r
  pub walking-ends : (m : ℕ) (t : Strap) (s : TrainState) → Walking m t s → m ≡ 0 → (r : Result StrapForce Refusal) → res_told t r ≡ calc_res_known dir t s (coeffs n c) → res_told t₀ r ≡ whole
  walking-ends m t s w h (Ok there) e = walking-last m t s w e refl h
  walking-ends m t s w h (Err x) e = walking-refused m t s w e (not-done x)

-- ---- the public call
module _ (dir : Dir) (step : Float) (t : Strap) (s : TrainState) (n : ℕ) (c : List Float) where
  abbrev refusal : Answer → StrapRes
  refusal a = refused_res a t

  abbrev numbers : Bool
  numbers = state_finite s && finite step

  -- the first position
  pub walk-begun : (count : ℕ) → 0 < count → (list_answer numbers n c).number ≡ 0 → Walking dir step t n c (walk_of dir step count t s n c) (count - 1) t s
  unfolding walk_of positions
  walk-begun zero h z = absurd (not-suc-le-zero h)
  walk-begun (suc m) h z =
      let q : suc m - 1 ≡ m = omega arith in
      let yes = list-also numbers n c z in (
        ap (λ (b : Bool). (list_answer b n c).number) ((and_both (state_finite s) (finite step) yes).0 ∙ sym yes) ∙ z,
        ap (λ (k : ℕ). settled t (walk_from dir step k t s n c)) q ∙ behind-yes refusal refl z refl,
      )

  -- first is the code's answer to questions 1 and 2
  module _ {ok fits : Bool} (o : ok ≡ state_finite s) (p : fits ≡ finite step) {first : Answer} (l : first ≡ list_answer (ok && fits) n c) where
    first-is : first ≡ list_answer numbers n c
    first-is = l ∙ ap₂ (λ (a b : Bool). list_answer (a && b) n c) o p

    pub walk_refused : (count : ℕ) → (first.number ≡ 0 → ⊥) → refused_res first t ≡ walk_of dir step count t s n c
    unfolding walk_of
    walk_refused count h = behind-no refusal first-is _ h

    module _ (z : first.number ≡ 0) where
      pub walk-passed : (list_answer numbers n c).number ≡ 0
      walk-passed = ap (λ (a : Answer). a.number) (sym first-is) ∙ z

      pub walk_none : (count : ℕ) → count ≡ 0 → refused_res first t ≡ walk_of dir step count t s n c
      unfolding walk_of positions
      walk_none zero h = behind-yes refusal first-is z (ap refusal (list-answered numbers n c first-is z))
      walk_none (suc m) h = absurd (omega arith)

  -- ---- a walk over one position is the call at it
  calc-settled : settled t (calc_res_of dir t s n c) ≡ calc_res_of dir t s n c
  calc-settled = go (is_done (list_answer (state_finite s) n c)) refl
    where
      go : (b : Bool) → is_done (list_answer (state_finite s) n c) ≡ b → settled t (calc_res_of dir t s n c) ≡ calc_res_of dir t s n c
      go true k =
          let z = eqb-true (list_answer (state_finite s) n c).number 0 k in
          subst (λ (r : StrapRes). settled t r ≡ r) (calc-passed s n c refl refl dir t z refl) (known-settled t dir s (coeffs n c))
      go false k =
          let h = eqb-false (list_answer (state_finite s) n c).number 0 k in
          subst (λ (r : StrapRes). settled t r ≡ r) (calc-refused s n c refl refl dir t h) (rw k)

  pub walk-one : finite step ≡ true → walk_of dir step 1 t s n c ≡ calc_res_of dir t s n c
  unfolding walk_of positions walk_from
  walk-one f =
      let also : numbers ≡ state_finite s = ap (λ (b : Bool). state_finite s && b) f ∙ and-true (state_finite s) in
      ap (λ (b : Bool). cond (is_done (list_answer b n c)) (settled t (calc_res_of dir t s n c)) (refusal (list_answer b n c))) also
      ∙ go (is_done (list_answer (state_finite s) n c)) refl
    where
      go : (b : Bool) → is_done (list_answer (state_finite s) n c) ≡ b → cond b (settled t (calc_res_of dir t s n c)) (refusal (list_answer (state_finite s) n c)) ≡ calc_res_of dir t s n c
      go true k = calc-settled
      go false k = calc-refused s n c refl refl dir t (eqb-false (list_answer (state_finite s) n c).number 0 k)
