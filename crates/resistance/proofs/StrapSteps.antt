-- `Strap`: the searches of a call, where they end, and the resistance at two indices.
use Prim.Native.Nat.{ℕ, ◌≤◌, ◌<◌}
use mathlib.Core.Path.{◌≡◌, refl, sym, ap, ap₂, ◌∙◌, subst}
use mathlib.Core.Bool.{Bool, true, false, not, ◌&&◌, and-true, cond}
use mathlib.Core.List.{List, [], ◌∷◌, ◌++◌}
use borrow.Author.Tests.{eqb-true, eqb-false, le-leb, lt-leb}
use lib.Dec.{T, eqb}
use lib.ListN.{length}
use lib.Ieee.{Float}
use lib.Ieee.Scale.{finite}
use Rattle.ieee.specs.Number.{◌⊖◌, ◌⊗◌, ◌⊘◌, all_finite}
use Rattle.column.proofs.Finite.{finite-append}
use Rattle.lookup.specs.declared.lin_search_hint.Dir.{Dir}
use Rattle.lookup.specs.declared.lin_search_hint.Dir.TheVariants.{Unk, Fwd, Bwd}
use Rattle.lookup.specs.declared.path_res_coeff.PathResCoeff.{PathResCoeff}
use Rattle.lookup.specs.Coeff.{coeffs, coeff_at, coefficient_of, res_val}
use Rattle.answer.specs.declared.Answer.{Answer}
use Rattle.answer.specs.Answers.{done}
use Rattle.path.specs.Answers.{is_done, ask, in_turn}
use Rattle.train.specs.declared.train_state.TrainState.{TrainState}
use Rattle.train.specs.Position.{front_of, back_of, length_of, weight_of, state_finite}
use Rattle.resistance.specs.declared.listed.Searched.{Searched}
use Rattle.resistance.specs.declared.strap.Strap.{Strap}
use Rattle.resistance.specs.declared.strap.StrapAnswer.{StrapAnswer}
use Rattle.resistance.specs.declared.strap.StrapRes.{StrapRes}
use Rattle.resistance.specs.Listed.{list_answer, search, not_searched, value_steps}
use Rattle.resistance.specs.Strap.{Moved, strap_of, front_idx, back_idx, answered, after_search, moved_to, not_moved, moved_ends, moved, front_value, back_value, calc_res_strap, res_at, res_steps, no_strap, new_known, refused_res, calc_res_known, new_of, calc_res_of}
use Rattle.link.proofs.Known.{and_both}
use Rattle.ieee.proofs.Finite.{sub-finite-l, sub-finite-r, mul-finite-l, div-finite-l}
use Rattle.resistance.proofs.Answered.{behind-no, behind-yes, both_first, both-second, both-done}
use Rattle.resistance.proofs.ListSteps.{list-of-state, Within, search-within, implied, last-of-three, value-finite}

-- ---- what follows a search; r is the code's answer of it, and m what the code gives
module _ {A : Type 0} (refuse : Answer → A) {found r : Searched} (e : r ≡ found) where
  answer-is : r.answer ≡ found.answer
  answer-is = ap (λ (s : Searched). s.answer) e

  after-no : (next : A) {m : A} → (r.answer.number ≡ 0 → ⊥) → m ≡ refuse r.answer → m ≡ after_search refuse found next
  after-no next h f = f ∙ behind-no refuse answer-is next h

  module _ (z : r.answer.number ≡ 0) where
    -- next is made of the index found
    after-yes : (next : ℕ → A) {m : A} → m ≡ next r.idx → m ≡ after_search refuse found (next found.idx)
    after-yes next f = behind-yes refuse answer-is z (f ∙ ap (λ (s : Searched). next s.idx) e)

-- ---- the searches of a call
module _ (dir : Dir) (both : Bool) (x : Float) (i : ℕ) (y : Float) (k : ℕ) (rs : List PathResCoeff) {r : Searched} (e : r ≡ search dir x i rs) where
  pub first-refused : {m : Moved} → (r.answer.number ≡ 0 → ⊥) → m ≡ not_moved i k r.answer → m ≡ moved_ends dir both x i y k rs
  unfolding moved_ends
  first-refused h f = after-no (not_moved i k) e _ h f

  -- j is the index found, and b whether it serves both ends
  abbrev going_on : Bool → ℕ → Moved
  going_on b j =
      let second = search dir y k rs in
      cond b (moved_to j k true) (after_search (not_moved i k) second (moved_to j second.idx (both && eqb j second.idx)))

  module _ (z : r.answer.number ≡ 0) where
    went_on : {b : Bool} {m : Moved} → (not both && eqb r.idx k) ≡ b → m ≡ going_on b r.idx → m ≡ moved_ends dir both x i y k rs
    unfolding moved_ends
    went_on h f = after-yes (not_moved i k) e z (λ (j : ℕ). going_on (not both && eqb j k) j) (f ∙ ap (λ (t : Bool). going_on t r.idx) (sym h))

    pub first-serves : {m : Moved} → (not both && eqb r.idx k) ≡ true → m ≡ moved_to r.idx k true → m ≡ moved_ends dir both x i y k rs
    first-serves h f = went_on h f

    module _ (h : (not both && eqb r.idx k) ≡ false) {q : Searched} (d : q ≡ search dir y k rs) where
      pub second-refused : {m : Moved} → (q.answer.number ≡ 0 → ⊥) → m ≡ not_moved i k q.answer → m ≡ moved_ends dir both x i y k rs
      second-refused l f = went_on h (after-no (not_moved i k) d _ l f)

      pub second-found : {m : Moved} → q.answer.number ≡ 0 → m ≡ moved_to r.idx q.idx (both && eqb r.idx q.idx) → m ≡ moved_ends dir both x i y k rs
      second-found w f = went_on h (after-yes (not_moved i k) d w (λ (j : ℕ). moved_to r.idx j (both && eqb r.idx j)) f)

-- ---- a call that is done leaves both indices below the count
abbrev Placed : List PathResCoeff → Moved → Type 0
Placed rs m = m.answer.number ≡ 0 → (m.answer ≡ done) × (front_idx m.strap < length rs) × (back_idx m.strap < length rs)

module _ (rs : List PathResCoeff) where
  after-placed : (i k : ℕ) (found : Searched) (next : Moved) → Within rs found → (found.idx < length rs → Placed rs next) → Placed rs (after_search (not_moved i k) found next)
  after-placed i k found next w h = go (is_done found.answer) refl
    where
      go : (b : Bool) → is_done found.answer ≡ b → Placed rs (cond b next (not_moved i k found.answer))
      go true e z = h (w (eqb-true found.answer.number 0 e)).1 z
      go false e z = absurd (eqb-false found.answer.number 0 e z)

  serves-placed : (b : Bool) (same other : Moved) → (b ≡ true → Placed rs same) → Placed rs other → Placed rs (cond b same other)
  serves-placed true same other g h = g refl
  serves-placed false same other g h = h

  ends-placed : (dir : Dir) (both : Bool) (x : Float) (i : ℕ) (y : Float) (k : ℕ) → Placed rs (moved_ends dir both x i y k rs)
  unfolding moved_ends
  ends-placed dir both x i y k =
      after-placed i k _ _ (search-within dir x i rs)
      (λ f. serves-placed (not both && eqb (search dir x i rs).idx k) (moved_to (search dir x i rs).idx k true) _
      (λ e z. (refl, f, subst (λ (j : ℕ). j < length rs) (eqb-true _ k (and_both (not both) _ e).1) f))
      (after-placed i k _ _ (search-within dir y k rs) (λ b z. (refl, f, b))))

module _ (t : Strap) (s : TrainState) (rs : List PathResCoeff) where
  moved-placed : (dir : Dir) → Placed rs (moved dir t s rs)
  unfolding moved
  moved-placed Fwd = ends-placed rs Fwd false (front_of s) (front_idx t) (back_of s) (back_idx t)
  moved-placed Bwd = λ z. let p = ends-placed rs Bwd false (back_of s) (back_idx t) (front_of s) (front_idx t) z in (p.0, p.2, p.1)
  moved-placed Unk = ends-placed rs Unk true (front_of s) (front_idx t) (back_of s) (back_idx t)

-- ---- the coefficient at two indices; g is the front's record as the code reads it
module _ {one : Bool} (t : Strap) (s : TrainState) (rs : List PathResCoeff) {g : PathResCoeff} (e : g ≡ coeff_at rs (front_idx t)) where
  pub one-record : one ≡ true → coefficient_of g ≡ calc_res_strap one t s rs
  unfolding calc_res_strap
  one-record k = rw k (ap coefficient_of e)

  pub two_records : one ≡ false → {v : Float} → v ≡ res_val g (front_of s) → {k : PathResCoeff} → k ≡ coeff_at rs (back_idx t) → {w : Float} → w ≡ res_val k (back_of s)
      → (v ⊖ w) ⊘ length_of s ≡ calc_res_strap one t s rs
  unfolding calc_res_strap
  two_records d {v} a {k} f {w} u =
      let x : v ≡ front_value t s rs = a ∙ ap (λ (r : PathResCoeff). res_val r (front_of s)) e in
      let y : w ≡ back_value t s rs = u ∙ ap (λ (r : PathResCoeff). res_val r (back_of s)) f in
      rw d (ap₂ (λ (p q : Float). (p ⊖ q) ⊘ length_of s) x y)

-- ---- the resistance is finite only where every result on the way is
module _ (t : Strap) (s : TrainState) (rs : List PathResCoeff) where
  abbrev front_steps : List Float
  front_steps = value_steps (coeff_at rs (front_idx t)) (front_of s)

  abbrev back_steps : List Float
  back_steps = value_steps (coeff_at rs (back_idx t)) (back_of s)

  abbrev difference : Float
  difference = front_value t s rs ⊖ back_value t s rs

  abbrev quotient : Float
  quotient = difference ⊘ length_of s

  steps-finite : (one : Bool) → all_finite (res_steps one t s rs) ≡ finite (res_at one t s rs)
  unfolding all_finite res_steps calc_res_strap
  steps-finite true = and-true (finite (res_at true t s rs))
  steps-finite false =
      let force = quotient ⊗ weight_of s in
      let last = finite force in
      let q : T last → T (finite quotient) = mul-finite-l quotient (weight_of s) in
      let d : T last → T (finite difference) = λ x. div-finite-l difference (length_of s) (q x) in
      let f : T last → T (finite (front_value t s rs)) = λ x. sub-finite-l (front_value t s rs) (back_value t s rs) (d x) in
      let b : T last → T (finite (back_value t s rs)) = λ x. sub-finite-r (front_value t s rs) (back_value t s rs) (d x) in
      finite-append front_steps (back_steps ++ (difference ∷ quotient ∷ force ∷ []))
      ∙ ap₂ ◌&&◌ (value-finite (coeff_at rs (front_idx t)) (front_of s))
      (finite-append back_steps (difference ∷ quotient ∷ force ∷ [])
      ∙ ap₂ ◌&&◌ (value-finite (coeff_at rs (back_idx t)) (back_of s)) (last-of-three (finite difference) (finite quotient) last d q)
      ∙ implied (finite (back_value t s rs)) last b)
      ∙ implied (finite (front_value t s rs)) last f

-- ---- the resistance; m is the code's answer of the searches
module _ (dir : Dir) (t : Strap) (s : TrainState) (rs : List PathResCoeff) {m : Moved} (e : m ≡ moved dir t s rs) where
  abbrev there : Moved
  there = moved dir t s rs

  abbrev refuse : Answer → StrapRes
  refuse a = refused_res a t

  abbrev force_at : Moved → Float
  force_at r = res_at r.one r.strap s rs

  abbrev good : StrapRes
  good = record { answer = done; strap = there.strap; res = record { 0 = force_at there } }

  abbrev question : Bool
  question = all_finite (res_steps there.one there.strap s rs)

  answer-of : m.answer ≡ there.answer
  answer-of = ap (λ (r : Moved). r.answer) e

  pub res-refused : (m.answer.number ≡ 0 → ⊥) → refused_res m.answer t ≡ calc_res_known dir t s rs
  unfolding calc_res_known
  res-refused h = both_first refuse good answer-of 7 question h

  module _ (z : m.answer.number ≡ 0) where
    placed : (m.answer ≡ done) × (front_idx m.strap < length rs) × (back_idx m.strap < length rs)
    placed = subst (Placed rs) (sym e) (moved-placed t s rs dir) z

    pub moved-below : (front_idx m.strap < length rs) × (back_idx m.strap < length rs)
    moved-below = (placed.1, placed.2)

    -- k is the coefficient that the code works out
    module _ {k : Float} (f : k ≡ calc_res_strap m.one m.strap s rs) where
      force : k ⊗ weight_of s ≡ force_at there
      force = ap (λ (x : Float). x ⊗ weight_of s) f ∙ ap force_at e

      asked-as : {b : Bool} → finite (k ⊗ weight_of s) ≡ b → question ≡ b
      asked-as x = steps-finite there.strap s rs there.one ∙ ap finite (sym force) ∙ x

      pub res-8 : {r : Answer} → finite (k ⊗ weight_of s) ≡ false → r ≡ ask 8 false → refused_res r t ≡ calc_res_known dir t s rs
      unfolding calc_res_known
      res-8 x y = both-second refuse good answer-of 7 question z (asked-as x) y

      pub res-found : finite (k ⊗ weight_of s) ≡ true → record { answer = m.answer; strap = m.strap; res = record { 0 = k ⊗ weight_of s } } ≡ calc_res_known dir t s rs
      unfolding calc_res_known
      res-found x = given ∙ both-done refuse good answer-of 7 question z (asked-as x)
        where
          given : record { answer = m.answer; strap = m.strap; res = record { 0 = k ⊗ weight_of s } } ≡ good
          given = cc (placed.0, e, force)

-- ---- a refused call leaves the strap: handing it back again changes nothing
module _ (t : Strap) where
  -- what a call with the strap t makes of r: a refusal hands t back
  abbrev pub settled : StrapRes → StrapRes
  settled r = cond (is_done r.answer) r (refused_res r.answer t)

  -- good is what the call gives where the answer is done
  settled-behind : (a : Answer) (good : StrapRes) → settled good ≡ good → settled (cond (is_done a) good (refused_res a t)) ≡ cond (is_done a) good (refused_res a t)
  settled-behind a good e = go (is_done a) refl
    where
      go : (b : Bool) → is_done a ≡ b → settled (cond b good (refused_res a t)) ≡ cond b good (refused_res a t)
      go true k = e
      go false k = rw k

  pub known-settled : (dir : Dir) (s : TrainState) (rs : List PathResCoeff) → settled (calc_res_known dir t s rs) ≡ calc_res_known dir t s rs
  unfolding calc_res_known
  known-settled dir s rs =
      let m = moved dir t s rs in
      let a = in_turn (m.answer ∷ ask 8 (all_finite (res_steps m.one m.strap s rs)) ∷ []) in
      settled-behind a (record { answer = done; strap = m.strap; res = record { 0 = res_at m.one m.strap s rs } }) refl

-- ---- a new strap
module _ (s : TrainState) (rs : List PathResCoeff) where
  abbrev rear : Float
  rear = front_of s ⊖ length_of s

  -- by whether the back's offset is finite
  abbrev both_ends : Bool → StrapAnswer
  both_ends b =
      let back = cond b (search Fwd rear 0 rs) (not_searched 8) in
      let front = search Fwd (front_of s) back.idx rs in
      after_search no_strap back (after_search no_strap front (answered done (strap_of front.idx back.idx)))

  pub new-single : {a : Answer} → length rs ≤ 1 → a ≡ done → no_strap a ≡ new_known s rs
  unfolding new_known
  new-single h e = rw (le-leb (length rs) 1 h) (ap no_strap e)

  module _ (h : 1 < length rs) where
    new-more : new_known s rs ≡ both_ends (finite rear)
    unfolding new_known
    new-more = rw (lt-leb (length rs) 1 h)

    pub new-8 : {a : Answer} → finite rear ≡ false → a ≡ ask 8 false → no_strap a ≡ new_known s rs
    new-8 t e = ap no_strap e ∙ sym (new-more ∙ ap both_ends t)

    module _ (t : finite rear ≡ true) {back : Searched} (e : back ≡ search Fwd rear 0 rs) where
      pub new-back : (back.answer.number ≡ 0 → ⊥) → no_strap back.answer ≡ new_known s rs
      new-back k = after-no no_strap e _ k refl ∙ sym (new-more ∙ ap both_ends t)

      module _ (z : back.answer.number ≡ 0) {front : Searched} (f : front ≡ search Fwd (front_of s) back.idx rs) where
        abbrev front-after : ℕ → StrapAnswer
        front-after i = after_search no_strap (search Fwd (front_of s) i rs) (answered done (strap_of (search Fwd (front_of s) i rs).idx i))

        pub new-front : (front.answer.number ≡ 0 → ⊥) → no_strap front.answer ≡ new_known s rs
        new-front k = after-yes no_strap e z front-after (after-no no_strap f _ k refl) ∙ sym (new-more ∙ ap both_ends t)

        pub new-both : front.answer.number ≡ 0 → answered front.answer (strap_of front.idx back.idx) ≡ new_known s rs
        new-both y =
            let within = subst (Within rs) (sym f) (search-within Fwd (front_of s) back.idx rs) y in
            let found = ap (λ (a : Answer). answered a (strap_of front.idx back.idx)) within.0 in
            after-yes no_strap e z front-after (after-yes no_strap f y (λ (i : ℕ). answered done (strap_of i back.idx)) found) ∙ sym (new-more ∙ ap both_ends t)

-- ---- behind questions 1 and 2, to which first is the code's answer
module _ (s : TrainState) (n : ℕ) (c : List Float) {ok : Bool} (o : ok ≡ state_finite s) {first : Answer} (l : first ≡ list_answer ok n c) where
  pub new-refused : (first.number ≡ 0 → ⊥) → no_strap first ≡ new_of s n c
  unfolding new_of
  new-refused h = behind-no no_strap (list-of-state s n c o l) (new_known s (coeffs n c)) h

  pub new-passed : {r : StrapAnswer} → first.number ≡ 0 → r ≡ new_known s (coeffs n c) → r ≡ new_of s n c
  unfolding new_of
  new-passed z e = behind-yes no_strap (list-of-state s n c o l) z e

  module _ (dir : Dir) (t : Strap) where
    pub calc-refused : (first.number ≡ 0 → ⊥) → refused_res first t ≡ calc_res_of dir t s n c
    unfolding calc_res_of
    calc-refused h = behind-no (λ (a : Answer). refused_res a t) (list-of-state s n c o l) (calc_res_known dir t s (coeffs n c)) h

    pub calc-passed : {r : StrapRes} → first.number ≡ 0 → r ≡ calc_res_known dir t s (coeffs n c) → r ≡ calc_res_of dir t s n c
    unfolding calc_res_of
    calc-passed z e = behind-yes (λ (a : Answer). refused_res a t) (list-of-state s n c o l) z e
