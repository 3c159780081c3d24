-- What is known of a link that question 6 has passed, and of a set that question 7 has found.
use Rattle.std.proofs.Common.{◌≡◌, ℕ, zero, suc, ◌+◌, ◌-◌, ◌*◌, ◌<◌, ◌≤◌, Bool, true, false, cond, not, ◌&&◌, ◌||◌, eqb, leb, List, [], ◌∷◌, map, length, get_or, sym, refl, ap, ◌∙◌, le_of_suc-le-suc, not-suc-le-zero, arith, eqb-true, leb-true, Option, Some, None}
use mathlib.Core.Bool.{false≢true}
use lib.Ieee as Ieee
use lib.Ieee.{Float}
use lib.Ieee.Scale.{finite}
use Rattle.ieee.specs.Number.{+0}
use Rattle.link.specs.declared.train_params.TrainType.{TrainType}
use Rattle.link.specs.declared.speed_set.SpeedSet.{SpeedSet}
use Rattle.link.specs.declared.network.LinkNumbers.{LinkNumbers}
use Rattle.link.specs.Lists.{every, up_from, first_no, first_no_from}
use Rattle.link.specs.Train.{type_number}
use Rattle.link.specs.Condition.{condition_formed}
use Rattle.link.specs.Table.{LinkTable, link_at, inside, is_present, conditions_of, limits_of, set_at, set_for, set_told}
use Rattle.link.specs.Questions.{samples_formed, limit_formed, power_formed, known_flag, present_formed, set_formed, in_pools, well_formed, number_at, numbers, question6}
use Rattle.link.proofs.Formed.{type-below}
use Rattle.link.proofs.Loops.{range-more}

pub and_both : (a b : Bool) → (a && b) ≡ true → (a ≡ true) × (b ≡ true)
and_both true b e = (refl, e)
and_both false b e = absurd (false≢true e)

-- ---- the ranges of elevations, headings and power limits that lie in their pools
pub pools-known :
    (elevs headings powers : List Float) (districts : List ℕ) (n : LinkNumbers)
    → in_pools elevs headings powers districts n ≡ true
    → (2 * (n.elevs_first + n.elevs_count) ≤ length elevs) × (2 * (n.headings_first + n.headings_count) ≤ length headings) × (3 * (n.powers_first + n.powers_count) ≤ length powers)
unfolding in_pools
pools-known elevs headings powers districts n e =
    let a = and_both _ _ e in
    let b = and_both _ _ a.1 in
    let c = and_both _ _ b.1 in
    (leb-true _ _ a.0, leb-true _ _ b.0, leb-true _ _ c.0)

-- ---- one element of a range whose elements all pass
pub every-at : {A : Type 0} (at : ℕ → A) (ok : A → Bool) (start n k : ℕ) → k < n → every ok (up_from at start n) ≡ true → ok (at (start + k)) ≡ true
unfolding every up_from
every-at at ok start zero k h e = absurd (not-suc-le-zero h)
every-at at ok start (suc n) zero h e =
    let z : start ≡ start + 0 = omega arith in
    ap (λ (i : ℕ). ok (at i)) (sym z) ∙ (and_both (ok (at start)) _ e).0
every-at at ok start (suc n) (suc k) h e =
    let z : suc start + k ≡ start + suc k = omega arith in
    ap (λ (i : ℕ). ok (at i)) (sym z) ∙ every-at at ok (suc start) n k (le_of_suc-le-suc h) (and_both (ok (at start)) _ e).1

no-yes : (i : ℕ) → Some i ≡ None → ⊥
no-yes i e = false≢true (ap is-yes e)
  where
    is-yes : Option ℕ → Bool
    is-yes None = true
    is-yes (Some k) = false

module _ {A : Type 0} where
  -- one element of a list whose elements all pass
  pub every_in : (ok : A → Bool) (l : List A) (k : ℕ) (d : A) → k < length l → every ok l ≡ true → ok (get_or l k d) ≡ true
  unfolding every
  every_in ok [] k d h e = absurd (not-suc-le-zero h)
  every_in ok (x ∷ xs) zero d h e = (and_both (ok x) _ e).0
  every_in ok (x ∷ xs) (suc k) d h e = every_in ok xs k d (le_of_suc-le-suc h) (and_both (ok x) _ e).1

-- a question that no position fails passes every one
no-from : {A : Type 0} (ok : A → Bool) (i : ℕ) (xs : List A) → first_no_from i (map ok xs) ≡ None → every ok xs ≡ true
unfolding every first_no_from
no-from ok i [] e = refl
no-from ok i (x ∷ xs) e = go (ok x) refl (no-from ok (suc i) xs)
  where
    go : (b : Bool) → ok x ≡ b → (first_no_from (suc i) (map ok xs) ≡ None → every ok xs ≡ true) → every ok (x ∷ xs) ≡ true
    go true t rest = rw t (rest (rw t at e))
    go false t rest = absurd (no-yes i (rw t at e))

pub none-fails : {A : Type 0} (ok : A → Bool) (xs : List A) → first_no (map ok xs) ≡ None → every ok xs ≡ true
none-fails ok xs e = no-from ok 0 xs e

pub all-formed : (t : LinkTable) (ns : List ℕ) → question6 t ns ≡ None → every (well_formed t) ns ≡ true
unfolding question6
all-formed t ns e = none-fails (well_formed t) ns e

-- the entries of a plain list are the list
range-shift : {A : Type 0} (at : ℕ → A) (start n : ℕ) → up_from at (suc start) n ≡ up_from (λ i. at (suc i)) start n
unfolding up_from
range-shift at start zero = refl
range-shift {A = A} at start (suc n) = ap (λ (l : List A). at (suc start) ∷ l) (range-shift at (suc start) n)

pub numbers-plain : (l : List ℕ) → numbers false l (length l) ≡ l
unfolding up_from
numbers-plain [] = refl
numbers-plain (x ∷ l) = ap (λ (r : List ℕ). x ∷ r) (range-shift (number_at false (x ∷ l)) 0 (length l) ∙ numbers-plain l)

-- where each element passes, the first does, and each of the rest
pub every-next : {A : Type 0} (at : ℕ → A) (ok : A → Bool) (i end : ℕ) → i < end → every ok (up_from at i (end - i)) ≡ true → (ok (at i) ≡ true) × (every ok (up_from at (i + 1) (end - (i + 1))) ≡ true)
unfolding every
every-next at ok i end h e = and_both (ok (at i)) _ (sym (ap (every ok) (range-more at i end h)) ∙ e)

-- ---- a link
pub record Formed (t : LinkTable) (n : ℕ) : Type 0 where
  pub own : (link_at t n).numbers.idx_curr ≡ n
  pub finite-length : finite (link_at t n).length ≡ true
  pub above : Ieee.lt +0 (link_at t n).length ≡ true
  pub elevs : samples_formed (link_at t n).length (link_at t n).elevs ≡ true
  pub headings : samples_formed (link_at t n).length (link_at t n).headings ≡ true
  pub powers : every power_formed (link_at t n).powers ≡ true
  pub sets : every (set_formed t.codes t.values t.limits) (up_from (link_at t n).set 0 8) ≡ true

pub formed : (t : LinkTable) (n : ℕ) → well_formed t n ≡ true → Formed t n
unfolding well_formed
formed t n e =
    let l = link_at t n in
    let a = and_both (eqb l.numbers.idx_curr n) _ e in
    let b = and_both (in_pools t.elevs t.headings t.powers t.districts l.numbers) _ a.1 in
    let c = and_both (finite l.length) _ b.1 in
    let d = and_both (Ieee.lt +0 l.length) _ c.1 in
    let f = and_both (samples_formed l.length l.elevs) _ d.1 in
    let g = and_both (samples_formed l.length l.headings) _ f.1 in
    let h = and_both (every power_formed l.powers) _ g.1 in
    record {
      own = eqb-true l.numbers.idx_curr n a.0;
      finite-length = c.0;
      above = d.0;
      elevs = f.0;
      headings = g.0;
      powers = h.0;
      sets = h.1;
    }

-- ---- a set

-- the set that is found is present, and one of the eight
pub found : (set : ℕ → SpeedSet) (type : TrainType) (s : SpeedSet) → set_for set type ≡ Some s → (is_present s ≡ true) × ((k : ℕ) × (k < 8) × (s ≡ set k))
unfolding set_for
found set type s e = pick (is_present (set 0)) refl (is_present (set (suc (type_number type)))) refl e
  where
    same : (a b : SpeedSet) → Some a ≡ Some b → b ≡ a
    same a b e = ap (λ (f : Option SpeedSet). (set_told f).set) (sym e)

    none : None ≡ Some s → ⊥
    none e = omega (arith, ap (λ (f : Option SpeedSet). (set_told f).number) e)

    pick :
        (a : Bool) → is_present (set 0) ≡ a
        → (b : Bool) → is_present (set (suc (type_number type))) ≡ b
        → cond a (Some (set 0)) (cond b (Some (set (suc (type_number type)))) None) ≡ Some s
        → (is_present s ≡ true) × ((k : ℕ) × (k < 8) × (s ≡ set k))
    pick true x b y z = let w = same (set 0) s z in (ap is_present w ∙ x, (0, omega arith, w))
    pick false x true y z =
        let w = same (set (suc (type_number type))) s z in
        (ap is_present w ∙ y, (suc (type_number type), omega (arith, type-below type), w))
    pick false x false y z = absurd (none z)

module _ (codes : List ℕ) (values limits : List Float) (s : SpeedSet) where
  present-formed : is_present s ≡ true → set_formed codes values limits s ≡ true → present_formed codes values limits s ≡ true
  unfolding set_formed
  present-formed p e = go (is_present s) p (and_both (known_flag s.present) _ e).1
    where
      go : (b : Bool) → b ≡ true → (not b || present_formed codes values limits s) ≡ true → present_formed codes values limits s ≡ true
      go true x y = y
      go false x y = absurd (false≢true x)

  -- a set that is well formed has few conditions, and limits that are well formed
  pub few-conditions : present_formed codes values limits s ≡ true → s.params_count ≤ 64
  unfolding present_formed
  few-conditions e = leb-true s.params_count 64 (and_both (leb s.params_count 64) _ (and_both (known_flag s.is_head_end) _ e).1).0

  pub limits-formed : present_formed codes values limits s ≡ true → every limit_formed (limits_of limits s) ≡ true
  unfolding present_formed
  limits-formed e =
      let a = and_both (known_flag s.is_head_end) _ e in
      let b = and_both (leb s.params_count 64) _ a.1 in
      let c = and_both (inside 2 s.params_first s.params_count codes) _ b.1 in
      let d = and_both (inside 1 s.params_first s.params_count values) _ c.1 in
      let f = and_both (inside 3 s.limits_first s.limits_count limits) _ d.1 in
      (and_both (every condition_formed (conditions_of codes values s)) _ f.1).1

-- the set that question 7 finds in a link that question 6 has passed
pub set-formed : (t : LinkTable) (n : ℕ) (type : TrainType) (s : SpeedSet) → well_formed t n ≡ true → set_for (set_at t.sets n) type ≡ Some s → present_formed t.codes t.values t.limits s ≡ true
unfolding link_at
set-formed t n type s e f =
    let set = set_at t.sets n in
    let w = found set type s f in
    let k = w.1.0 in
    let each = every-at set (set_formed t.codes t.values t.limits) 0 8 k w.1.1 (formed t n e).sets in
    let z : 0 + k ≡ k = omega arith in
    present-formed t.codes t.values t.limits s w.0 (ap (set_formed t.codes t.values t.limits) (w.1.2 ∙ ap set (sym z)) ∙ each)
