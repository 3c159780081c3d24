-- The records of the limits laid: one behind the first n, and more of them in turn, as long as there is room.
use Rattle.std.proofs.Common.{◌≡◌, ℕ, zero, suc, ◌+◌, ◌<◌, ◌≤◌, min, List, [], ◌∷◌, ◌++◌, length, take, set, sym, refl, ap, ◌∙◌, append_assoc, append-nil, add-one, arith, length-append, length-take, take_all}
use Rattle.view.specs.History.{with_more}

module _ {A : Type 0} where
  take_again : (k : ℕ) (a b : List A) → take k (take k a ++ b) ≡ take k (a ++ b)
  take_again zero a b = refl
  take_again (suc k) [] b = refl
  take_again (suc k) (x ∷ a) b = ap (λ (l : List A). x ∷ l) (take_again k a b)

  take-nil : (k : ℕ) → take {A = A} k [] ≡ []
  take-nil zero = refl
  take-nil (suc k) = refl

  -- a record behind the first n
  take_suc-put : (records : List A) (n : ℕ) (x : A) → n < length records → take (suc n) (set records n x) ≡ with_more records n (x ∷ [])
  take_suc-put [] n x h = absurd (omega arith)
  take_suc-put (y ∷ ys) zero x h = ap (λ (l : List A). x ∷ l) (sym (take-nil (length ys)))
  take_suc-put (y ∷ ys) (suc n) x h = ap (λ (l : List A). y ∷ l) (take_suc-put ys n x (omega arith))

  pub take-put : (records : List A) (n : ℕ) (x : A) → n < length records → take (n + 1) (set records n x) ≡ with_more records n (x ∷ [])
  take-put records n x h = rw (add-one n) (take_suc-put records n x h)

  -- where there is no room for it
  pub take-full : (records : List A) (n : ℕ) (more : List A) → length records ≤ n → take (length records) records ≡ with_more records n more
  take-full [] n more h = refl
  take-full (y ∷ ys) zero more h = absurd (omega arith)
  take-full (y ∷ ys) (suc n) more h = ap (λ (l : List A). y ∷ l) (take-full ys n more (omega arith))

  -- nothing more
  pub take_min : (records : List A) (n : ℕ) → take (min n (length records)) records ≡ with_more records n []
  take_min [] zero = refl
  take_min [] (suc n) = take-nil (min (suc n) 0)
  take_min (y ∷ ys) zero = let e : min 0 (suc (length ys)) ≡ 0 = omega arith in ap (λ (j : ℕ). take j (y ∷ ys)) e
  take_min (y ∷ ys) (suc n) =
      let e : min (suc n) (suc (length ys)) ≡ suc (min n (length ys)) = omega arith in
      ap (λ (j : ℕ). take j (y ∷ ys)) e ∙ ap (λ (l : List A). y ∷ l) (take_min ys n)

  -- where there is room for all of them
  pub laid-fits : (records : List A) (n : ℕ) (more : List A) → n + length more ≤ length records → with_more records n more ≡ take n records ++ more
  laid-fits records n more h = take_all (length records) (take n records ++ more) (omega (arith, length-append (take n records) more, length-take n records))

-- Adding in a loop: the records, as long as those at first, hold m, and with `left` behind them, as long as there is room, they become `goal`.
pub record Adding {A : Type 0} (records₀ goal left records : List A) (m : ℕ) : Type 0 where
  pub long : length records ≡ length records₀
  pub within : m ≤ length records₀
  pub is : take (length records₀) (take m records ++ left) ≡ goal

module _ {A : Type 0} where
  pub adding-first : (records : List A) (n m : ℕ) (left : List A) → m ≡ min n (length records) → Adding records (with_more records n left) left records m
  adding-first records n m left e =
      let k = length records in
      record {
        long = refl;
        within = omega arith;
        is = ap (λ (j : ℕ). take k (take j records ++ left)) e ∙ ap (λ (l : List A). take k (l ++ left)) (take_min records n) ∙ take_again k (take n records ++ []) left ∙ ap (λ (l : List A). take k (l ++ left)) (append-nil (take n records));
      }

module _ {A : Type 0} {records₀ goal left records : List A} {m : ℕ} (g : Adding records₀ goal left records m) where
  -- some are added
  pub adding-more : (some rest d : List A) (r : ℕ) → left ≡ some ++ rest → take r d ≡ with_more records m some → r ≤ length d → length d ≡ length records → Adding records₀ goal rest d r
  adding-more some rest d r split added within long =
      let k = length records₀ in
      let now : take r d ≡ take k (take m records ++ some) = added ∙ ap (λ (j : ℕ). take j (take m records ++ some)) g.long in
      record {
        long = long ∙ g.long;
        within = omega (arith, g.long);
        is = ap (λ (l : List A). take k (l ++ rest)) now
            ∙ take_again k (take m records ++ some) rest
            ∙ ap (take k) (append_assoc (take m records) some rest ∙ ap (λ (l : List A). take m records ++ l) (sym split))
            ∙ g.is;
      }

  -- none is added
  pub adding-none : (rest : List A) → left ≡ rest → Adding records₀ goal rest records m
  adding-none rest e = rw (← e) g

  -- none is left
  pub adding-last : left ≡ [] → take m records ≡ goal
  adding-last e =
      let k = length records₀ in
      let all = take m records in
      sym (take_all k all (omega (arith, g.within, length-take m records))) ∙ ap (take k) (sym (append-nil all) ∙ ap (λ (l : List A). all ++ l) (sym e)) ∙ g.is
