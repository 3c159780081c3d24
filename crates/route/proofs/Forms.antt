-- The first field that does not fit, field by field.
use Rattle.std.proofs.Common.{◌≡◌, sym, ◌∙◌, ℕ, suc, ◌+◌, ◌-◌, ◌<◌, ◌≤◌, Bool, true, false, not, cond, List, length, drop, get_or, Option, Some, None, is_some, add-one, arith}
use borrow.Author.Tests.{not-true, not-false}
use lib.ListN.{drop_of_length-le}
use lib.Seq.{drop-cons}
use Rattle.route.specs.declared.wanted.Wanted.{Wanted}
use Rattle.route.specs.Fields.{no_field, whole_at}
use Rattle.route.specs.Forms.{field_fits, misfit_from, list_misfit_from}

-- ---- field k, which place i of a form asks for, where r is whether it fits
module _ (text : List ℕ) (at k : ℕ) (form : List Wanted) (i : ℕ) where
  abbrev from : Option ℕ
  from = misfit_from text at k (drop i form)

  module _ (d : Wanted) (r : Bool) (h : i < length form) (e : r ≡ field_fits text at k (get_or form i d)) where
    misfit-at : from ≡ cond r (misfit_from text at (k + 1) (drop (i + 1) form)) (Some k)
    unfolding misfit_from
    misfit-at = rw (drop-cons form i d h, ← e) (rw (add-one k, add-one i))

    pub misfit-next : not r ≡ false → misfit_from text at (k + 1) (drop (i + 1) form) ≡ from
    misfit-next n = sym (rw (not-false r n) at misfit-at)

    pub misfit-here : not r ≡ true → Some k ≡ from
    misfit-here n = sym (rw (not-true r n) at misfit-at)

  module _ (h : length form ≤ i) where
    pub misfit-none : no_field text at k ≡ true → None ≡ from
    unfolding misfit_from
    misfit-none n = rw (drop_of_length-le form h, n)

    pub misfit-more : no_field text at k ≡ false → Some k ≡ from
    unfolding misfit_from
    misfit-more n = rw (drop_of_length-le form h, n)

-- ---- number i + 1 of a list, where r is whether it is no whole number
module _ (text : List ℕ) (at room i : ℕ) where
  abbrev list_from : Option ℕ
  list_from = list_misfit_from text at (i + 1) (room - i)

  list-end : room ≤ i → list_from ≡ cond (no_field text at (i + 1)) None (Some (i + 1))
  unfolding list_misfit_from
  list-end h =
      let e : room - i ≡ 0 = omega arith in
      rw e

  pub list-none : room ≤ i → no_field text at (i + 1) ≡ true → None ≡ list_from
  list-none h n = sym (list-end h ∙ rw n)

  pub list-more : room ≤ i → no_field text at (i + 1) ≡ false → Some (i + 1) ≡ list_from
  list-more h n = sym (list-end h ∙ rw n)

  module _ (h : i < room) where
    list_at :
        list_from
        ≡ cond (no_field text at (i + 1)) None (cond (is_some (whole_at text at (i + 1))) (list_misfit_from text at (suc (i + 1)) (room - (i + 1))) (Some (i + 1)))
    unfolding list_misfit_from
    list_at =
        let e : room - i ≡ suc (room - (i + 1)) = omega arith in
        rw e

    pub list-stop : no_field text at (i + 1) ≡ true → None ≡ list_from
    list-stop n = sym (list_at ∙ rw n)

    module _ (n : no_field text at (i + 1) ≡ false) (r : Bool) (e : not r ≡ is_some (whole_at text at (i + 1))) where
      pub list-next : r ≡ false → list_misfit_from text at (i + 1 + 1) (room - (i + 1)) ≡ list_from
      list-next m = sym (list_at ∙ rw (n, ← e, m, add-one (i + 1)))

      pub list-here : r ≡ true → Some (i + 1) ≡ list_from
      list-here m = sym (list_at ∙ rw (n, ← e, m))
