-- Power limits behind others: one more in the two columns, and one more of a range.
use Prim.Native.Nat.{ℕ, ◌+◌, ◌*◌, ◌≤◌, ◌<◌}
use native.Mathlib.Omega.{arith}
use native.Mathlib.Numerals.{add-one}
use mathlib.Core.Path.{◌≡◌, sym, ap, ap₂, ◌∙◌}
use mathlib.Core.Bool.{Bool, ◌&&◌}
use mathlib.Core.List.{List, [], ◌∷◌, ◌++◌, map, append_assoc, append-nil, map-append}
use lib.ListN.{length, set, length-append, length-map}
use lib.Ieee.{Float}
use lib.Ieee.Scale.{finite}
use Rattle.ieee.specs.Number.{+0}
use Rattle.column.specs.declared.Three.{Three}
use Rattle.column.specs.Entries.{filled}
use Rattle.column.specs.Records.{flat, put_record, three}
use Rattle.column.proofs.Bridge.{three-lawful, push-filled}
use Rattle.link.specs.Lists.{up_from}
use Rattle.link.specs.declared.cat_power.CatPowerLimit.{CatPowerLimit}
use Rattle.link.specs.Table.{PowerLimit, power_of}
use Rattle.link.proofs.Loops.{length-range, range_last}
use Rattle.path.specs.Records.{three_of, power_limits}
use Rattle.path.proofs.ReadBack.{length-powers}
use Rattle.path_stretches.specs.Powers.{placed_power, power_finite, HoldsPowers}
use Rattle.column.proofs.Filling.{push-entry}

-- ---- one limit more
module _ {ws ws' : List Float} {ds ds' : List ℕ} {ls : List PowerLimit} {j : ℕ} (p : PowerLimit) where
  push-power :
      HoldsPowers ws ds ls
      → length ls ≡ j
      → 3 * (j + 1) ≤ length ws
      → j < length ds
      → length ws' ≡ length ws
      → length ds' ≡ length ds
      → ws' ≡ put_record three ws j (three_of p)
      → ds' ≡ set ds j p.district
      → HoldsPowers ws' ds' (ls ++ p ∷ [])
  push-power h e room place wn dn a b =
      let ts = map three_of ls in
      let es = map (λ (q : PowerLimit). q.district) ls in
      let tn : j ≡ length ts = sym (length-map ls three_of ∙ e) in
      let en : j ≡ length es = sym (length-map ls (λ (q : PowerLimit). q.district) ∙ e) in
      record {
        powers =
            a
            ∙ ap₂ (λ (l : List Float) (k : ℕ). put_record three l k (three_of p)) h.powers tn
            ∙ push-filled three three-lawful +0 (length ws) ts (three_of p) (omega arith)
            ∙ ap₂ (λ (n : ℕ) (l : List Three). filled +0 n (flat three l)) (sym wn) (sym (map-append three_of ls (p ∷ [])));
        districts =
            b
            ∙ ap₂ (λ (l : List ℕ) (k : ℕ). set l k p.district) h.districts en
            ∙ push-entry 0 (length ds) es p.district (omega arith)
            ∙ ap₂ (λ (n : ℕ) (l : List ℕ). filled 0 n l) (sym dn) (sym (map-append (λ (q : PowerLimit). q.district) ls (p ∷ [])));
      }

-- ---- those of a range, behind others
module _ (f : PowerLimit → PowerLimit) (at : ℕ → PowerLimit) (first : ℕ) where
  range-pushed : (ls : List PowerLimit) (k : ℕ) → (ls ++ map f (up_from at first k)) ++ f (at (first + k)) ∷ [] ≡ ls ++ map f (up_from at first (k + 1))
  range-pushed ls k =
      append_assoc ls (map f (up_from at first k)) (f (at (first + k)) ∷ [])
      ∙ ap (λ (l : List PowerLimit). ls ++ l) (sym (map-append f (up_from at first k) (at (first + k) ∷ [])) ∙ ap (map f) (sym (range_last at first k) ∙ ap (up_from at first) (sym (add-one k))))

  length-pushed : (m k : ℕ) (ws : List Float) (ds : List ℕ) → length (power_limits m ws ds ++ map f (up_from at first k)) ≡ m + k
  length-pushed m k ws ds =
      length-append (power_limits m ws ds) (map f (up_from at first k))
      ∙ ap₂ ◌+◌ (length-powers m ws ds) (length-map (up_from at first k) f ∙ length-range at first k)

  module _ (m : ℕ) (ws₀ : List Float) (ds₀ : List ℕ) where
    -- none yet
    pub push-none : {ws : List Float} {ds : List ℕ} → HoldsPowers ws ds (power_limits m ws₀ ds₀) → HoldsPowers ws ds (power_limits m ws₀ ds₀ ++ map f (up_from at first 0))
    unfolding up_from
    push-none h = rw (append-nil (power_limits m ws₀ ds₀)) h

    -- one more
    pub push-next :
        {ws ws' : List Float} {ds ds' : List ℕ} (k : ℕ) (p : PowerLimit)
        → HoldsPowers ws ds (power_limits m ws₀ ds₀ ++ map f (up_from at first k))
        → p ≡ f (at (first + k))
        → 3 * (m + k + 1) ≤ length ws
        → m + k < length ds
        → length ws' ≡ length ws
        → length ds' ≡ length ds
        → ws' ≡ put_record three ws (m + k) (three_of p)
        → ds' ≡ set ds (m + k) p.district
        → HoldsPowers ws' ds' (power_limits m ws₀ ds₀ ++ map f (up_from at first (k + 1)))
    push-next k p h e room place wn dn a b =
        rw (← range-pushed (power_limits m ws₀ ds₀) k, ← e) (push-power p h (length-pushed m k ws₀ ds₀) room place wn dn a b)

-- ---- the two sums of a limit
pub placed-finite :
    (base : Float) (p : PowerLimit) {l placed : CatPowerLimit} {s e : Bool}
    → power_of l ≡ p
    → power_of placed ≡ placed_power base (power_of l)
    → s ≡ finite placed.offset_start.0
    → e ≡ finite placed.offset_end.0
    → (s && e) ≡ power_finite base p
placed-finite base p {l} {placed} q r a b =
    let t : power_of placed ≡ placed_power base p = r ∙ ap (placed_power base) q in
    ap₂ ◌&&◌ (a ∙ ap (λ (x : PowerLimit). finite x.limit.start) t) (b ∙ ap (λ (x : PowerLimit). finite x.limit.end) t)
