-- Power limits of the listed links behind those of a path: those that are left.
use Prim.Native.Nat.{ℕ, ◌+◌, ◌*◌, ◌≤◌}
use native.Mathlib.Omega.{arith}
use mathlib.Core.Path.{◌≡◌, sym, ap, ap₂, ◌∙◌}
use mathlib.Core.List.{List, [], ◌∷◌, ◌++◌, map}
use lib.ListN.{length, length-append, length-map}
use lib.Ieee.{Float}
use Rattle.column.specs.Entries.{filled}
use Rattle.link.specs.declared.network.LinkNumbers.{LinkNumbers}
use Rattle.link.specs.Lists.{up_from}
use Rattle.link.specs.Table.{PowerLimit, power_at, numbers_of}
use Rattle.link.proofs.Loops.{length-range}
use Rattle.path.specs.Records.{power_limits}
use Rattle.path.proofs.ReadBack.{length-powers, powers-back}
use Rattle.path_stretches.specs.Powers.{placed_power, HoldsPowers}
use Rattle.path_join.specs.Listed.{Rises, powers_in, sum_of, grade_end}
use Rattle.path_join.specs.Joined.{join_powers}
use Rattle.path_join.specs.ByKind.{joined_powers, PowersLaid}
use Rattle.path_join.proofs.Left.{sum-next}

-- what two columns hold is what is read from them
powers-held : {ws : List Float} {ds : List ℕ} {ls : List PowerLimit} → HoldsPowers ws ds ls → power_limits (length ls) ws ds ≡ ls
unfolding filled
powers-held {ls = ls} h = ap₂ (λ (a : List Float) (b : List ℕ). power_limits (length ls) a b) h.powers h.districts ∙ powers-back ls _ _

-- Two columns hold n limits; with those of the links `left` from base on they are `goal`.
pub record PowersLeft (r : Rises) (pool : List Float) (regions : List ℕ) (ws₀ : List Float) (ds₀ : List ℕ) (goal : List PowerLimit) (left : List ℕ) (ws : List Float) (ds : List ℕ) (n : ℕ) (base : Float) : Type 0 where
  pub long : length ws ≡ length ws₀
  pub wide : length ds ≡ length ds₀
  pub room : 3 * (n + sum_of (powers_in r.links) left) ≤ length ws
  pub place : n + sum_of (powers_in r.links) left ≤ length ds
  pub held : HoldsPowers ws ds (power_limits n ws ds)
  pub is : joined_powers r pool regions base (power_limits n ws ds) left ≡ goal

module _ {r : Rises} {pool : List Float} {regions : List ℕ} {ws₀ : List Float} {ds₀ : List ℕ} {goal : List PowerLimit} {left : List ℕ} {ws : List Float} {ds : List ℕ} {n : ℕ} {base : Float} (g : PowersLeft r pool regions ws₀ ds₀ goal left ws ds n base) where
  -- one link, with its numbers l
  module _ {i : ℕ} {rest : List ℕ} {l : LinkNumbers} (e : left ≡ i ∷ rest) (f : l ≡ numbers_of r.links i) where
    pub powers-sum : sum_of (powers_in r.links) left ≡ l.powers_count + sum_of (powers_in r.links) rest
    powers-sum = sum-next (powers_in r.links) e ∙ ap (λ (k : LinkNumbers). k.powers_count + sum_of (powers_in r.links) rest) (sym f)

    abbrev laid : List PowerLimit
    laid = map (placed_power base) (up_from (power_at pool regions) l.powers_first l.powers_count)

    -- it has room
    pub powers-room : (3 * (n + l.powers_count) ≤ length ws) × (n + l.powers_count ≤ length ds)
    powers-room = (omega (arith, g.room, powers-sum), omega (arith, g.place, powers-sum))

    -- one link more
    pub powers-next :
        {ws' : List Float} {ds' : List ℕ} {n' : ℕ} {base' : Float}
        → length ws' ≡ length ws
        → length ds' ≡ length ds
        → n' ≡ n + l.powers_count
        → HoldsPowers ws' ds' (power_limits n ws ds ++ laid)
        → base' ≡ grade_end r base i
        → PowersLeft r pool regions ws₀ ds₀ goal rest ws' ds' n' base'
    unfolding joined_powers join_powers
    powers-next {ws'} {ds'} {n'} {base'} wn dn count h b =
        let ls = power_limits n ws ds in
        let long : length (ls ++ laid) ≡ n' =
        length-append ls laid
        ∙ ap₂ ◌+◌ (length-powers n ws ds) (length-map (up_from (power_at pool regions) l.powers_first l.powers_count) (placed_power base) ∙ length-range (power_at pool regions) l.powers_first l.powers_count)
        ∙ sym count in
        let same : power_limits n' ws' ds' ≡ ls ++ laid = ap (λ (k : ℕ). power_limits k ws' ds') (sym long) ∙ powers-held h in
        let own : ls ++ laid ≡ join_powers r.links pool regions base ls i =
        ap (λ (k : LinkNumbers). ls ++ map (placed_power base) (up_from (power_at pool regions) k.powers_first k.powers_count)) f in
        record {
          long = wn ∙ g.long;
          wide = dn ∙ g.wide;
          room = omega (arith, g.room, powers-sum);
          place = omega (arith, g.place, powers-sum);
          held = rw same h;
          is =
              ap₂ (λ (x : Float) (qs : List PowerLimit). joined_powers r pool regions x qs rest) b (same ∙ own)
              ∙ sym (ap (joined_powers r pool regions base ls) e)
              ∙ g.is;
        }

  -- no link is left
  pub powers-done : left ≡ [] → PowersLaid ws ds n goal
  unfolding joined_powers
  powers-done e =
      let same : power_limits n ws ds ≡ goal = sym (ap (joined_powers r pool regions base (power_limits n ws ds)) e) ∙ g.is in
      record { count = sym (length-powers n ws ds) ∙ ap length same; holds = rw same at g.held }
