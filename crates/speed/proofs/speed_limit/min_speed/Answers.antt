-- `min_speed`: by the two sign bits.
use mathlib.Core.Path.{◌≡◌, refl, sym, ap, ap₂, ◌∙◌}
use mathlib.Core.Bool.{Bool, true, false, ◌||◌}
use lib.Ieee.{neg}
use Rattle.ieee.specs.Number.{sign}
use Rattle.ieee.specs.Speed.{smaller}
use Rattle.ieee.proofs.Speed.{min_speed-set, min_speed-clear}
use Rattle.speed.proofs.speed_limit.min_speed.Goals as goal

neither : (s t : Bool) → s || t ≡ false → (s ≡ false) × (t ≡ false)
neither false false h = (refl, refl)
neither false true h = absurd (cc)
neither true t h = absurd (cc)

pub returns-then-is_negative : goal.returns-then-is_negative
returns-then-is_negative c =
    let a = c.args.speed_old.0 in
    let b = c.args.speed_new.0 in
    ap neg (c.lesser.ensures ∙ ap₂ smaller c.size.ensures c.size-then-is_negative.ensures)
    ∙ sym (min_speed-set a b (sym (ap₂ ◌||◌ c.is_negative.ensures c.is_negative-2.ensures) ∙ c.if-is_negative.true))

pub returns : goal.returns
returns c =
    let a = c.args.speed_old.0 in
    let b = c.args.speed_new.0 in
    let clear = neither (sign a) (sign b) (sym (ap₂ ◌||◌ c.is_negative.ensures c.is_negative-2.ensures) ∙ c.if-is_negative.false) in
    c.lesser-2.ensures ∙ sym (min_speed-clear a b clear.0 clear.1)
