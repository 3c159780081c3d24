-- Zeros past the counts: the columns then hold the path and nothing else.
use Prim.Native.Nat.{ℕ, ◌*◌}
use mathlib.Core.Path.{◌≡◌}
use mathlib.Core.Bool.{true}
use mathlib.Core.List.{List}
use lib.Ieee.{Float}
use Rattle.ieee.specs.Number.{+0}
use Rattle.column.specs.Entries.{zero_from}
use Rattle.path.specs.declared.path_tpc.PathTpc.{PathTpc}
use Rattle.path.specs.Records.{Columns, columns, path_of, columns_of}
use Rattle.path.specs.Sound.{within_bounds}
use Rattle.path.proofs.ReadBack.{tidy}
use Rattle.path.proofs.Clauses.{room}

pub zeroed :
    (p : PathTpc) (c : Columns) {os gs ks ss ws : List Float} {ns ds : List ℕ}
    → within_bounds p c ≡ true
    → os ≡ zero_from +0 p.link_count c.offsets
    → ns ≡ zero_from 0 (4 * p.link_count) c.numbers
    → gs ≡ zero_from +0 (3 * p.grade_count) c.grades
    → ks ≡ zero_from +0 (3 * p.curve_count) c.curves
    → ss ≡ zero_from +0 (2 * p.speed_count) c.speeds
    → ws ≡ zero_from +0 (3 * p.power_count) c.powers
    → ds ≡ zero_from 0 p.power_count c.districts
    → columns os ns gs ks ss ws ds ≡ columns_of c (path_of p c)
zeroed p c e e₁ e₂ e₃ e₄ e₅ e₆ e₇ = cc (tidy p c (room p c e), e₁, e₂, e₃, e₄, e₅, e₆, e₇)
