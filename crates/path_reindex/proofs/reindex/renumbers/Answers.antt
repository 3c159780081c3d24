-- `renumbers`: a number that the list has, or 0 past it.
use mathlib.Core.Path.{sym, ap, ◌∙◌}
use Prim.Native.Nat.{ℕ}
use mathlib.Core.Bool.{not}
use lib.Dec.{eqb}
use Rattle.path_reindex.proofs.Renumbered.{has-number}
use Rattle.path_reindex.proofs.reindex.renumbers.Goals as goal

pub returns : goal.returns
returns c = ap (λ (m : ℕ). not (eqb m 0)) c.get.ensures ∙ sym (has-number c.args.new.now c.args.n)
