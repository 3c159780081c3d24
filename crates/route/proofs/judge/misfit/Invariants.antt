-- `misfit`: the first misfit from field k on is the first of all.
use Rattle.std.proofs.Common.{◌≡◌, ◌+◌, drop}
use Rattle.route.specs.Forms.{misfit_from}
use Rattle.route.proofs.judge.misfit.Given as goal

abbrev pub invariant-loop-asks : goal.invariant-loop-asks
invariant-loop-asks l = (misfit_from l.text l.at l.k (drop l.asks-index l.form) ≡ misfit_from l.text l.at 1 l.form) × (l.k ≡ l.asks-index + 1)
