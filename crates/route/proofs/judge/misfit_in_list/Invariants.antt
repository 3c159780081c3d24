-- `misfit_in_list`: the first misfit from field i + 1 on is the first of all.
use Rattle.std.proofs.Common.{◌≡◌, ◌+◌, ◌-◌}
use Rattle.route.specs.Forms.{list_misfit_from}
use Rattle.route.proofs.judge.misfit_in_list.Given as goal

abbrev pub invariant-loop-i : goal.invariant-loop-i
invariant-loop-i l = list_misfit_from l.text l.at (l.i + 1) (1025 - l.i) ≡ list_misfit_from l.text l.at 1 1025
