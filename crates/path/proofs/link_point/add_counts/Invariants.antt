-- `add_counts`: each sum with the counts from point i on is the sum of all.
use Rattle.path.specs.Records.{grade_count_of, curve_count_of, power_count_of}
use Rattle.path.proofs.Counts.{Counted}
use Rattle.path.proofs.link_point.add_counts.Given as goal

abbrev pub invariant-loop-i : goal.invariant-loop-i
invariant-loop-i l =
    Counted grade_count_of l.offsets l.numbers l.n l.i l.grades
    × Counted curve_count_of l.offsets l.numbers l.n l.i l.curves
    × Counted power_count_of l.offsets l.numbers l.n l.i l.powers
